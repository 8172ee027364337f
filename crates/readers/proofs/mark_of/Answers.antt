-- `readers::mark_of` meets its contract: the kind of a row by its first byte, and by the others. Assumes nothing.
use Rattle.std.proofs.Common.{arith, ◌≡◌, ℕ, Bool, List, ap, sym, ◌∙◌, length, ◌≤◌, take, drop}
use lib.Seq.{take_all}
use lib.ListN.{length-drop}
use Rattle.meaning.specs.Reasons.{blank}
use Rattle.readers.proofs.Marks.{kind-ring, kind-unfilled, kind-onward, kind-low, kind-dead}
use Rattle.readers.proofs.mark_of.Goals as goal

-- the bytes after the first
rest : (row : List ℕ) {b : Bool} → length row ≡ 24 → b ≡ blank (take 23 (drop 1 row)) → blank (drop 1 row) ≡ b
rest row h e = let z : length (drop 1 row) ≤ 23 = omega (arith, length-drop 1 row) in sym (e ∙ ap blank (take_all 23 (drop 1 row) z))

pub returns-then-first-lt-ARCS_END : goal.returns-then-first-lt-ARCS_END
returns-then-first-lt-ARCS_END c = sym (kind-ring 24 _ (λ z. omega (arith, c.told-row)) c.if-first-lt-ARCS_END.true)

pub returns-then-not-is_blank : goal.returns-then-not-is_blank
returns-then-not-is_blank c =
    sym (kind-unfilled 24 _ (λ z. omega (arith, c.told-row)) c.told-row c.if-first-lt-ARCS_END.false (rest _ c.told-row c.is_blank.ensures ∙ c.if-not-is_blank.true))

pub returns-in-240 : goal.returns-in-240
returns-in-240 c =
    sym (kind-onward 24 _ (λ z. omega (arith, c.told-row)) c.told-row c.if-first-lt-ARCS_END.false (rest _ c.told-row c.is_blank.ensures ∙ c.if-not-is_blank.false) c.in-240.is)

pub returns-in_default : goal.returns-in_default
returns-in_default c =
    sym (kind-low 24 _ (λ z. omega (arith, c.told-row)) c.told-row c.if-first-lt-ARCS_END.false (rest _ c.told-row c.is_blank.ensures ∙ c.if-not-is_blank.false) (λ q. omega arith) (omega arith))

pub returns-in-200-to-255 : goal.returns-in-200-to-255
returns-in-200-to-255 c =
    rw c.from.ensures (sym (kind-dead 24 _ (λ z. omega (arith, c.told-row)) c.told-row c.if-first-lt-ARCS_END.false (rest _ c.told-row c.is_blank.ensures ∙ c.if-not-is_blank.false) (λ q. omega arith) (omega arith)))

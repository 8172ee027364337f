-- `script::atom_name` meets its contract. Assumes nothing.
use mathlib.Core.Path.{refl, sym, ◌∙◌, subst}
use Prim.Native.Nat.{ℕ, ◌≤◌}
use native.Mathlib.Omega.{arith}
use lib.ListN.{length}
use Rattle.std.specs.Prelude.{Ok, None}
use Rattle.meaning.specs.declared.Refusal.TheVariants.{Script, Itself}
use Rattle.script.specs.declared.reading.Notes.{Notes}
use Rattle.script.specs.Words.{event_of}
use Rattle.script.specs.Reading.{found, with_event}
use Rattle.script.specs.Notes.{word_at, names_of, Finds, noted, Took}
use Rattle.script.proofs.Taking.{event-refused, event-again, event-taken, kept_on, took-refused, took-going, noted-kept, noted-stands}
use Rattle.script.proofs.reading.atom_name.Goals as goal

pub returns-in_default : goal.returns-in_default
returns-in_default c =
    let a = c.args in
    let r = a.notes in
    let text = a.text.now in
    let w = word_at text a.name in
    let past : Finds (names_of text r.names) w None = rw (c.in_default.is, c.word.ensures) at c.event_of.ensures in
    let none : length (names_of text r.names) ≤ event_of (names_of text r.names) w = omega (arith, past) in
    took-refused text a.name r c.requires (with_event a.second a.name.from w) Script a.name.from refl (λ R t. event-refused R a.name.from w a.second (rw (← t.names-are) none))

pub returns-then-is_again : goal.returns-then-is_again
returns-then-is_again c =
    let a = c.args in
    let r = a.notes in
    let text = a.text.now in
    let w = word_at text a.name in
    let known = rw c.word.ensures at c.in-Some.ensures in
    took-refused text a.name r c.requires (with_event a.second a.name.from w) Itself 0 c.into.ensures
    (λ R t. event-again R a.name.from w a.second (rw (← t.names-are) (omega (arith, known.0, known.1))) (rw (← t.names-are, ← t.x-is, known.0) (sym c.is_again.ensures ∙ c.if-is_again.true)))

pub returns : goal.returns
returns c =
    let a = c.args in
    let r = a.notes in
    let text = a.text.now in
    let w = word_at text a.name in
    let known = rw c.word.ensures at c.in-Some.ensures in
    let event : ℕ = c.in-Some.event in
    subst (λ (q : Notes). Took text (with_event a.second a.name.from w) r a.name.to (Ok q)) (sym c.with_event.ensures)
    (took-going text a.name r c.requires (with_event a.second a.name.from w) (noted a.second event r) (λ R. found a.second (event_of R.names w) R)
    (noted-kept text event a.second a.name.to r (kept_on text a.name r c.requires))
    (λ R t. event-taken R a.name.from w a.second (rw (← t.names-are) (omega (arith, known.0, known.1))) (rw (← t.names-are, ← t.x-is, known.0) (sym c.is_again.ensures ∙ c.if-is_again.false)))
    (λ R t. noted-stands text event a.second r R (event_of R.names w) (rw t.names-are at (sym known.0)) t))

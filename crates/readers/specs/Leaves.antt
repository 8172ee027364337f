-- What the reader's leaves answer, in the words of the meaning's reading. Definitions only.
use denote.Ref.{Bor}
use Rattle.std.specs.Prelude.{◌≡◌, Option, Some, None, Result, Ok, Err, Bool, cond, ◌&&◌, List, [], ℕ, ◌-◌, leb, ltb, length, get_or}
use Rattle.std.specs.Option.{MatchOption}
use Rattle.std.proofs.Math.Option as maybe
use Rattle.meaning.specs.declared.Refusal.{Refusal}
use Rattle.meaning.specs.declared.Verdict.{Verdict}
use Rattle.meaning.specs.declared.Verdict.TheVariants.{Refused}
use Rattle.meaning.specs.Limits.{row_bytes}
use Rattle.meaning.specs.Problem.{Alternative, Clause}
use Rattle.meaning.specs.Reasons.{Kind, ring, onward, bad, dead_at, cycle_rows}
use Rattle.meaning.specs.Refusal.{number_of}
use Rattle.meaning.specs.Verdicts.{verdict}
use Rattle.readers.specs.declared.Mark.{Mark}
use Rattle.readers.specs.declared.Mark.TheVariants.{Ring, Onward, Dead}

-- the kind of row that a mark stands for
abbrev pub kind_of : Option Mark → Kind
kind_of None = bad
kind_of (Some Ring) = ring
kind_of (Some Onward) = onward
kind_of (Some (Dead d)) = dead_at d

-- the answer is the reading's: the rows that it leaves, or none
abbrev pub Answers : maybe.Option (List (List ℕ)) → Option (Bor (List (List ℕ))) → Type 0
Answers reads result = MatchOption result (reads ≡ maybe.none) (λ rest. reads ≡ maybe.some rest.now)

-- what 200 + d calls for, of a standing with k clauses chosen and the clauses cs to come
unfoldable pub dead_rows : List Clause → ℕ → ℕ → List Alternative → List (List ℕ) → maybe.Option (List (List ℕ))
dead_rows cs k d facts rows = let r = cycle_rows row_bytes facts (get_or cs (d - k) []) rows in cond (leb k d && ltb (d - k) (length cs)) r maybe.none

-- what a reader says, by its answer or the refusal
abbrev pub said : Result Bool Refusal → Verdict
said (Ok b) = verdict 0 b
said (Err e) = Refused (number_of e)

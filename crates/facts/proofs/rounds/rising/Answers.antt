-- `rising` finds the first event that rose: the closure asks it of one event. Assumes nothing.
use Rattle.std.proofs.Common.{ℕ, Option, Some, None, List, ◌≤◌, ◌<◌, arith, rules, tests}
use mathlib.Core.Bool.{true≢false}
use Rattle.std.specs.Option.{MatchOption}
use Rattle.std.proofs.lemmas.Iterator.{first_from_Range, serves_from_Range}
use Rattle.problem.specs.Arcs.{at}
use Rattle.facts.specs.Rounds.{Rising}
use Rattle.facts.proofs.rounds.rising.Goals as goal

-- what `find` gives is the first that rose
found-rising : (n : ℕ) (s r : List ℕ) (first : Option ℕ) → MatchOption first ((u : ℕ) → 0 ≤ u → u < n → at r u ≤ at s u) (λ v. (0 ≤ v) × (v < n) × (at s v < at r v) × ((u : ℕ) → 0 ≤ u → u < v → at r u ≤ at s u)) → Rising n s r first
found-rising n s r None h = record { rises = tt; none = λ _ u l. h u (omega arith) l }
found-rising n s r (Some v) (_, l, e, _) = record { rises = (l, e); none = λ x. absurd (true≢false x) }

pub find-requires : goal.find-requires
find-requires c =
    record { can = tt; finite = tt; callable = serves_from_Range (λ x q k. search (rules, tests)) (λ x low high. search rules) }

pub returns : goal.returns
returns c =
    found-rising c.args.n c.args.before.now c.args.after.now c.find.result
    (first_from_Range _ _ _ _ (λ v. at c.args.before.now v < at c.args.after.now v) (λ v. at c.args.after.now v ≤ at c.args.before.now v) c.find.ensures.ran
    (λ x q k. grind (arith, tests))
    (λ x q k. (search rules, grind (arith, tests))))

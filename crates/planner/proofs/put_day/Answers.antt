-- `planner::put_day` meets its contract: the selection's facts are sound, and the test gives their latest timetable. Assumes nothing.
use mathlib.Core.Path.{◌≡◌, ap, ◌∙◌}
use mathlib.Core.List.{List, ◌++◌, map}
use Prim.Native.Nat.{ℕ}
use native.Mathlib.Omega.{arith}
use lib.IntN.{ℤ, pos, neg_ℤ}
use lib.ListN.{length, take, drop}
use lib.Seq.{length-take-le}
use borrow.Author.Rules.{rules}
use Rattle.planner.proofs.Choosing.{selected-ready, selected-found, selected-day}
use Rattle.planner.proofs.put_day.Goals as goal

pub tested-requires : goal.tested-requires
tested-requires c =
    selected-ready c.args.p.now c.args.picks c.requires.0 (search rules) c.chosen_of-f.result c.chosen_of-f.ensures.0 c.chosen_of-f.ensures.1

pub returns-in-Some : goal.returns-in-Some
returns-in-Some c =
    let p = c.args.p.now in
    let times = c.in-Some.times in
    let long : length times ≡ 24 = search rules in
    let n : length (take p.n times) ≡ p.n = length-take-le p.n times (omega (arith, p.laid.most)) in
    c.put_negated.ensures
    ∙ ap (λ (d : ℕ). map (λ (m : ℕ). neg_ℤ (pos m)) (take p.n times) ++ drop d c.args.timetable.now) n
    ∙ ap (λ (d : List ℤ). d ++ drop p.n c.args.timetable.now) (selected-day p c.args.picks c.requires.0 (search rules) c.chosen_of-f.result c.chosen_of-f.ensures.0 c.requires.2 times c.in-Some.ensures)

pub returns-in_default : goal.returns-in_default
returns-in_default c =
    absurd (selected-found c.args.p.now c.args.picks c.requires.0 (search rules) c.chosen_of-f.result c.chosen_of-f.ensures.0 c.requires.2 c.in_default.ensures)

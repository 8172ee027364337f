-- `read` meets its contract. Assumes nothing.
use mathlib.Core.Path.{◌≡◌, refl, ap, ◌∙◌}
use mathlib.Core.List.{List, ◌++◌, map}
use Prim.Native.Nat.{ℕ}
use native.Mathlib.Omega.{arith}
use borrow.Author.Rules.{rules}
use lib.IntN.{ℤ}
use lib.ListN.{length, take, drop}
use lib.Seq.{length-take-le}
use Rattle.std.proofs.lemmas.Result.{err_from_is_err_and}
use Rattle.meaning.specs.Limits.{most_events}
use Rattle.meaning.specs.Decision.{time_of}
use Rattle.standing.proofs.Agreeing.{day-same, day-passed}
use Rattle.standing.proofs.Answers.{day-few, read-refused, read_taken, read-no-day, times-refused, times-taken, number-some}
use Rattle.standing.proofs.reading.read.Goals as goal

pub returns-in_err-day_refusal-clause-number : goal.returns-in_err-day_refusal-clause-number
returns-in_err-day_refusal-clause-number c =
    let day = c.args.day.now in
    let e = err_from_is_err_and c.from_residual.result c.from_residual.ensures.1 in
    rw (e.1, e.2) (read-no-day day (length c.args.timetable.now) _ (c.in_err-day_refusal.ensures ∙ day-same day _ c.numbers_of-s.ensures) (number-some c.in_err-day_refusal.field-0.0))

pub returns-in_err-day_refusal-clause-timetable_after : goal.returns-in_err-day_refusal-clause-timetable_after
returns-in_err-day_refusal-clause-timetable_after c =
    let e = err_from_is_err_and c.from_residual.result c.from_residual.ensures.1 in
    rw (e.1, e.2) (c.fill.ensures.after (λ y k. k) ∙ times-refused c.args.day.now (length c.args.timetable.now) _ (number-some c.in_err-day_refusal.field-0.0))

-- ---- a day that passes
pub returns-then-timetable-n-clause-number : goal.returns-then-timetable-n-clause-number
returns-then-timetable-n-clause-number c =
    let day = c.args.day.now in
    read-refused day (length c.args.timetable.now) (day-passed day _ c.numbers_of-s.ensures c.in_ok-day_refusal.ensures refl) (omega (arith, c.fill.ensures.len))

pub returns-then-timetable-n-clause-timetable_after : goal.returns-then-timetable-n-clause-timetable_after
returns-then-timetable-n-clause-timetable_after c =
    c.fill.ensures.after (λ y k. k) ∙ times-refused c.args.day.now (length c.args.timetable.now) 8 (λ q. omega arith)

pub grid-requires : goal.grid-requires
grid-requires c = day-few c.args.day.now (day-passed c.args.day.now _ c.numbers_of-s.ensures c.in_ok-day_refusal.ensures refl)

pub returns-clause-number : goal.returns-clause-number
returns-clause-number c =
    let day = c.args.day.now in
    read_taken day (length c.args.timetable.now) (day-passed day _ c.numbers_of-s.ensures c.in_ok-day_refusal.ensures refl) (omega (arith, c.fill.ensures.len))

pub returns-clause-timetable_after : goal.returns-clause-timetable_after
returns-clause-timetable_after c =
    let day = c.args.day.now in
    let long = length c.args.timetable.now in
    let times = c.latest-times.result in
    let p = day-passed day _ c.numbers_of-s.ensures c.in_ok-day_refusal.ensures refl in
    let few = day-few day p in
    let l : length times ≡ most_events = search rules in
    let n-times = length-take-le day.n times (omega arith) in
    let read = rw (c.grid.ensures.0, c.grid.ensures.1, c.grid.ensures.2) at c.latest-times.ensures.times in
    c.put_negated.ensures
    ∙ ap (λ (k : ℕ). map time_of (take day.n times) ++ drop k c.fill.new.self) n-times
    ∙ ap (λ (l : List ℤ). map time_of (take day.n times) ++ drop day.n l) (c.fill.ensures.after (λ y k. k))
    ∙ times-taken day long c.numbers_of-s.result c.numbers_of-s.ensures p times read

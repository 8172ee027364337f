-- `planner::plan` meets its contract: the slices are cleared, then a refusal or the search. Assumes nothing.
use mathlib.Core.Path.{refl, sym}
use lib.ListN.{length}
use Rattle.meaning.proofs.Refusals.{refused-some}
use Rattle.problem.specs.Reads.{given}
use Rattle.planner.specs.Call.{call}
use Rattle.planner.proofs.Refusals.{room_of}
use Rattle.planner.proofs.Calling.{refused-call, cleared, roomy-times, roomy-picks, accepted-call}
use Rattle.planner.proofs.plan.Goals as goal

pub planned-requires : goal.planned-requires
planned-requires c =
    let a = c.args in
    let reads = c.in-Ok.ensures.reads in
    let room = room_of (call a.n a.triples.now a.counts.now a.allowance (length c.fill.new.self) (length c.fill-2.new.self) 0) (sym (c.in-Ok.ensures.by_index 0)) in (
      rw c.from.ensures room.allowed,
      cleared _ _ _ _ _ _ (c.fill.ensures.after (λ y e. e)) (c.fill-2.ensures.after (λ y e. e)) (c.fill-3.ensures.after (λ y e. e)),
      roomy-times (length c.fill.new.self) room.times reads.events,
      roomy-picks (given a.n a.triples.now a.counts.now) c.in-Ok.p reads (length c.fill-2.new.self) room.picks,
    )

pub returns-in-Ok : goal.returns-in-Ok
returns-in-Ok c =
    let a = c.args in
    c.planned.ensures.shows _
    (accepted-call a.n a.triples.now a.counts.now a.allowance a.timetable.now _ a.picks.now _ a.reasons.now _ (c.fill.ensures.after (λ y e. e)) (c.fill-2.ensures.after (λ y e. e)) (c.fill-3.ensures.after (λ y e. e)) _ c.in-Ok.ensures.by_index refl c.in-Ok.p c.in-Ok.ensures.reads _ c.from.ensures)

pub returns-in-Err : goal.returns-in-Err
returns-in-Err c =
    let a = c.args in
    rw c.from-in-Err.ensures
    (refused-call a.n a.triples.now a.counts.now a.allowance a.timetable.now _ a.picks.now _ a.reasons.now _ (c.fill.ensures.after (λ y e. e)) (c.fill-2.ensures.after (λ y e. e)) (c.fill-3.ensures.after (λ y e. e)) _ c.in-Err.ensures.by_index (refused-some _))

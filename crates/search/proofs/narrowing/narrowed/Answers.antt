-- `narrowing::narrowed` meets its contract: the places from i on have been looked at. Assumes nothing.
use mathlib.Core.Path.{◌≡◌, ap, ◌∙◌}
use Prim.Native.Nat.{ℕ, ◌+◌, ◌-◌, ◌<◌, ◌≤◌}
use native.Mathlib.Omega.{arith}
use borrow.Author.Rules.{rules}
use lib.ListN.{length, length-drop}
use lib.Seq.{get_or-drop}
use Rattle.problem.specs.declared.Problem.{Problem}
use Rattle.problem.specs.Arcs.{Arc, at, places}
use Rattle.problem.specs.Laid.{arcs}
use Rattle.facts.specs.Tests.{Within}
use Rattle.held.specs.declared.Facts.{Facts}
use Rattle.held.specs.Held.{held}
use Rattle.taking.proofs.Taking.{table-small}
use Rattle.search.proofs.Tables.{arc-wide}
use Rattle.search.proofs.Asides.{looking-kept, looked}
use Rattle.search.proofs.narrowing.narrowed.Goals as goal

-- each place from the newest on holds an arc
fact-arc : (p : Problem) (f : Facts) (w k : ℕ) → length f.buffer ≡ places → Within (arcs p) (held f) p.n → p.n ≤ w → f.at ≤ k → k < places → Arc (arcs p) w (at f.buffer k)
fact-arc p f w k long within wide after below =
    let place : at (held f) (k - f.at) ≡ at f.buffer k = get_or-drop f.at f.buffer (k - f.at) 0 ∙ ap (at f.buffer) (let e : f.at + (k - f.at) ≡ k = omega arith in e) in
    arc-wide (arcs p) p.n w (at f.buffer k) wide (rw place at (within.known.each (k - f.at) (omega (arith, length-drop f.at f.buffer))))

pub closes-requires : goal.closes-requires
closes-requires g c =
    let p = c.args.p.now in
    let f = c.args.f.now in
    let (all, row) = table-small g.row.W c.requires.3 in (
      all,
      (
        row,
        (
          c.requires.3,
          rw c.from.ensures (fact-arc p f g.row.W f.at (search rules) c.requires.0 c.requires.2 (omega arith) c.requires.1),
          rw c.from-in-loop-i.ensures (fact-arc p f g.row.W (c.loop-i.i - 1) (search rules) c.requires.0 c.requires.2 (omega arith) (omega arith)),
          c.requires.4,
        ),
      ),
    )

pub loop-i-preserved-then-closes : goal.loop-i-preserved-then-closes
loop-i-preserved-then-closes g c =
    looking-kept g.row.W c.args.p.now c.args.f.now c.args.day.now (search rules) c.loop-i.kept c.loop-i.i (c.loop-i.i - 1) (omega arith) (omega arith) (omega arith) c.loop-i.invariant c.put.new.self c.put.ensures.0 c.put.ensures.1

pub put-requires : goal.put-requires
put-requires g c = omega (arith, c.loop-i.invariant.room, c.loop-i.invariant.after)

pub returns : goal.returns
returns g c =
    looked g.row.W c.args.p.now c.args.f.now c.args.day.now (search rules) c.loop-i.kept c.put-2.new.self c.loop-i.i (omega (arith, c.loop-i.invariant.after)) c.loop-i.invariant c.put-2.ensures.0

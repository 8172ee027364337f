-- `search::taken::facts_of` meets its contract: the positions still to come, put before what the buffer holds, give the facts of the standing. Assumes nothing.
use mathlib.Core.Path.{◌≡◌, sym, ap, ◌∙◌}
use Prim.Native.Nat.{◌+◌}
use native.Mathlib.Omega.{arith}
use lib.ListN.{take, drop}
use borrow.Author.Rules.{rules}
use Rattle.problem.specs.Arcs.{at}
use Rattle.held.specs.Held.{held}
use Rattle.search.specs.Standing.{standing_facts}
use Rattle.search.proofs.Numbers.{clause-next, picks-enough, standing-step, all-taken}
use Rattle.search.proofs.taken.facts_of.Goals as goal

pub loop-c-preserved : goal.loop-c-preserved
loop-c-preserved c =
    let l = c.loop-c in
    let s = c.args.s in
    let in-clause = c.requires.each l.c (omega arith) in
    let next = clause-next c.args.p.now l.c (omega (arith, c.requires.few)) in
    record {
      same =
          ap (standing_facts c.args.p.now.starts (l.c + 1) (drop (l.c + 1) (take s.k s.picks))) c.put_position.ensures.0
          ∙ sym (standing-step c.args.p.now.starts s.picks (held l.f) s.k l.c (omega arith) (picks-enough c.requires (search rules)))
          ∙ l.invariant.same;
      room = omega (arith, c.put_position.ensures.1);
    }

pub returns : goal.returns
returns c =
    let l = c.loop-c in
    let s = c.args.s in
    let whole : l.c ≡ s.k = omega arith in
    (all-taken c.args.p.now.starts s.picks (held l.f) s.k l.c whole l.invariant.same, omega (arith, ap (at c.args.p.now.starts) whole))

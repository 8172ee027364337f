-- `search::taken::chosen_of` meets its contract: the alternatives of the positions from i on are held. Assumes nothing.
use mathlib.Core.Path.{◌≡◌, sym, ap, ◌∙◌}
use mathlib.Core.List.{List, ◌∷◌}
use Prim.Native.Nat.{ℕ, ◌+◌, ◌-◌}
use native.Mathlib.Omega.{arith}
use lib.ListN.{take, drop}
use borrow.Author.Rules.{rules}
use Rattle.problem.specs.Arcs.{at}
use Rattle.search.specs.Standing.{chosen_facts}
use Rattle.search.proofs.Numbers.{picks-enough, chosen-front, chosen-end}
use Rattle.search.proofs.taken.chosen_of.Goals as goal

pub loop-i-init : goal.loop-i-init
loop-i-init c =
    record { chosen = c.none-f.ensures.0 ∙ sym (chosen-end c.args.p.now.starts c.args.picks c.args.p.now.m); room = omega (arith, c.none-f.ensures.1) }

pub loop-i-preserved : goal.loop-i-preserved
loop-i-preserved c =
    let i = c.loop-i.i in
    let whole : i - 1 + 1 ≡ i = omega arith in
    record {
      chosen =
          c.put.ensures.0
          ∙ ap (λ (L : List ℕ). (at c.args.p.now.starts (i - 1) + at c.args.picks (i - 1)) ∷ L) (c.loop-i.invariant.chosen ∙ ap (λ (d : ℕ). chosen_facts c.args.p.now.starts d (drop d (take c.args.p.now.m c.args.picks))) (sym whole))
          ∙ sym (chosen-front c.args.p.now.starts c.args.picks c.args.p.now.m (i - 1) (omega arith) (picks-enough c.requires (search rules)));
      room = omega (arith, c.put.ensures.1);
    }

-- `pair` gives the row of the newest fact and the smallest-numbered that leads back: no closed row has fewer facts, and none of as many comes before it. Assumes nothing.
use mathlib.Core.Bool.{true≢false}
use Rattle.std.proofs.Common.{◌≡◌, ℕ, refl, arith, sym, ap, ◌∙◌}
use Rattle.problem.specs.Arcs.{Net, net, at, head, tail}
use Rattle.problem.proofs.Knowing.{head-is, tail-is}
use Rattle.shortest.proofs.Pairing.{pair-names}
use Rattle.shortest.proofs.pairs.pair.Goals as goal

pub returns : goal.returns
returns c =
    let g : Net = net c.args.arcs.now in
    let b = c.in_ok-back in
    let apart : head g (at c.args.facts.now 0) ≡ tail g (at c.args.facts.now 0) → ⊥ = λ h. c.if-there.false (sym (head-is c.args.arcs.now c.from.result) ∙ ap (λ (j : ℕ). head g j) c.from.ensures ∙ h ∙ ap (λ (j : ℕ). tail g j) (sym c.from.ensures) ∙ tail-is c.args.arcs.now c.from.result) in
    record {
      some = pair-names g c.args.facts.now c.requires.3 apart b.back (record { place = 0; below = omega arith; same = refl }) b.ensures.some (λ j r. b.ensures.least j r) c.requires.1 c.min.result c.max.result c.min.ensures c.max.ensures;
      none = λ e. absurd (true≢false e);
    }

-- `fewest` tells the fewest facts of a closed row: after i turns those of the rows from the tails of the first i facts; and by the law those of all. Assumes nothing.
use Rattle.std.proofs.Common.{◌≡◌, ◌<◌, ℕ, arith, sym, ◌∙◌, ap}
use lib.Seq.{get_or-take, length-take-le}
use Rattle.meaning.specs.Limits.{most_events}
use Rattle.problem.specs.Arcs.{net, at, tail}
use Rattle.problem.proofs.Knowing.{tail-is}
use Rattle.facts.proofs.Deciding.{within_more}
use Rattle.shortest.proofs.Reaching.{kept-within}
use Rattle.shortest.proofs.Newest.{fewest-more, fewest-end}
use Rattle.shortest.proofs.fewest.Goals as goal

pub loop-j-preserved : goal.loop-j-preserved
loop-j-preserved c =
    let l = c.loop-j in
    let w = within_more _ c.args.facts.now c.args.n most_events c.requires.1 c.requires.0 in
    let k : l.j-index < c.args.news = omega (arith, length-take-le c.args.news c.args.facts.now c.requires.3) in
    let e : c.from-t.result ≡ tail (net c.args.arcs.now) (at c.args.facts.now l.j-index) = c.from-t.ensures ∙ sym (tail-is c.args.arcs.now c.from.result) ∙ ap (λ (j : ℕ). tail (net c.args.arcs.now) j) (c.from.ensures ∙ get_or-take c.args.news c.args.facts.now l.j-index 0 k) in
    rw c.unwrap_or-size.ensures
    (fewest-more _ _ c.args.n l.j-index l.size _ _ _ l.invariant c.requires.1 (kept-within _ _ most_events w) (omega (arith, e, w.known.each l.j-index (omega arith))) e (omega (arith, l.invariant.least)) _ c.rounds_to.ensures)

pub returns : goal.returns
returns c =
    let l = c.loop-j in
    let e : l.j-index ≡ c.args.news = omega (arith, length-take-le c.args.news c.args.facts.now c.requires.3) in
    fewest-end _ _ c.args.n c.args.news l.size (rw e at l.invariant) c.requires.0 c.requires.2 c.requires.4

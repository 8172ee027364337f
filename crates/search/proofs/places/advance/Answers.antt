-- `search::places::advance` meets its contract: the positions passed can't go on, so the next standing is that of those left. Assumes nothing.
use mathlib.Core.Path.{◌≡◌, sym, ap, ◌∙◌}
use mathlib.Core.Bool.{true≢false}
use Prim.Native.Nat.{ℕ, ◌+◌, ◌-◌, ◌<◌, ◌≤◌}
use native.Mathlib.Omega.{arith}
use lib.ListN.{take}
use borrow.Author.Rules.{rules}
use Rattle.meaning.specs.Search.{next}
use Rattle.problem.specs.Arcs.{at}
use Rattle.problem.specs.Laid.{size_of, clauses_in}
use Rattle.search.proofs.Numbers.{clause-next, picks-enough}
use Rattle.search.proofs.Ranks.{next-none, next-back, next-on, inside_on}
use Rattle.search.proofs.places.advance.Goals as goal

pub returns-then-next-p : goal.returns-then-next-p
returns-then-next-p c =
    let i = c.loop-i.i in
    let s = c.args.s in
    let follows = clause-next c.args.p.now (i - 1) (omega (arith, c.requires.few)) in
    let long = picks-enough c.requires (search rules) in
    let room : at s.picks (i - 1) + 1 < size_of c.args.p.now (i - 1) = omega arith in
    let whole : i ≡ i - 1 + 1 = omega arith in
    record {
      goes = (
        sym c.loop-i.invariant ∙ ap (λ (d : ℕ). next (clauses_in c.args.p.now) (take d s.picks)) whole ∙ next-on c.args.p.now s.picks s.k (i - 1) c.requires (omega arith) long room,
        inside_on c.args.p.now s.picks s.k (i - 1) c.requires (omega arith) long room,
        search rules,
      );
      ends = λ e. absurd (true≢false e);
    }

pub loop-i-preserved : goal.loop-i-preserved
loop-i-preserved c =
    let i = c.loop-i.i in
    let s = c.args.s in
    let follows = clause-next c.args.p.now (i - 1) (omega (arith, c.requires.few)) in
    let long = picks-enough c.requires (search rules) in
    let last : size_of c.args.p.now (i - 1) ≤ at s.picks (i - 1) + 1 = omega arith in
    let whole : i - 1 + 1 ≡ i = omega arith in
    sym (next-back c.args.p.now s.picks s.k (i - 1) c.requires (omega arith) long last) ∙ ap (λ (d : ℕ). next (clauses_in c.args.p.now) (take d s.picks)) whole ∙ c.loop-i.invariant

pub returns : goal.returns
returns c =
    let none_left : 0 ≡ c.loop-i.i = omega arith in
    record {
      goes = tt;
      ends = λ e. sym c.loop-i.invariant ∙ ap (λ (d : ℕ). next (clauses_in c.args.p.now) (take d c.args.s.picks)) (sym none_left) ∙ next-none (clauses_in c.args.p.now);
    }

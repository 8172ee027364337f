-- `all_kept` meets its contract. Assumes nothing.
use Prim.Native.Nat.{ℕ}
use borrow.Author.Rules.{rules}
use Rattle.meaning.specs.Limits.{most_events}
use Rattle.distances.specs.Adding.{no_longer, and_then}
use Rattle.distances.specs.Numbers.{table_at}
use Rattle.standing.specs.Standing.{every}
use Rattle.standing.proofs.Every.{every-range}
use Rattle.standing.proofs.check.all_kept.Goals as goal

pub returns : goal.returns
returns c =
    let a = c.args in
    let d = table_at a.s.now 0 most_events in
    every-range a.n (λ (u : ℕ). every a.n (λ (w : ℕ). every a.n (λ (v : ℕ). no_longer (d u v) (and_then (d u w) (d w v))))) c.all.ensures.ran (cc) (λ x q k. search rules) (λ x q k. search rules)

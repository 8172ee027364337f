-- `row_placed` meets its contract. Assumes nothing.
use Prim.Native.Nat.{ℕ}
use borrow.Author.Rules.{rules}
use Rattle.meaning.specs.Limits.{most_events}
use Rattle.distances.specs.Numbers.{table_at}
use Rattle.standing.specs.Numbers.{placed_at}
use Rattle.standing.proofs.Every.{every-range}
use Rattle.standing.proofs.check.row_placed.Goals as goal

pub returns : goal.returns
returns c =
    let a = c.args in
    let d = table_at a.s.now 0 most_events in
    every-range most_events (λ (v : ℕ). placed_at a.n a.u v (d a.u v)) c.all.ensures.ran (cc) (λ x q k. search rules) (λ x q k. search rules)

-- `table::lower_row` meets its contract: the numbers before v are lowered. Assumes nothing.
use mathlib.Core.Path.{◌∙◌}
use Prim.Native.Nat.{ℕ, ◌+◌, ◌-◌, min}
use native.Mathlib.Omega.{arith}
use lib.ListN.{length-set}
use Rattle.laws.proofs.Lists.{front-more}
use Rattle.problem.specs.Arcs.{at}
use Rattle.taking.specs.Tables.{turn}
use Rattle.taking.proofs.table.lower_row.Goals as goal

pub loop-v-preserved : goal.loop-v-preserved
loop-v-preserved g c = (
  length-set c.loop-v.lowered c.loop-v.v c.lower.result ∙ c.loop-v.invariant.0,
  record { each = front-more 0 (λ (k : ℕ). min (at c.args.row k) (at c.args.past k + c.args.way - turn)) c.loop-v.lowered c.loop-v.v c.lower.result c.loop-v.invariant.1.each (omega arith) c.lower.ensures },
)

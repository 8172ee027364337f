-- `main` is safe and ends. Assumes nothing.
use Prim.Native.Nat.{ℕ}
use mathlib.Core.Path.{sym}
use lib.ListN.{length-replicate}
use Rattle.table.proofs.main.Goals as goal

pub slice_bounds-talk-end : goal.slice_bounds-talk-end
slice_bounds-talk-end c = sym (length-replicate {A = ℕ} 1048577 0)

pub slice_bounds-talk-end-2 : goal.slice_bounds-talk-end-2
slice_bounds-talk-end-2 c = sym (length-replicate {A = ℕ} 266240 0)

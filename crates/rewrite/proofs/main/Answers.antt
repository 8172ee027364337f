-- `main` meets its contract: nothing is read or written outside memory. Assumes nothing.
use mathlib.Core.Path.{◌≡◌}
use native.Mathlib.Omega.{arith}
use borrow.Author.Rules.{rules}
use lib.ListN.{length, length-take}
use Rattle.script.specs.Text.{longest_text}
use Rattle.rewrite.proofs.main.Goals as goal

pub slice_bounds-write_all-end : goal.slice_bounds-write_all-end
slice_bounds-write_all-end c =
    let l : length c.rewrite-length.new.out ≡ longest_text = search rules in
    simp length-take (omega arith)

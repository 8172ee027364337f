-- `script` is safe and ends: a script that is read lies within its limits. Assumes nothing.
use Prim.Native.Nat.{ℕ, ◌≤◌}
use mathlib.Core.Path.{◌≡◌, sym}
use mathlib.Core.List.{List}
use Rattle.std.specs.Prelude.{Result, Ok, Err, IfOk}
use Rattle.meaning.specs.Limits.{most_alternatives, most_clauses}
use Rattle.script.specs.declared.Script.{Script}
use Rattle.script.specs.declared.Refused.{Refused}
use Rattle.script.specs.Script.{script_in}
use Rattle.script.proofs.Fronts.{script-within}
use Rattle.table.proofs.operations.script.Goals as goal

within : (text : List ℕ) (r : Result Script Refused) → r ≡ script_in text → IfOk r (λ s. (s.rules.alternatives ≤ most_alternatives) × (s.rules.clauses ≤ most_clauses))
within text (Ok s) e = script-within text s (sym e)
within text (Err x) e = tt

pub put_script-requires : goal.put_script-requires
put_script-requires c = within _ c.read_script-script.result c.read_script-script.ensures

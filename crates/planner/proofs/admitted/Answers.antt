-- `planner::admitted` meets its contract: the problem's refusals, then 7 and 8. Assumes nothing.
use mathlib.Core.Path.{sym, ◌∙◌}
use native.Mathlib.Omega.{arith}
use native.Mathlib.Nat.{pos_of_ne-zero}
use Rattle.std.proofs.lemmas.Result.{err_from_is_err_and}
use Rattle.meaning.proofs.Refusals.{refused-some}
use Rattle.planner.proofs.Refusals.{refused-problem, refused-allowance, refused-times, refused-picks, taken}
use Rattle.planner.proofs.admitted.Goals as goal
use Rattle.planner.proofs.admitted.Goals.{then-times-n-via-then-times-n, then-times-n-via-else-times-n+then-picks-counts}

pub returns-in_err-p-clause-by_index : goal.returns-in_err-p-clause-by_index
returns-in_err-p-clause-by_index c =
    λ room.
    let q = err_from_is_err_and c.from_residual.result c.from_residual.ensures.1 in
    let e = c.in_err-p.ensures.number in
    rw (q.1, q.2) (e ∙ refused-problem _ (pos_of_ne-zero (λ z. refused-some _ (e ∙ z))))

pub returns-then-allowance-gt-ALLOWANCE-clause-by_index : goal.returns-then-allowance-gt-ALLOWANCE-clause-by_index
returns-then-allowance-gt-ALLOWANCE-clause-by_index c = λ room. refused-allowance _ (sym c.in_ok-p.ensures.number) c.if-allowance-gt-ALLOWANCE.true

pub returns-then-times-n-clause-by_index : goal.returns-then-times-n-clause-by_index
returns-then-times-n-clause-by_index c =
    λ room.
    let z = sym c.in_ok-p.ensures.number in
    elim c.then-times-n.branch [
      | then-times-n-via-then-times-n w ↦ refused-times _ z (omega arith) (omega arith)
      | then-times-n-via-else-times-n+then-picks-counts w ↦ refused-picks _ z (omega arith) (omega arith) (omega arith)
    ]

pub returns-clause-by_index : goal.returns-clause-by_index
returns-clause-by_index c = λ room. taken _ (sym c.in_ok-p.ensures.number) (omega arith) (omega arith) (omega arith)

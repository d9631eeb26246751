use Rattle.scope.proofs.WordLaws.{sorted_none, sorted_some}
use Rattle.table.proofs.solver_of.Goals as goal

pub returns-in_err-index_at : goal.returns-in_err-index_at
returns-in_err-index_at c =
    sorted_none (λ i. record { 0 = i }) _ _ _ c.index_at.ensures c.in_err-index_at.was c.from_residual.ensures

pub returns : goal.returns
returns c = sorted_some (λ i. record { 0 = i }) _ _ _ c.index_at.ensures c.in_ok-index_at.was

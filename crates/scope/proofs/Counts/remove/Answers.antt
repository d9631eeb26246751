use native.Mathlib.Omega.{arith}
use Rattle.scope.proofs.StoredLaws.{removed_is}
use Rattle.scope.proofs.Counts.remove.Goals as goal

pub returns-clause-value : goal.returns-clause-value
returns-clause-value c =
    let e = c.args in
    removed_is e.self e.solver.0 _ _ _ c.requires.solver_in_bounds c.requires.solver_lt_solver c.requires.next_value c.cut.ensures.b_value (omega (arith, c.min.ensures))

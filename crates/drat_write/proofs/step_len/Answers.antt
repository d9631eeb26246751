use native.Mathlib.Omega.{arith}
use Rattle.drat.proofs.Steps.{step_length}
use Rattle.drat_write.proofs.step_len.Goals as goal

pub returns-clause-value : goal.returns-clause-value
returns-clause-value c =
    let a = c.args in
    let l = step_length a.f a.k a.lits.now in
    omega arith

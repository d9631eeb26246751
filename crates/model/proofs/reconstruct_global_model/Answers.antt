use Rattle.model.proofs.RowLaws.{globals_start, globals_next, globals_end}
use native.Mathlib.Omega.{arith}
use Rattle.model.proofs.reconstruct_global_model.Goals as goal

pub loop-g-init : goal.loop-g-init
loop-g-init c = globals_start _ _

pub loop-g-preserved : goal.loop-g-preserved
loop-g-preserved c = globals_next _ _ _ _ _ c.loop-g.invariant c.global_value.ensures.value

pub returns : goal.returns
returns c = globals_end _ _ _ _ c.loop-g.invariant (omega arith) (omega arith)

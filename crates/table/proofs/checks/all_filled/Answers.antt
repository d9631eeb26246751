use mathlib.Core.Path.{refl}
use Rattle.table.proofs.CheckLaws.{all_start, all_step}
use Rattle.table.proofs.checks.all_filled.Goals as goal

pub loop-i-init : goal.loop-i-init
loop-i-init c = all_start _

pub loop-i-preserved : goal.loop-i-preserved
loop-i-preserved c = all_step _ _ _ _ c.loop-i.invariant refl

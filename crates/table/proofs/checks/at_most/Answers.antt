use Rattle.table.proofs.CheckLaws.{all_start, all_step, most_end}
use native.Mathlib.Omega.{arith}
use mathlib.Core.Path.{refl}
use Rattle.table.proofs.checks.at_most.Goals as goal

pub loop-i-init : goal.loop-i-init
loop-i-init c = all_start _

pub loop-i-preserved : goal.loop-i-preserved
loop-i-preserved c = all_step _ _ _ _ c.loop-i.invariant refl

pub returns : goal.returns
returns c = most_end _ _ _ _ _ (c.requires.mark_in_bounds) (c.requires.xs_value) c.loop-i.invariant (omega arith)

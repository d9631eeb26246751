use Rattle.table.proofs.CheckLaws.{tail_start, two_step, two_end}
use native.Mathlib.Omega.{arith}
use mathlib.Core.Bool.{◌&&◌}
use mathlib.Core.Path.{ap₂}
use Rattle.table.proofs.checks.two_tails_ok.Goals as goal

pub loop-i-init : goal.loop-i-init
loop-i-init c = ap₂ ◌&&◌ (tail_start _ _ _) (tail_start _ _ _)

pub loop-i-preserved : goal.loop-i-preserved
loop-i-preserved c =
    two_step _ _ _ _ _ (omega arith) c.loop-i-test.true c.requires.ys_len c.loop-i.invariant

pub returns : goal.returns
returns c = two_end _ _ _ _ _ c.loop-i.invariant (omega arith) c.requires.ys_len

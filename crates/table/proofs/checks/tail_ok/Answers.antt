use Rattle.table.proofs.CheckLaws.{tail_start, tail_step, tail_end}
use native.Mathlib.Omega.{arith}
use Rattle.table.proofs.checks.tail_ok.Goals as goal

pub loop-i-init : goal.loop-i-init
loop-i-init c = tail_start _ _ _

pub loop-i-preserved : goal.loop-i-preserved
loop-i-preserved c =
    tail_step _ _ _ _ _ (omega arith) c.loop-i-test.true c.loop-i.invariant

pub returns : goal.returns
returns c = tail_end _ _ _ _ _ c.loop-i.invariant (omega arith)

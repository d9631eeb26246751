use Rattle.modes.proofs.HiddenLaws.{fine_more, fine_end}
use Rattle.table.proofs.CheckLaws.{all_start}
use native.Mathlib.Omega.{arith}
use Rattle.modes.proofs.none_assumed.Goals as goal

pub loop-g-init : goal.loop-g-init
loop-g-init c = all_start _

pub loop-g-preserved : goal.loop-g-preserved
loop-g-preserved c = fine_more c.args.records.now _ _ _ _ c.requires c.loop-g-test.true c.is_hidden.ensures c.loop-g.invariant

pub returns : goal.returns
returns c = fine_end c.args.records.now _ _ _ (omega arith) c.loop-g.invariant

use mathlib.Core.Path.{refl}
use Rattle.base.proofs.StoreLaws.{copy_next}
use Rattle.steps.proofs.rename.copy_hashes.Goals as goal

pub loop-i-preserved : goal.loop-i-preserved
loop-i-preserved c = copy_next (λ x. x) c.args.out.now c.args.hashes.now _ _ _ c.loop-i-test.true c.loop-i.invariant refl

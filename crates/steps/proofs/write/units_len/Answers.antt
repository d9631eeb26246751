use mathlib.Core.Path.{ap}
use lib.ListN.{length}
use native.Mathlib.Omega.{arith}
use Rattle.steps.proofs.UnitLaws.{units_length, units_done}
use Rattle.steps.proofs.write.units_len.Goals as goal

pub loop-i-preserved : goal.loop-i-preserved
loop-i-preserved c = (
  omega (
    arith,
    c.step_len-n.ensures.value,
    units_length c.args.f c.args.lits.now c.loop-i.i c.loop-i-test.true,
  ),
  omega (arith, c.step_len-n.ensures.upper_bound),
)

pub returns-clause-value : goal.returns-clause-value
returns-clause-value c = omega (arith, ap length (units_done c.args.f c.args.lits.now c.loop-i.i c.loop-i-test.false))

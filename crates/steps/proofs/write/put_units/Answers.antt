use mathlib.Core.Path.{sym, ap, ◌∙◌}
use lib.Seq.{sets}
use lib.ListN.{length}
use native.Mathlib.Omega.{arith}
use Rattle.steps.proofs.UnitLaws.{units_length, units_done, units_put}
use Rattle.steps.proofs.write.put_units.Goals as goal

pub put_step-p-requires-clause-lits_in_bounds : goal.put_step-p-requires-clause-lits_in_bounds
put_step-p-requires-clause-lits_in_bounds c =
    omega (
      arith,
      units_length c.args.f c.args.lits.now c.loop-i.i c.loop-i-test.true,
      c.requires.lits_in_bounds,
      c.loop-i.invariant.0,
      c.loop-i.invariant.1,
    )

pub loop-i-preserved : goal.loop-i-preserved
loop-i-preserved c =
    let a = c.args in
    let i = c.loop-i.i in (
      c.put_step-p.auto.out ∙ c.loop-i.invariant.0,
      omega (arith, c.put_step-p.ensures.value, units_length a.f a.lits.now i c.loop-i-test.true),
      units_put a.f a.lits.now _ _ _ _ i c.loop-i-test.true c.put_step-p.ensures.fills c.put_step-p.ensures.value ∙ c.loop-i.invariant.2,
    )

pub returns-clause-value : goal.returns-clause-value
returns-clause-value c =
    let d = units_done c.args.f c.args.lits.now c.loop-i.i c.loop-i-test.false in
    omega (arith, ap length d)

pub returns-clause-fills : goal.returns-clause-fills
returns-clause-fills c =
    let d = units_done c.args.f c.args.lits.now c.loop-i.i c.loop-i-test.false in
    sym (ap (sets c.loop-i.out c.loop-i.p) d) ∙ c.loop-i.invariant.2

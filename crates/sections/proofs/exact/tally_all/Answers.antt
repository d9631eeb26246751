use Rattle.sections.proofs.TallyLaws.{tally_more, tally_fits}
use mathlib.Core.Path.{refl}
use native.Mathlib.Omega.{arith}
use Rattle.sections.proofs.exact.tally_all.Goals as goal

pub overflow_add-tally : goal.overflow_add-tally
overflow_add-tally c =
    omega (
      arith,
      tally_fits c.args.es.now _ c.loop-e.e-index c.loop-e-test.true
          (c.requires.codes c.loop-e.e-index c.loop-e-test.true) c.loop-e.invariant,
    )

pub loop-e-preserved : goal.loop-e-preserved
loop-e-preserved c =
    tally_more c.args.es.now c.loop-e.tally c.loop-e.e-index c.loop-e-test.true
    (c.requires.codes c.loop-e.e-index c.loop-e-test.true) _ refl c.loop-e.invariant

use Prim.Native.Nat.{◌-◌}
use lib.ListN.{length}
use Rattle.drat.specs.declared.Format.TheVariants.{Binary}
use Rattle.drat_read.proofs.BodyLaws.{BodyFilling}
use Rattle.drat_read.proofs.fill.codes_from.Given as goal

abbrev pub invariant-loop-at : goal.invariant-loop-at
invariant-loop-at l = BodyFilling Binary l.s l.initial.codes l.from l.first l.codes l.at l.n

abbrev pub decreases-loop-at : goal.decreases-loop-at
decreases-loop-at l = length l.s - l.at

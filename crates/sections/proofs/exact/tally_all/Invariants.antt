use Rattle.sections.specs.Tally.{Tallied}
use lib.ListN.{take}
use Rattle.sections.proofs.exact.tally_all.Given as goal

abbrev pub invariant-loop-e : goal.invariant-loop-e
invariant-loop-e l = Tallied (take l.e-index l.es) l.tally

use Rattle.held.specs.Parts.{HeldRun}
use Rattle.held.proofs.held_lits.Given as goal

abbrev pub invariant-loop-i : goal.invariant-loop-i
invariant-loop-i l = HeldRun l.gu l.sg l.lits l.from l.initial.codes l.i l.codes

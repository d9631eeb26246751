use Rattle.dimacs_read.proofs.HeadingLaws.{Running}
use Rattle.dimacs_read.proofs.heading.run_at.Given as goal

abbrev pub invariant-loop-i : goal.invariant-loop-i
invariant-loop-i l = Running l.s l.from l.i l.value

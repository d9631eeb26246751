use Rattle.distinct.proofs.NeedLaws.{PlainTo}
use Rattle.distinct.proofs.count_needs_plain.Given as goal

abbrev pub invariant-loop-i : goal.invariant-loop-i
invariant-loop-i l = PlainTo l.mark l.gu l.sg l.lits l.i l.n

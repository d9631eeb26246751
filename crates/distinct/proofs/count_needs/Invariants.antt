use Rattle.distinct.proofs.NeedLaws.{MarkedTo}
use Rattle.distinct.proofs.count_needs.Given as goal

abbrev pub invariant-loop-code : goal.invariant-loop-code
invariant-loop-code l = MarkedTo l.mark l.gu l.sg l.lits l.code-index l.seen l.n

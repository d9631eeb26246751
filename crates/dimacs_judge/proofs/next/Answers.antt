use Rattle.dimacs_judge.specs.Local.{may_follow}
use Rattle.dimacs_judge.proofs.next.Goals as goal

pub returns : goal.returns
unfolding may_follow
returns c = cc

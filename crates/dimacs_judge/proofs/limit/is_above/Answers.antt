use Rattle.dimacs_judge.specs.Limits.{above}
use Rattle.dimacs_judge.proofs.limit.is_above.Goals as goal

pub returns : goal.returns
unfolding above
returns c = cc

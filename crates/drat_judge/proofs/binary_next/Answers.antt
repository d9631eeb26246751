use Rattle.drat_judge.specs.Local.{binary_next}
use Rattle.drat_judge.proofs.binary_next.Goals as goal

pub returns : goal.returns
unfolding binary_next
returns c = cc

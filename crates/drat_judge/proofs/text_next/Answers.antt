use Rattle.drat_judge.specs.Local.{text_next}
use Rattle.drat_judge.proofs.text_next.Goals as goal

pub returns : goal.returns
unfolding text_next
returns c = cc

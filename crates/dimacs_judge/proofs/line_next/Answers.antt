use Rattle.dimacs_judge.specs.Local.{line_next}
use Rattle.dimacs_judge.proofs.line_next.Goals as goal

pub returns : goal.returns
unfolding line_next
returns c = cc

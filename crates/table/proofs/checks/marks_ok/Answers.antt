use Rattle.scope.specs.Sound.{marksb}
use mathlib.Core.Path.{refl}
use Rattle.table.proofs.checks.marks_ok.Goals as goal

pub returns : goal.returns
unfolding marksb
returns c = refl

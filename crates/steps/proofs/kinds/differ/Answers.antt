use mathlib.Core.Path.{refl}
use Rattle.scope.specs.Write.{unmatched}
use Rattle.steps.proofs.kinds.differ.Goals as goal

pub returns : goal.returns
unfolding unmatched
returns c = rw c.is_units.ensures refl

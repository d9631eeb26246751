use Rattle.scope.specs.Sound.{sizesb}
use mathlib.Core.Path.{refl}
use Rattle.table.proofs.Lists.sizes_ok.Goals as goal

pub returns : goal.returns
unfolding sizesb
returns c = refl

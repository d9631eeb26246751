use Rattle.scope.specs.Table.{is_shown}
use Rattle.table.specs.Checks.{rowb}
use mathlib.Core.Path.{refl}
use Rattle.table.proofs.checks.row_ok.Goals as goal

pub returns : goal.returns
unfolding rowb is_shown
returns c = refl

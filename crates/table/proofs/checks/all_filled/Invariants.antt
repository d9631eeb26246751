use mathlib.Core.Path.{◌≡◌}
use Rattle.base.specs.Bounded.{all_below}
use Rattle.table.specs.Checks.{is_filled}
use Rattle.table.proofs.checks.all_filled.Given as goal

abbrev pub invariant-loop-i : goal.invariant-loop-i
invariant-loop-i l = l.ok ≡ all_below l.i (is_filled l.xs)

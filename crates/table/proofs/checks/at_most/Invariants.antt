use Rattle.table.proofs.CheckLaws.{most_at}
use Rattle.base.specs.Bounded.{all_below}
use mathlib.Core.Path.{◌≡◌}
use Rattle.table.proofs.checks.at_most.Given as goal

abbrev pub invariant-loop-i : goal.invariant-loop-i
invariant-loop-i l = l.ok ≡ all_below l.i (most_at l.m l.xs)

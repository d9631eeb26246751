use Rattle.table.proofs.CheckLaws.{tail_at}
use Rattle.base.specs.Bounded.{all_below}
use mathlib.Core.Path.{◌≡◌}
use Rattle.table.proofs.checks.tail_ok.Given as goal

abbrev pub invariant-loop-i : goal.invariant-loop-i
invariant-loop-i l = l.ok ≡ all_below l.i (tail_at l.mark l.blank l.xs)

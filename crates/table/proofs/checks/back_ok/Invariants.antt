use Rattle.table.proofs.CheckLaws.{back_at}
use Rattle.base.specs.Bounded.{all_below}
use mathlib.Core.Path.{◌≡◌}
use Rattle.table.proofs.checks.back_ok.Given as goal

abbrev pub invariant-loop-i : goal.invariant-loop-i
invariant-loop-i l = l.ok ≡ all_below l.i (back_at l.a l.b)

use Rattle.table.proofs.CheckLaws.{row_at}
use Rattle.base.specs.Bounded.{all_below}
use mathlib.Core.Path.{◌≡◌}
use Rattle.table.proofs.checks.rows_ok.Given as goal

abbrev pub invariant-loop-i : goal.invariant-loop-i
invariant-loop-i l = l.ok ≡ all_below l.i (row_at l.records l.ug l.sg)

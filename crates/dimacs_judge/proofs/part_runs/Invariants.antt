use mathlib.Core.Bool.{◌&&◌}
use mathlib.Core.Path.{◌≡◌}
use Rattle.dimacs_judge.specs.Local.{runs_at}
use Rattle.dimacs_judge.proofs.part_runs.Given as goal

abbrev pub invariant-loop-i : goal.invariant-loop-i
invariant-loop-i l = l.ok && runs_at l.t l.s l.i ≡ runs_at l.t l.s l.from

use Prim.Native.Nat.{min, ◌-◌, ◌≤◌}
use mathlib.Core.Path.{◌≡◌}
use Rattle.dimacs_judge.specs.Local.{runs_at}
use Rattle.dimacs_judge.proofs.lines_run.Given as goal

abbrev pub invariant-loop-i : goal.invariant-loop-i
invariant-loop-i l = runs_at l.t l.s (min l.n l.i) ≡ runs_at l.t l.s l.from

abbrev pub decreases-loop-i : goal.decreases-loop-i
decreases-loop-i l = l.n - l.i

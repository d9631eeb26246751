use Prim.Native.Nat.{min, ◌-◌, ◌≤◌}
use mathlib.Core.Path.{◌≡◌}
use Rattle.drat_judge.specs.Local.{runs_at}
use Rattle.drat_judge.proofs.tail_runs.Given as goal

abbrev pub invariant-loop-i : goal.invariant-loop-i
invariant-loop-i l = (4 ≤ l.i) × (runs_at l.f l.s (min l.n l.i) ≡ runs_at l.f l.s 4)

abbrev pub decreases-loop-i : goal.decreases-loop-i
decreases-loop-i l = l.n - l.i

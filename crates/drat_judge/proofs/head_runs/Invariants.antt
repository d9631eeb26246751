use mathlib.Core.Bool.{◌&&◌}
use mathlib.Core.Path.{◌≡◌}
use Rattle.drat_judge.specs.Local.{runs_at, judged}
use Rattle.drat_judge.proofs.head_runs.Given as goal

abbrev pub invariant-loop-i : goal.invariant-loop-i
invariant-loop-i l = l.ok && runs_at l.f l.s l.i ≡ judged l.f l.s

use mathlib.Core.Bool.{◌&&◌}
use mathlib.Core.Path.{◌≡◌}
use Rattle.drat_judge.specs.Local.{runs_at}
use Rattle.drat_judge.proofs.bytes_run.Given as goal

abbrev pub invariant-loop-i : goal.invariant-loop-i
invariant-loop-i l = l.ok && runs_at l.f l.s l.i ≡ runs_at l.f l.s l.from

use Prim.Native.Nat.{ℕ, min}
use mathlib.Core.Bool.{true}
use mathlib.Core.Path.{◌≡◌, ap, ◌∙◌}
use lib.ListN.{length}
use native.Mathlib.Omega.{arith}
use Rattle.drat_judge.proofs.RunsLaws.{part_holds}
use Rattle.dimacs_judge.proofs.RunsLaws.{runs_out}
use Rattle.dimacs_judge.specs.Local.{runs_at}
use Rattle.dimacs_judge.proofs.lines_run.Goals as goal
use Rattle.dimacs_judge.proofs.lines_run.Goals.{else-loop-i-test, then-loop-i-test+else-not-part_runs+else-n-i-gt4096}

pub returns : goal.returns
returns c =
    let a = c.args in
    let s = a.s.now in
    let l = c.loop-i in
    let out : runs_at a.t s (length s) ≡ runs_at a.t s a.from = elim c.loop-i-test.branch [
      | else-loop-i-test w ↦
          let e : length s ≡ min (length s) l.i = omega (arith, w.loop-i-test.false) in
          ap (runs_at a.t s) e ∙ l.invariant
      | then-loop-i-test+else-not-part_runs+else-n-i-gt4096 w ↦
          let e : length s ≡ w.min.result = omega (arith, w.min.ensures) in
          let d : l.i ≡ min (length s) l.i = omega (arith, w.loop-i-test.true) in
          ap (runs_at a.t s) e ∙ part_holds w.part_runs.result _ _ w.if-not-part_runs.false w.part_runs.ensures ∙ ap (runs_at a.t s) d ∙ l.invariant
    ] in
    runs_out a.t s (runs_at a.t s a.from) (length s) (omega arith) true out

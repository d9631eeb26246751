use Prim.Native.Nat.{min}
use mathlib.Core.Bool.{true}
use mathlib.Core.Path.{◌≡◌, ap, ◌∙◌}
use lib.ListN.{length}
use native.Mathlib.Omega.{arith}
use Rattle.drat_judge.proofs.RunsLaws.{runs_out, part_holds}
use Rattle.drat_judge.specs.Local.{runs_at}
use Rattle.drat_judge.proofs.tail_runs.Goals as goal
use Rattle.drat_judge.proofs.tail_runs.Goals.{else-loop-i-test, then-loop-i-test+else-not-part_runs+else-n-i-gt4096}

pub returns : goal.returns
returns c =
    let a = c.args in
    let s = a.s.now in
    let l = c.loop-i in
    let out : runs_at a.f s (length s) ≡ runs_at a.f s 4 = elim c.loop-i-test.branch [
      | else-loop-i-test w ↦
          let e : length s ≡ min (length s) l.i = omega (arith, w.loop-i-test.false) in
          ap (runs_at a.f s) e ∙ l.invariant.1
      | then-loop-i-test+else-not-part_runs+else-n-i-gt4096 w ↦
          let e : length s ≡ w.min.result = omega (arith, w.min.ensures) in
          let d : l.i ≡ min (length s) l.i = omega (arith, w.loop-i-test.true) in
          ap (runs_at a.f s) e ∙ part_holds w.part_runs.result _ _ w.if-not-part_runs.false w.part_runs.ensures ∙ ap (runs_at a.f s) d ∙ l.invariant.1
    ] in
    c.is_end.ensures ∙ runs_out a.f s (runs_at a.f s 4) (length s) (omega arith) c.requires true out

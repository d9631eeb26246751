use mathlib.Core.Path.{sym}
use native.Mathlib.Omega.{arith}
use Rattle.drat_judge.proofs.RunsLaws.{head_turn, back_at_lem}
use Rattle.drat_judge.specs.Local.{runs_at}
use Rattle.drat_judge.proofs.bytes_run.Goals as goal

pub loop-i-preserved : goal.loop-i-preserved
loop-i-preserved c =
    let f = c.args.f in
    let s = c.args.s.now in
    let l = c.loop-i in
    head_turn f s (runs_at f s c.args.from) l.i _ _ _ _ (omega arith) l.ok c.next-ok.result l.invariant
    (sym (back_at_lem f s l.i 4 (omega arith))) (sym (back_at_lem f s l.i 3 (omega arith)))
    (sym (back_at_lem f s l.i 2 (omega arith))) (sym (back_at_lem f s l.i 1 (omega arith))) c.next-ok.ensures

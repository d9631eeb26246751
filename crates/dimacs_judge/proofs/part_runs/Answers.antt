use native.Mathlib.Omega.{arith}
use Rattle.dimacs_judge.proofs.RunsLaws.{runs_turn}
use Rattle.dimacs_judge.specs.Local.{runs_at}
use Rattle.dimacs_judge.proofs.part_runs.Goals as goal

pub loop-i-preserved : goal.loop-i-preserved
loop-i-preserved c =
    let a = c.args in
    let s = a.s.now in
    let l = c.loop-i in
    runs_turn a.t s (runs_at a.t s a.from) l.i (omega arith) (omega arith) l.ok c.next-ok.result l.invariant c.next-ok.ensures

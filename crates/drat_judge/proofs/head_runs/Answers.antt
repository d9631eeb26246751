use Prim.Native.Nat.{ℕ}
use mathlib.Core.Bool.{◌&&◌}
use mathlib.Core.Path.{◌≡◌, subst}
use native.Mathlib.Omega.{arith}
use Rattle.drat_judge.proofs.RunsLaws.{head_turn}
use Rattle.drat_judge.specs.Local.{runs_at, judged}
use Rattle.drat_judge.proofs.head_runs.Goals as goal

pub loop-i-preserved : goal.loop-i-preserved
loop-i-preserved c =
    let s = c.args.s.now in
    let l = c.loop-i in
    head_turn c.args.f s (judged c.args.f s) l.i c.byte_back-a.result c.byte_back-b.result c.byte_back-c.result c.byte_back-p.result
    (omega arith) l.ok c.next-ok.result l.invariant c.byte_back-a.ensures c.byte_back-b.ensures c.byte_back-c.ensures
    c.byte_back-p.ensures c.next-ok.ensures

pub returns : goal.returns
returns c =
    let s = c.args.s.now in
    let l = c.loop-i in
    let e : l.i ≡ c.args.n = omega arith in
    subst (λ (k : ℕ). l.ok && runs_at c.args.f s k ≡ judged c.args.f s) e l.invariant

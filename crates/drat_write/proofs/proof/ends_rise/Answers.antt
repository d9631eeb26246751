use Prim.Native.Nat.{◌<◌}
use mathlib.Core.Path.{sym, ap, ◌∙◌}
use native.Mathlib.Omega.{arith}
use mathlib.Core.Bool.{Bool, ◌&&◌}
use lib.ListN.{length}
use Rattle.drat.proofs.ListedLaws.{rises_more, rises_done}
use Rattle.drat_write.proofs.proof.ends_rise.Goals as goal

pub loop-end-preserved : goal.loop-end-preserved
loop-end-preserved c =
    let l = c.loop-end in
    let a = c.args in
    let h : l.end-index < length a.ends.now = omega arith in
    rises_more l.ok a.last l.a a.ends.now l.end-index h ∙ l.invariant

pub returns : goal.returns
returns c =
    let l = c.loop-end in
    let a = c.args in
    sym (ap (λ (t : Bool). l.ok && t) (rises_done a.last l.a a.ends.now l.end-index c.loop-end-test.false)) ∙ l.invariant

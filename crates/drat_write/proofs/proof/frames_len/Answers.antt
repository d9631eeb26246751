use Prim.Native.Nat.{◌<◌}
use mathlib.Core.Path.{ap}
use native.Mathlib.Omega.{arith}
use lib.ListN.{length}
use Rattle.drat.proofs.ListedLaws.{frames_next, frames_done}
use Rattle.drat.proofs.Steps.{opens_le, ends_le}
use Rattle.drat.specs.Grammar.{opens}
use Rattle.drat.specs.declared.Kind.{Kind}
use Rattle.drat_write.proofs.proof.frames_len.Goals as goal

pub loop-kind-preserved : goal.loop-kind-preserved
loop-kind-preserved c =
    let a = c.args in
    let l = c.loop-kind in
    let h : l.kind-index < length a.kinds.now = omega arith in
    let e = ap (λ (k : Kind). length (opens a.f k)) c.kind_in.ensures in (
      omega (arith, e, c.open_len.ensures, c.end_len.ensures, frames_next a.f a.kinds.now l.kind-index h),
      omega (arith, c.open_len.ensures, c.end_len.ensures, opens_le a.f c.kind_in.result, ends_le a.f),
    )

pub returns-clause-value : goal.returns-clause-value
returns-clause-value c =
    let a = c.args in
    let l = c.loop-kind in
    omega (arith, frames_done a.f a.kinds.now l.kind-index c.loop-kind-test.false)

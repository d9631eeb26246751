use Prim.Native.Nat.{◌/◌, ◌<◌}
use mathlib.Core.Path.{◌≡◌}
use native.Mathlib.Omega.{arith}
use lib.ListN.{length}
use Rattle.dimacs.proofs.ClauseLaws.{largest_at, largest_most, magnitudes_turn}
use Rattle.dimacs_write.proofs.largest_of.Goals as goal

pub loop-code-preserved : goal.loop-code-preserved
loop-code-preserved c =
    let a = c.args in
    let l = c.loop-code in
    let h : l.code-index < length a.codes.now = omega arith in
    let top = largest_at a.codes.now l.code-index h in
    let m = c.max-m.ensures in
    (omega (arith, top, m, l.invariant.0), magnitudes_turn a.codes.now l.m c.max-m.result l.code-index (omega (arith, m)) (omega (arith, m)) l.invariant.1)

pub returns : goal.returns
returns c =
    let a = c.args in
    let l = c.loop-code in
    let e : l.code-index ≡ length a.codes.now = omega arith in
    let u = largest_most a.codes.now (l.m / 2) (λ j h. l.invariant.1 j (omega arith)) in
    omega arith

use Prim.Native.Nat.{◌<◌}
use mathlib.Core.Path.{ap}
use native.Mathlib.Omega.{arith}
use lib.ListN.{length}
use Rattle.drat.proofs.Steps.{numbers_next_length, numbers_done}
use Rattle.drat_write.proofs.proof.numbers_len.Goals as goal

pub loop-code-preserved : goal.loop-code-preserved
loop-code-preserved c =
    let a = c.args in
    let l = c.loop-code in
    let h : l.code-index < length a.codes.now = omega arith in
    (omega (arith, c.number_len.ensures.value, numbers_next_length a.f a.codes.now l.code-index h), omega (arith, c.number_len.ensures.upper_bound))

pub returns-clause-value : goal.returns-clause-value
returns-clause-value c =
    let a = c.args in
    let l = c.loop-code in
    let d = numbers_done a.f a.codes.now l.code-index c.loop-code-test.false in
    omega (arith, ap length d)

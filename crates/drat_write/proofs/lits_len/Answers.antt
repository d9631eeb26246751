use Prim.Native.Nat.{◌<◌}
use mathlib.Core.Path.{ap}
use native.Mathlib.Omega.{arith}
use lib.ListN.{length}
use Rattle.drat.proofs.Steps.{numbers_next_length, numbers_done}
use Rattle.drat_write.proofs.lits_len.Goals as goal

pub loop-lit-preserved : goal.loop-lit-preserved
loop-lit-preserved c =
    let a = c.args in
    let l = c.loop-lit in
    let h : l.lit-index < length a.lits.now = omega arith in
    (omega (arith, c.number_len-k.ensures.value, numbers_next_length a.f a.lits.now l.lit-index h), omega (arith, c.number_len-k.ensures.upper_bound))

pub returns-clause-value : goal.returns-clause-value
returns-clause-value c =
    let a = c.args in
    let l = c.loop-lit in
    let d = numbers_done a.f a.lits.now l.lit-index c.loop-lit-test.false in
    omega (arith, ap length d)

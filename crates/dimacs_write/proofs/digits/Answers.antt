use Prim.Native.Nat.{◌/◌}
use mathlib.Core.Path.{ap}
use native.Mathlib.Omega.{arith}
use lib.ListN.{length}
use Rattle.dimacs_write.proofs.CountLaws.{last_digit, one_more, digits_some, digits_most}
use Rattle.dimacs_write.proofs.digits.Goals as goal

pub overflow_add-k : goal.overflow_add-k
overflow_add-k c =
    let a = c.args in
    let l = c.loop-m in
    omega (arith, one_more l.m c.loop-m-test.true, digits_some (l.m / 10), digits_most a.n (omega arith))

pub loop-m-preserved : goal.loop-m-preserved
loop-m-preserved c =
    let l = c.loop-m in
    omega (arith, l.invariant, one_more l.m c.loop-m-test.true)

pub returns-clause-value : goal.returns-clause-value
returns-clause-value c =
    let a = c.args in
    let l = c.loop-m in
    let e = ap length (last_digit l.m c.loop-m-test.false) in
    omega (arith, e, l.invariant)

pub returns-clause-upper_bound : goal.returns-clause-upper_bound
returns-clause-upper_bound c =
    let a = c.args in
    let l = c.loop-m in
    let e = ap length (last_digit l.m c.loop-m-test.false) in
    omega (arith, e, l.invariant, digits_most a.n (omega arith))

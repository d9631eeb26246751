use Prim.Native.Nat.{◌/◌}
use mathlib.Core.Path.{◌∙◌}
use native.Mathlib.Omega.{arith}
use lib.ListN.{length-set}
use Rattle.dimacs_write.proofs.CountLaws.{one_more, digits_some, digit_sets, last_sets}
use Rattle.dimacs_write.proofs.put_count.Goals as goal

pub overflow_sub-p : goal.overflow_sub-p
overflow_sub-p c = omega (arith, c.loop-m.invariant, digits_some c.loop-m.m)

pub bounds-out-p : goal.bounds-out-p
bounds-out-p c =
    let l = c.loop-m in
    let o = one_more l.m c.loop-m-test.true in
    omega (arith, o, l.invariant.0, l.invariant.1, l.invariant.2, c.digits.ensures.value, c.requires, digits_some (l.m / 10))

pub loop-m-preserved : goal.loop-m-preserved
loop-m-preserved c =
    let a = c.args in
    let l = c.loop-m in
    let h = c.loop-m-test.true in (
      simp length-set l.invariant.0,
      omega (arith, l.invariant.1, one_more l.m h, digits_some (l.m / 10)),
      omega (arith, l.invariant.2),
      digit_sets l.m l.out a.at l.p h l.invariant.1 ∙ l.invariant.3,
    )

pub bounds-out-at : goal.bounds-out-at
bounds-out-at c =
    let l = c.loop-m in
    omega (arith, l.invariant.0, c.requires, digits_some c.args.n)

pub returns-clause-fills : goal.returns-clause-fills
returns-clause-fills c =
    let a = c.args in
    let l = c.loop-m in
    last_sets l.m l.out a.at c.loop-m-test.false ∙ l.invariant.3

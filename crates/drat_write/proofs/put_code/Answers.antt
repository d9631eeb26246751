use mathlib.Core.Path.{sym, ap}
use native.Mathlib.Numerals.{towards_suc}
use native.Mathlib.Omega.{arith}
use lib.Seq.{sets}
use lib.ListN.{length, length-set}
use Rattle.drat.proofs.Shapes.{leb_1, leb_2}
use Rattle.drat_write.proofs.put_code.Goals as goal

pub bounds-out-at : goal.bounds-out-at
bounds-out-at c =
    let a = c.args in
    let e = leb_1 a.n (omega arith) c.if-n-lt128.true in
    omega (arith, ap length e)

pub returns-then-n-lt128-clause-value : goal.returns-then-n-lt128-clause-value
returns-then-n-lt128-clause-value c =
    let a = c.args in
    let e = leb_1 a.n (omega arith) c.if-n-lt128.true in
    omega (arith, ap length e)

pub returns-then-n-lt128-clause-fills : goal.returns-then-n-lt128-clause-fills
returns-then-n-lt128-clause-fills c =
    let a = c.args in
    let e = leb_1 a.n (omega arith) c.if-n-lt128.true in
    sym (ap (sets a.out.now a.at) e)

pub bounds-out-at-2 : goal.bounds-out-at-2
bounds-out-at-2 c =
    let a = c.args in
    let e = leb_2 a.n c.if-n-lt128.false (omega arith) in
    omega (arith, ap length e)

pub bounds-out-at-3 : goal.bounds-out-at-3
bounds-out-at-3 c =
    let a = c.args in
    let e = leb_2 a.n c.if-n-lt128.false (omega arith) in
    simp length-set (omega (arith, ap length e))

pub returns-clause-value : goal.returns-clause-value
returns-clause-value c =
    let a = c.args in
    let e = leb_2 a.n c.if-n-lt128.false (omega arith) in
    omega (arith, ap length e)

pub returns-clause-fills : goal.returns-clause-fills
returns-clause-fills c =
    let a = c.args in
    let e = leb_2 a.n c.if-n-lt128.false (omega arith) in
    simp towards_suc (sym (ap (sets a.out.now a.at) e))

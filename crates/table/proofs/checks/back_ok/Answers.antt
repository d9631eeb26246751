use Rattle.table.proofs.CheckLaws.{all_start, most_has, back_past, back_step, back_end}
use native.Mathlib.Omega.{arith}
use lib.ListN.{length}
use mathlib.Core.Path.{refl}
use Prim.Native.Nat.{◌<◌}
use Rattle.table.proofs.checks.back_ok.Goals as goal

pub returns-then-not-at_most : goal.returns-then-not-at_most
returns-then-not-at_most c = back_past _ _ _ c.at_most.ensures c.if-not-at_most.true

pub loop-i-init : goal.loop-i-init
loop-i-init c = all_start _

pub bounds-b-place : goal.bounds-b-place
bounds-b-place c =
    let l : c.loop-i.i < length c.args.a.now =
    omega arith in
    let m = most_has _ _ _ c.at_most.ensures c.if-not-at_most.false
    c.loop-i.i l in
    let p = c.place.ensures in
    omega arith

pub loop-i-preserved : goal.loop-i-preserved
loop-i-preserved c = back_step c.args.a.now c.args.b.now _ _ _ _ c.loop-i.invariant refl c.place.ensures

pub returns : goal.returns
returns c =
    back_end _ _ _ _ _ c.requires.mark_in_bounds c.requires.a_value
    c.loop-i.invariant (omega arith)

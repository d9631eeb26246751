use Prim.Native.Nat.{◌-◌, ◌*◌, ◌≤◌}
use mathlib.Core.Path.{sym, ◌∙◌}
use lib.ListN.{get_or}
use native.Mathlib.Nat.{mul-le-mul_left}
use native.Mathlib.Omega.{arith}
use borrow.Author.Tests.{eq-eqb, ne_eqb, lt-ltb, le-ltb}
use Rattle.drat.proofs.At.{leb_here, leb_past}
use Rattle.drat_scan.proofs.place.leb_at.Goals as goal

pub returns-then-b-eq0 : goal.returns-then-b-eq0
returns-then-b-eq0 c =
    let l = c.loop-i in
    let d = leb_here c.args.s.now l.i (omega arith) l.v l.w in
    sym (sym l.invariant.2 ∙ d ∙ simp (lt-ltb _ _ c.if-b-lt128.true, eq-eqb _ _ c.if-b-eq0.true))

pub returns-then-n-lt2 : goal.returns-then-n-lt2
returns-then-n-lt2 c =
    let l = c.loop-i in
    let d = leb_here c.args.s.now l.i (omega arith) l.v l.w in
    sym (sym l.invariant.2 ∙ d ∙ simp (lt-ltb _ _ c.if-b-lt128.true, ne_eqb _ _ c.if-b-eq0.false, lt-ltb _ _ c.if-n-lt2.true))

pub returns-then-n-gt8193 : goal.returns-then-n-gt8193
returns-then-n-gt8193 c =
    let l = c.loop-i in
    let d = leb_here c.args.s.now l.i (omega arith) l.v l.w in
    sym (sym l.invariant.2 ∙ d ∙ simp (
      lt-ltb _ _ c.if-b-lt128.true,
      ne_eqb _ _ c.if-b-eq0.false,
      le-ltb _ _
          c.if-n-lt2.false,
      lt-ltb _ _ c.if-n-gt8193.true,
    ))

pub returns-then-b-lt128 : goal.returns-then-b-lt128
returns-then-b-lt128 c =
    let l = c.loop-i in
    let d = leb_here c.args.s.now l.i (omega arith) l.v l.w in
    sym (sym l.invariant.2 ∙ d ∙ simp (
      lt-ltb _ _ c.if-b-lt128.true,
      ne_eqb _ _ c.if-b-eq0.false,
      le-ltb _ _
          c.if-n-lt2.false,
      le-ltb _ _ c.if-n-gt8193.false,
    ))

pub returns-then-w-gt64 : goal.returns-then-w-gt64
returns-then-w-gt64 c =
    let l = c.loop-i in
    let d = leb_here c.args.s.now l.i (omega arith) l.v l.w in
    sym (sym l.invariant.2 ∙ d ∙ simp (le-ltb _ _ c.if-b-lt128.false, lt-ltb _ _ c.if-w-gt64.true))

pub loop-i-preserved : goal.loop-i-preserved
loop-i-preserved c =
    let l = c.loop-i in
    let d = leb_here c.args.s.now l.i (omega arith) l.v l.w in
    let b = c.type_inv.s l.i in
    let m : l.w * (get_or c.args.s.now l.i 0 - 128) ≤ l.w * 127 = mul-le-mul_left l.w (omega arith) in
    (omega arith, omega arith, sym (sym l.invariant.2 ∙ d ∙ simp (le-ltb _ _ c.if-b-lt128.false, le-ltb _ _ c.if-w-gt64.false)))

pub returns : goal.returns
returns c =
    let l = c.loop-i in
    sym (sym l.invariant.2 ∙ leb_past c.args.s.now l.i c.loop-i-test.false l.v l.w)

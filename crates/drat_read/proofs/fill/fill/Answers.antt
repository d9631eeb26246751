use Prim.Native.Nat.{ℕ, ◌+◌}
use mathlib.Core.Path.{sym, ap, ◌∙◌, subst, subst₂}
use lib.ListN.{length, set}
use lib.Seq.{length-sets}
use native.Mathlib.Omega.{arith}
use Rattle.drat.proofs.Scanning.{Outer, outer_start}
use Rattle.drat.proofs.Sound.{Bytes}
use Rattle.drat.specs.Filled.{codes_of, ends_from, kinds_of}
use Rattle.drat_read.proofs.FillLaws.{fill_here, fill_opens, fill_room, fill_step, fill_end}
use Rattle.drat_read.specs.Known.{BodyFits}
use borrow.Author.Rules.{rules}
use Rattle.drat_read.proofs.fill.fill.Goals as goal

pub loop-at-init : goal.loop-at-init
loop-at-init c =
    let a = c.args in
    let s = a.s.now in
    let hb : Bytes s = λ i. omega (arith, c.type_inv.s i) in
    subst (λ (x : ℕ). Outer a.f s a.codes.now a.ends.now a.kinds.now a.codes.now a.ends.now a.kinds.now x 0 0) (sym
    c.past-at.ensures)
    (outer_start a.f s a.codes.now a.ends.now a.kinds.now hb)

pub start_at-b-requires : goal.start_at-b-requires
start_at-b-requires c =
    let a = c.args in
    let s = a.s.now in
    let hb : Bytes s = λ i. omega (arith, c.type_inv.s i) in
    let l = c.loop-at in
    fill_here a.f s a.codes.now a.ends.now a.kinds.now l.codes l.ends l.kinds l.at l.n l.m hb l.invariant
    (length a.codes.now) (length a.ends.now) (length a.kinds.now) c.requires c.loop-at-test.true

pub body_from-p-requires : goal.body_from-p-requires
body_from-p-requires c =
    let a = c.args in
    let s = a.s.now in
    let hb : Bytes s = λ i. omega (arith, c.type_inv.s i) in
    let l = c.loop-at in
    let b = c.start_at-b in
    subst (BodyFits a.f s b.result.first l.n) (sym (ap length l.invariant.codes_held ∙ length-sets a.codes.now 0 (codes_of l.invariant.ss)))
    (fill_opens a.f s a.codes.now a.ends.now a.kinds.now l.codes l.ends l.kinds l.at l.n l.m hb l.invariant
    (length a.codes.now) (length a.ends.now) (length a.kinds.now) c.requires c.loop-at-test.true b.ensures.kind
    b.result.first b.ensures.is)

pub offset_bounds-ends-m : goal.offset_bounds-ends-m
offset_bounds-ends-m c =
    let a = c.args in
    let s = a.s.now in
    let hb : Bytes s = λ i. omega (arith, c.type_inv.s i) in
    let l = c.loop-at in
    let r = fill_room a.f s a.codes.now a.ends.now a.kinds.now l.codes l.ends l.kinds l.at l.n l.m hb l.invariant
    (length a.codes.now) (length a.ends.now) (length a.kinds.now) c.requires
    c.loop-at-test.true in
    let k = r.0 in search rules

pub bounds-ends-m : goal.bounds-ends-m
bounds-ends-m c =
    let a = c.args in
    let s = a.s.now in
    let hb : Bytes s = λ i. omega (arith, c.type_inv.s i) in
    let l = c.loop-at in
    let r = fill_room a.f s a.codes.now a.ends.now a.kinds.now l.codes l.ends l.kinds l.at l.n l.m hb l.invariant
    (length a.codes.now) (length a.ends.now) (length a.kinds.now) c.requires
    c.loop-at-test.true in
    let e = ap length l.invariant.ends_held ∙ length-sets a.ends.now 0 (ends_from 0 l.invariant.ss) in
    omega (arith, r.0, e)

pub bounds-kinds-m : goal.bounds-kinds-m
bounds-kinds-m c =
    let a = c.args in
    let s = a.s.now in
    let hb : Bytes s = λ i. omega (arith, c.type_inv.s i) in
    let l = c.loop-at in
    let r = fill_room a.f s a.codes.now a.ends.now a.kinds.now l.codes l.ends l.kinds l.at l.n l.m hb l.invariant
    (length a.codes.now) (length a.ends.now) (length a.kinds.now) c.requires
    c.loop-at-test.true in
    let e = ap length l.invariant.kinds_held ∙ length-sets a.kinds.now 0 (kinds_of l.invariant.ss) in
    omega (arith, r.1, e)

pub loop-at-smaller : goal.loop-at-smaller
loop-at-smaller c =
    let a = c.args in
    let s = a.s.now in
    let hb : Bytes s = λ i. omega (arith, c.type_inv.s i) in
    let l = c.loop-at in
    let b = c.start_at-b in
    let q = c.body_from-p in
    let d = fill_step a.f s a.codes.now a.ends.now a.kinds.now l.codes l.ends l.kinds l.at l.n l.m hb l.invariant
    b.ensures.kind b.result.first b.ensures.is q.new.codes q.result.at q.result.n q.ensures in
    omega (arith, d.0, d.1.within, c.past-at-in-loop-at.ensures)

pub loop-at-preserved : goal.loop-at-preserved
loop-at-preserved c =
    let a = c.args in
    let s = a.s.now in
    let hb : Bytes s = λ i. omega (arith, c.type_inv.s i) in
    let l = c.loop-at in
    let b = c.start_at-b in
    let q = c.body_from-p in
    let d = fill_step a.f s a.codes.now a.ends.now a.kinds.now l.codes l.ends l.kinds l.at l.n l.m hb l.invariant
    b.ensures.kind b.result.first b.ensures.is q.new.codes q.result.at q.result.n q.ensures in
    subst₂ (λ (x y : ℕ). Outer a.f s a.codes.now a.ends.now a.kinds.now q.new.codes (set l.ends l.m q.result.n)
    (set l.kinds l.m x) y q.result.n (l.m + 1)) (sym b.ensures.numbered) (sym c.past-at-in-loop-at.ensures) d.1

pub returns : goal.returns
returns c =
    let a = c.args in
    let s = a.s.now in
    let hb : Bytes s = λ i. omega (arith, c.type_inv.s i) in
    let l = c.loop-at in
    fill_end a.f s a.codes.now a.ends.now a.kinds.now l.codes l.ends l.kinds l.at l.n l.m hb l.invariant c.loop-at-test.false

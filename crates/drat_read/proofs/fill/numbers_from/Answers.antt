use Prim.Native.Nat.{ℕ, ◌+◌}
use mathlib.Core.Path.{sym, ap, ◌∙◌, subst}
use lib.ListN.{length, drop, set}
use lib.Seq.{length-sets}
use native.Mathlib.Omega.{arith}
use Rattle.drat.proofs.Sound.{Bytes}
use Rattle.drat.specs.Reading.{seps}
use Rattle.drat.specs.declared.Format.TheVariants.{Text}
use Rattle.drat_read.proofs.BodyLaws.{BodyFilling, filling_start, filling_inside, filling_stop, filling_more, filling_number, filling_read, filling_gap}
use Rattle.drat_read.proofs.fill.numbers_from.Goals as goal

pub loop-at-init : goal.loop-at-init
loop-at-init c =
    let a = c.args in
    filling_start Text a.s.now a.codes.now a.from a.first c.requires

pub bounds-s-at : goal.bounds-s-at
bounds-s-at c =
    let a = c.args in
    let s = a.s.now in
    let hb : Bytes s = λ i. omega (arith, c.type_inv.s i) in
    let l = c.loop-at in
    filling_inside Text s a.codes.now l.codes a.from a.first l.at l.n hb l.invariant

pub literal_at-w-requires : goal.literal_at-w-requires
literal_at-w-requires c =
    let a = c.args in
    let s = a.s.now in
    let hb : Bytes s = λ i. omega (arith, c.type_inv.s i) in
    let l = c.loop-at in
    filling_number s a.codes.now l.codes a.from a.first l.at l.n hb l.invariant c.loop-at-test.true

pub bounds-codes-n : goal.bounds-codes-n
bounds-codes-n c =
    let a = c.args in
    let s = a.s.now in
    let hb : Bytes s = λ i. omega (arith, c.type_inv.s i) in
    let l = c.loop-at in
    let w = c.literal_at-w in
    let r = filling_read s a.codes.now l.codes a.from a.first l.at l.n hb l.invariant c.loop-at-test.true w.result.code
    w.result.next w.ensures in
    let d = filling_more Text s a.codes.now l.codes a.from a.first l.at l.n hb l.invariant w.result.code (w.result.next + 1 + seps
    (drop (w.result.next + 1) s)) r.1 in
    let e = ap length l.invariant.held ∙ length-sets a.codes.now a.first l.invariant.ds in
    omega (arith, d.2, e)

pub overflow_add-w : goal.overflow_add-w
overflow_add-w c =
    let a = c.args in
    let s = a.s.now in
    let hb : Bytes s = λ i. omega (arith, c.type_inv.s i) in
    let l = c.loop-at in
    let w = c.literal_at-w in
    let r = filling_read s a.codes.now l.codes a.from a.first l.at l.n hb l.invariant c.loop-at-test.true w.result.code
    w.result.next w.ensures in
    omega (arith, r.0)

pub past_gap-at-requires : goal.past_gap-at-requires
past_gap-at-requires c =
    let a = c.args in
    let s = a.s.now in
    let hb : Bytes s = λ i. omega (arith, c.type_inv.s i) in
    let l = c.loop-at in
    let w = c.literal_at-w in
    filling_gap s a.codes.now l.codes a.from a.first l.at l.n hb l.invariant c.loop-at-test.true w.result.code
    w.result.next w.ensures

pub loop-at-smaller : goal.loop-at-smaller
loop-at-smaller c =
    let a = c.args in
    let s = a.s.now in
    let hb : Bytes s = λ i. omega (arith, c.type_inv.s i) in
    let l = c.loop-at in
    let w = c.literal_at-w in
    let r = filling_read s a.codes.now l.codes a.from a.first l.at l.n hb l.invariant c.loop-at-test.true
    w.result.code w.result.next w.ensures in
    let d = filling_more Text s a.codes.now l.codes a.from a.first l.at l.n hb l.invariant w.result.code (w.result.next + 1 + seps
    (drop (w.result.next + 1) s)) r.1 in
    omega (arith, d.0, d.1, c.past_gap-at.ensures)

pub loop-at-preserved : goal.loop-at-preserved
loop-at-preserved c =
    let a = c.args in
    let s = a.s.now in
    let hb : Bytes s = λ i. omega (arith, c.type_inv.s i) in
    let l = c.loop-at in
    let w = c.literal_at-w in
    let r = filling_read s a.codes.now l.codes a.from a.first l.at l.n hb l.invariant c.loop-at-test.true
    w.result.code w.result.next w.ensures in
    let d = filling_more Text s a.codes.now l.codes a.from a.first l.at l.n hb l.invariant w.result.code (w.result.next + 1 + seps
    (drop (w.result.next + 1) s)) r.1 in
    subst (λ (x : ℕ). BodyFilling Text s a.codes.now a.from a.first (set l.codes l.n w.result.code) x (l.n + 1))
    (sym c.past_gap-at.ensures) d.3

pub returns : goal.returns
returns c =
    let a = c.args in
    let s = a.s.now in
    let hb : Bytes s = λ i. omega (arith, c.type_inv.s i) in
    let l = c.loop-at in
    (filling_stop Text s a.codes.now l.codes a.from a.first l.at l.n hb l.invariant c.loop-at-test.false).1

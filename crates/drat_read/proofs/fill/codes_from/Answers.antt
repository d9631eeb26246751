use mathlib.Core.Path.{ap, ◌∙◌}
use lib.ListN.{length}
use lib.Seq.{length-sets}
use native.Mathlib.Omega.{arith}
use Rattle.drat.proofs.Sound.{Bytes}
use Rattle.drat.specs.declared.Format.TheVariants.{Binary}
use Rattle.drat_read.proofs.BodyLaws.{filling_start, filling_inside, filling_stop, filling_lit, filling_more}
use Rattle.drat_read.proofs.fill.codes_from.Goals as goal

pub loop-at-init : goal.loop-at-init
loop-at-init c =
    let a = c.args in
    filling_start Binary a.s.now a.codes.now a.from a.first c.requires

pub bounds-s-at : goal.bounds-s-at
bounds-s-at c =
    let a = c.args in
    let s = a.s.now in
    let hb : Bytes s = λ i. omega (arith, c.type_inv.s i) in
    let l = c.loop-at in
    filling_inside Binary s a.codes.now l.codes a.from a.first l.at l.n hb l.invariant

pub code_at-w-requires-clause-lit : goal.code_at-w-requires-clause-lit
code_at-w-requires-clause-lit c =
    let a = c.args in
    let s = a.s.now in
    let hb : Bytes s = λ i. omega (arith, c.type_inv.s i) in
    let l = c.loop-at in
    filling_lit Binary s a.codes.now l.codes a.from a.first l.at l.n hb l.invariant c.loop-at-test.true

pub bounds-codes-n : goal.bounds-codes-n
bounds-codes-n c =
    let a = c.args in
    let s = a.s.now in
    let hb : Bytes s = λ i. omega (arith, c.type_inv.s i) in
    let l = c.loop-at in
    let d = filling_more Binary s a.codes.now l.codes a.from a.first l.at l.n hb l.invariant c.code_at-w.result.code
    c.code_at-w.result.next c.code_at-w.ensures in
    let e = ap length l.invariant.held ∙ length-sets a.codes.now a.first l.invariant.ds in
    omega (arith, d.2)

pub loop-at-smaller : goal.loop-at-smaller
loop-at-smaller c =
    let a = c.args in
    let s = a.s.now in
    let hb : Bytes s = λ i. omega (arith, c.type_inv.s i) in
    let l = c.loop-at in
    let d = filling_more Binary s a.codes.now l.codes a.from a.first l.at l.n hb l.invariant c.code_at-w.result.code
    c.code_at-w.result.next c.code_at-w.ensures in
    omega (arith, d.0, d.1)

pub loop-at-preserved : goal.loop-at-preserved
loop-at-preserved c =
    let a = c.args in
    let s = a.s.now in
    let hb : Bytes s = λ i. omega (arith, c.type_inv.s i) in
    let l = c.loop-at in
    let d = filling_more Binary s a.codes.now l.codes a.from a.first l.at l.n hb l.invariant c.code_at-w.result.code
    c.code_at-w.result.next c.code_at-w.ensures in
    d.3

pub returns : goal.returns
returns c =
    let a = c.args in
    let s = a.s.now in
    let hb : Bytes s = λ i. omega (arith, c.type_inv.s i) in
    let l = c.loop-at in
    let d = filling_stop Binary s a.codes.now l.codes a.from a.first l.at l.n hb l.invariant c.loop-at-test.false in
    d.1

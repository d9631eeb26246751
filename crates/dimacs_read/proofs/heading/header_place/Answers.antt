use mathlib.Core.Path.{◌≡◌, sym, ◌∙◌}
use lib.ListN.{length}
use native.Mathlib.Omega.{arith}
use Rattle.dimacs_read.proofs.HeadingLaws.{place_here, place_next, place_past}
use Rattle.dimacs_read.proofs.heading.header_place.Goals as goal

pub returns-then-not-passes-clause-value : goal.returns-then-not-passes-clause-value
returns-then-not-passes-clause-value c =
    let s = c.args.s.now in
    let l = c.loop-i in
    let p = sym c.passes.ensures ∙ c.if-not-passes.true in
    sym (l.invariant ∙ place_here s l.i c.loop-i-test.true l.inside p)

pub loop-i-preserved : goal.loop-i-preserved
loop-i-preserved c =
    let s = c.args.s.now in
    let l = c.loop-i in
    let p = sym c.passes.ensures ∙ c.if-not-passes.false in
    l.invariant ∙ place_next s l.i c.loop-i-test.true l.inside p

pub returns-clause-value : goal.returns-clause-value
returns-clause-value c =
    let s = c.args.s.now in
    let l = c.loop-i in
    let e : l.i ≡ length s = omega (arith, l.auto.i-end, c.loop-i-test.false) in
    sym (l.invariant ∙ place_past s l.i c.loop-i-test.false l.inside ∙ e)

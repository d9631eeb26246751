use mathlib.Core.Path.{◌≡◌, sym, ap, ◌∙◌}
use lib.ListN.{length}
use native.Mathlib.Omega.{arith}
use borrow.Author.Tests.{eq-eqb, ne_eqb, lt-ltb, le-ltb}
use Rattle.drat.proofs.At.{digits_here, digits_past}
use Rattle.drat.proofs.Numerals.{is_in_range, below_range, above_range}
use Rattle.drat.specs.Reading.{numbered}
use Rattle.drat_scan.proofs.place.decimal_at.Goals as goal

pub returns-then-b-lt48 : goal.returns-then-b-lt48
returns-then-b-lt48 c =
    let l = c.loop-i in
    let d = digits_here c.args.s.now l.i (omega arith) c.args.sign l.v in
    c.literal.ensures ∙ sym (sym l.invariant.1 ∙ d ∙ simp (below_range 48 57 _ c.if-b-lt48.true))

pub returns-then-b-gt57 : goal.returns-then-b-gt57
returns-then-b-gt57 c =
    let l = c.loop-i in
    let d = digits_here c.args.s.now l.i (omega arith) c.args.sign l.v in
    c.literal-then-b-gt57.ensures ∙ sym (sym l.invariant.1 ∙ d ∙ simp (above_range 48 57 _ c.if-b-gt57.true))

pub returns-then-w-eq0 : goal.returns-then-w-eq0
returns-then-w-eq0 c =
    let l = c.loop-i in
    let d = digits_here c.args.s.now l.i (omega arith) c.args.sign l.v in
    sym (sym l.invariant.1 ∙ d ∙ simp (is_in_range 48 57 _ c.if-b-lt48.false c.if-b-gt57.false, eq-eqb _ _ c.if-w-eq0.true))

pub returns-then-w-gt4096 : goal.returns-then-w-gt4096
returns-then-w-gt4096 c =
    let l = c.loop-i in
    let d = digits_here c.args.s.now l.i (omega arith) c.args.sign l.v in
    sym (sym l.invariant.1 ∙ d ∙ simp (
      is_in_range 48 57 _ c.if-b-lt48.false c.if-b-gt57.false,
      ne_eqb _ _
          c.if-w-eq0.false,
      lt-ltb _ _ c.if-w-gt4096.true,
    ))

pub loop-i-preserved : goal.loop-i-preserved
loop-i-preserved c =
    let l = c.loop-i in
    let d = digits_here c.args.s.now l.i (omega arith) c.args.sign l.v in (
      c.if-w-gt4096.false,
      sym (sym l.invariant.1 ∙ d ∙ simp (
        is_in_range 48 57 _ c.if-b-lt48.false c.if-b-gt57.false,
        ne_eqb _ _
            c.if-w-eq0.false,
        le-ltb _ _ c.if-w-gt4096.false,
      )),
    )

pub returns : goal.returns
returns c =
    let a = c.args in
    let l = c.loop-i in
    let e : l.i ≡ length a.s.now = omega (arith, l.auto.i-end, c.requires.at_in_bounds) in
    c.literal-2.ensures ∙ ap (numbered a.sign l.v) (sym e) ∙ sym (sym l.invariant.1 ∙ digits_past a.s.now l.i c.loop-i-test.false a.sign l.v)

use mathlib.Core.Path.{sym, ap, ◌∙◌}
use lib.ListN.{drop}
use Rattle.std.specs.Prelude.{Some}
use native.Mathlib.Omega.{arith}
use borrow.Author.Tests.{eq-eqb}
use Rattle.drat.proofs.At.{text_here, token_past, gap_after, gap_stop, gap_bad}
use Rattle.drat.proofs.Places.{signed_moves}
use Rattle.drat.specs.Reading.{then_gap}
use Rattle.drat.specs.declared.Format.TheVariants.{Text}
use Rattle.drat_scan.proofs.PlaceLaws.{text_literal}
use Rattle.drat_scan.proofs.place.text_token.Goals as goal

pub returns-in_err-get : goal.returns-in_err-get
returns-in_err-get c = c.from_residual.ensures ∙ sym (token_past c.args.s.now c.args.at c.in_err-get.ensures.lookup.3 Text)

pub returns-then-branch-eq48 : goal.returns-then-branch-eq48
returns-then-branch-eq48 c =
    let w = c.in_ok-get.ensures.lookup.3 in
    c.close_at.ensures ∙ sym (text_here c.args.s.now c.args.at w.0 ∙ simp (eq-eqb _ _ (sym (w.1 0) ∙ c.if-branch-eq48.true)))

pub returns-in-Some-Lit : goal.returns-in-Some-Lit
returns-in-Some-Lit c =
    let a = c.args in
    let s = a.s.now in
    let w = c.in_ok-get.ensures.lookup.3 in
    let t = text_literal s a.at w.0 (λ z. c.if-branch-eq48.false (w.1 0 ∙ z)) in
    let e = sym c.signed_at.ensures ∙ c.in-Some-Lit.is ∙ ap Some c.in-Some-Lit.field-0-is in
    let code = c.in-Some-Lit.code in
    let end = c.in-Some-Lit.end in
    let after = (signed_moves a.at (drop a.at s) code end e).0 in
    c.gap_after.ensures ∙ sym (t ∙ ap (then_gap a.at (drop a.at s)) e ∙ gap_after s a.at end (omega (arith, after)) code)

pub returns-in-Some-Stop : goal.returns-in-Some-Stop
returns-in-Some-Stop c =
    let a = c.args in
    let s = a.s.now in
    let w = c.in_ok-get.ensures.lookup.3 in
    let t = text_literal s a.at w.0 (λ z. c.if-branch-eq48.false (w.1 0 ∙ z)) in
    sym (t ∙ ap (then_gap a.at (drop a.at s)) (sym c.signed_at.ensures ∙ c.in-Some-Stop.is ∙ ap Some c.in-Some-Stop.field-0-is)
    ∙ gap_stop a.at (drop a.at s) _)

pub returns-in-None : goal.returns-in-None
returns-in-None c =
    let a = c.args in
    let s = a.s.now in
    let w = c.in_ok-get.ensures.lookup.3 in
    let t = text_literal s a.at w.0 (λ z. c.if-branch-eq48.false (w.1 0 ∙ z)) in
    sym (t ∙ ap (then_gap a.at (drop a.at s)) (sym c.signed_at.ensures ∙ c.in-None.is)
    ∙ gap_bad a.at (drop a.at s))

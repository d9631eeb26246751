use mathlib.Core.Path.{sym, ◌∙◌}
use borrow.Author.Tests.{eq-eqb, ne_eqb}
use Rattle.drat.proofs.At.{binary_here, token_past}
use Rattle.drat.specs.declared.Format.TheVariants.{Binary}
use Rattle.drat_scan.proofs.place.binary_token.Goals as goal

pub returns-in_err-get : goal.returns-in_err-get
returns-in_err-get c = c.from_residual.ensures ∙ sym (token_past c.args.s.now c.args.at c.in_err-get.ensures.lookup.3 Binary)

pub returns-then-branch-eq0 : goal.returns-then-branch-eq0
returns-then-branch-eq0 c =
    let w = c.in_ok-get.ensures.lookup.3 in
    sym (binary_here c.args.s.now c.args.at w.0 ∙ simp (eq-eqb _ _ (sym (w.1 0) ∙ c.if-branch-eq0.true)))

pub returns : goal.returns
returns c =
    let w = c.in_ok-get.ensures.lookup.3 in
    sym (binary_here c.args.s.now c.args.at w.0 ∙ simp (ne_eqb _ _ (λ z. c.if-branch-eq0.false (w.1 0 ∙ z))) (sym c.leb_at.ensures))

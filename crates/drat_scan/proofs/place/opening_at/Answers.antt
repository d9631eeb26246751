use mathlib.Core.Path.{sym, ap, ◌∙◌}
use lib.ListN.{drop}
use borrow.Author.Tests.{eq-eqb, ne_eqb}
use Rattle.drat.proofs.At.{text_opens, binary_opens, opening_past}
use Rattle.drat.specs.Reading.{opening}
use Rattle.drat.specs.declared.Format.{Format}
use Rattle.drat_scan.proofs.place.opening_at.Goals as goal

pub returns-in_err-b : goal.returns-in_err-b
returns-in_err-b c = c.from_residual.ensures ∙ sym (opening_past c.args.s.now c.args.at c.in_err-b.ensures.lookup.3 c.args.f)

pub returns-then-b-eq100 : goal.returns-then-b-eq100
returns-then-b-eq100 c =
    let a = c.args in
    let w = c.in_ok-b.ensures.lookup.3 in
    c.gap_at.ensures ∙ sym (ap (λ (f : Format). opening f a.at (drop a.at a.s.now)) c.in-Text.is
    ∙ text_opens a.s.now a.at w.0 ∙ simp (eq-eqb _ _ (sym (w.1 0) ∙ c.if-b-eq100.true)))

pub returns-then-b-eq97 : goal.returns-then-b-eq97
returns-then-b-eq97 c =
    let a = c.args in
    let w = c.in_ok-b.ensures.lookup.3 in
    sym (ap (λ (f : Format). opening f a.at (drop a.at a.s.now)) c.in-Binary.is
    ∙ binary_opens a.s.now a.at w.0 ∙ simp (eq-eqb _ _ (sym (w.1 0) ∙ c.if-b-eq97.true)))

pub returns-then-b-eq100-2 : goal.returns-then-b-eq100-2
returns-then-b-eq100-2 c =
    let a = c.args in
    let w = c.in_ok-b.ensures.lookup.3 in
    sym (ap (λ (f : Format). opening f a.at (drop a.at a.s.now)) c.in-Binary.is
    ∙ binary_opens a.s.now a.at w.0 ∙ simp (
      ne_eqb _ _ (λ z. c.if-b-eq97.false (w.1 0 ∙ z)),
      eq-eqb _ _
          (sym (w.1 0) ∙ c.if-b-eq100-2.true),
    ))

pub returns-else-b-eq100 : goal.returns-else-b-eq100
returns-else-b-eq100 c =
    let a = c.args in
    let w = c.in_ok-b.ensures.lookup.3 in
    sym (ap (λ (f : Format). opening f a.at (drop a.at a.s.now)) c.in-Text.is
    ∙ text_opens a.s.now a.at w.0 ∙ simp (ne_eqb _ _ (λ z. c.if-b-eq100.false (w.1 0 ∙ z))))

pub returns-else-b-eq100-2 : goal.returns-else-b-eq100-2
returns-else-b-eq100-2 c =
    let a = c.args in
    let w = c.in_ok-b.ensures.lookup.3 in
    sym (ap (λ (f : Format). opening f a.at (drop a.at a.s.now)) c.in-Binary.is
    ∙ binary_opens a.s.now a.at w.0 ∙ simp (
      ne_eqb _ _ (λ z. c.if-b-eq97.false (w.1 0 ∙ z)),
      ne_eqb _ _
          (λ z. c.if-b-eq100-2.false (w.1 0 ∙ z)),
    ))

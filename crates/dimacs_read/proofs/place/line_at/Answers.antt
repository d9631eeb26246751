use Prim.Native.Nat.{◌+◌}
use mathlib.Core.Path.{sym, ap, ◌∙◌}
use lib.ListN.{drop}
use Rattle.std.specs.Prelude.{Some}
use native.Mathlib.Omega.{arith}
use borrow.Author.Tests.{eq-eqb, ne_eqb}
use Rattle.drat.proofs.Places.{signed_moves}
use Rattle.dimacs.specs.Reading.{then_blank}
use Rattle.dimacs.proofs.LineTokens.{end_here, line_here, line_literal, end_past, line_past, blank_after, blank_stop, blank_bad}
use Rattle.dimacs_read.proofs.place.line_at.Goals as goal

pub returns-then-s-at : goal.returns-then-s-at
returns-then-s-at c =
    let a = c.args in
    sym (line_past a.s.now a.at c.if-s-at.true)

pub returns-then-s-j : goal.returns-then-s-j
returns-then-s-j c =
    let a = c.args in
    sym (line_here a.s.now a.at c.if-s-at.false
    ∙ simp (eq-eqb _ _ c.if-b-eq48.true) (end_past a.s.now (a.at + 1) c.if-s-j.true))

pub returns-then-s-j-eq10 : goal.returns-then-s-j-eq10
returns-then-s-j-eq10 c =
    let a = c.args in
    sym (line_here a.s.now a.at c.if-s-at.false
    ∙ simp (eq-eqb _ _ c.if-b-eq48.true)
    (end_here a.s.now (a.at + 1) c.if-s-j.false ∙ simp (eq-eqb _ _ c.if-s-j-eq10.true)))

pub returns-then-b-eq48 : goal.returns-then-b-eq48
returns-then-b-eq48 c =
    let a = c.args in
    sym (line_here a.s.now a.at c.if-s-at.false
    ∙ simp (eq-eqb _ _ c.if-b-eq48.true)
    (end_here a.s.now (a.at + 1) c.if-s-j.false ∙ simp (ne_eqb _ _ c.if-s-j-eq10.false)))

pub returns-in-Some-Lit : goal.returns-in-Some-Lit
returns-in-Some-Lit c =
    let a = c.args in
    let s = a.s.now in
    let t = line_literal s a.at c.if-s-at.false
    c.if-b-eq48.false in
    let e = sym c.signed_at.ensures ∙ c.in-Some-Lit.is ∙ ap Some c.in-Some-Lit.field-0-is in
    let code = c.in-Some-Lit.code in
    let end = c.in-Some-Lit.end in
    let after = (signed_moves a.at (drop a.at s) code end e).0 in
    c.spaced.ensures ∙ sym (t ∙ ap (then_blank a.at (drop a.at s)) e ∙ blank_after s a.at end (omega arith) code)

pub returns-in-Some-Stop : goal.returns-in-Some-Stop
returns-in-Some-Stop c =
    let a = c.args in
    let s = a.s.now in
    let t = line_literal s a.at c.if-s-at.false c.if-b-eq48.false in
    sym (t ∙ ap (then_blank a.at (drop a.at s)) (sym c.signed_at.ensures ∙ c.in-Some-Stop.is ∙ ap Some c.in-Some-Stop.field-0-is)
    ∙ blank_stop a.at (drop a.at s) _)

pub returns-in-None : goal.returns-in-None
returns-in-None c =
    let a = c.args in
    let s = a.s.now in
    let t = line_literal s a.at c.if-s-at.false c.if-b-eq48.false in
    sym (t ∙ ap (then_blank a.at (drop a.at s)) (sym c.signed_at.ensures ∙ c.in-None.is)
    ∙ blank_bad a.at (drop a.at s))

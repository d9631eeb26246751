use mathlib.Core.Path.{sym, ◌∙◌}
use Rattle.drat.proofs.At.{close_here, close_past}
use Rattle.drat_scan.proofs.place.close_at.Goals as goal

pub returns-then-s-at : goal.returns-then-s-at
returns-then-s-at c =
    let a = c.args in
    sym (close_past a.s.now a.at c.if-s-at.true a.at)

pub returns-then-is_sep : goal.returns-then-is_sep
returns-then-is_sep c =
    let a = c.args in
    sym (close_here a.s.now a.at c.if-s-at.false a.at ∙ simp (sym c.is_sep.ensures ∙ c.if-is_sep.true))

pub returns : goal.returns
returns c =
    let a = c.args in
    sym (close_here a.s.now a.at c.if-s-at.false a.at ∙ simp (sym c.is_sep.ensures ∙ c.if-is_sep.false))

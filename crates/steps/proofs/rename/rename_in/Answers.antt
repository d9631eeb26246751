use mathlib.Core.Path.{sym, ◌∙◌}
use Rattle.steps.proofs.RenameLaws.{alone_many, alone_unheld, alone_short, alone_done}
use Rattle.steps.proofs.LiteralLaws.{named}
use Rattle.base.proofs.MemberLaws.{any_is}
use Rattle.steps.proofs.rename.rename_in.Goals as goal

pub returns-then-lits-gt8192 : goal.returns-then-lits-gt8192
returns-then-lits-gt8192 c = λ t step k h g r u.
    let a = c.args in
    alone_many t step k a.gs.now a.lits.now a.out.now h g r u c.if-lits-gt8192.true

pub returns-then-any_unnamed : goal.returns-then-any_unnamed
returns-then-any_unnamed c = λ t step k h g r u.
    let a = c.args in
    alone_unheld t step k a.gs.now a.lits.now a.out.now h g r u c.if-lits-gt8192.false
    (sym (any_is _ _) ∙ sym c.any_unnamed.ensures ∙ c.if-any_unnamed.true)

pub returns-then-out-lits : goal.returns-then-out-lits
returns-then-out-lits c = λ t step k h g r u.
    let a = c.args in
    alone_short t step k a.gs.now a.lits.now a.out.now h g r u c.if-lits-gt8192.false
    (sym (any_is _ _) ∙ sym c.any_unnamed.ensures ∙ c.if-any_unnamed.false) c.if-out-lits.true

pub rename_lits-requires-clause-named : goal.rename_lits-requires-clause-named
rename_lits-requires-clause-named c = named _ _ (sym (any_is _ _) ∙ sym c.any_unnamed.ensures ∙ c.if-any_unnamed.false)

pub returns : goal.returns
returns c = λ t step k h g r u.
    let a = c.args in
    alone_done t step k a.gs.now a.lits.now a.out.now h g r u _ c.if-lits-gt8192.false
    (sym (any_is _ _) ∙ sym c.any_unnamed.ensures ∙ c.if-any_unnamed.false) c.if-out-lits.false c.rename_lits.ensures

use Rattle.steps.proofs.LiteralLaws.{refuse_many, refuse_beyond, pass_global, refuse_unheld, pass_solver}
use Rattle.base.proofs.MemberLaws.{any_is}
use mathlib.Core.Path.{sym, ◌∙◌}
use Rattle.steps.proofs.rename.literal_refusal.Goals as goal

pub returns-then-lits-gt8192 : goal.returns-then-lits-gt8192
returns-then-lits-gt8192 c =
    λ t p q. refuse_many t c.args.solvervars _ c.if-lits-gt8192.true

pub returns-then-any_outside : goal.returns-then-any_outside
returns-then-any_outside c =
    λ t p q. refuse_beyond t _ c.args.solvervars _ p c.if-lits-gt8192.false
    c.if-not-solvervars.true
    (sym c.any_outside.ensures ∙ c.if-any_outside.true)

pub returns-then-not-solvervars : goal.returns-then-not-solvervars
returns-then-not-solvervars c =
    λ t p q. pass_global t _ c.args.solvervars _ p c.if-lits-gt8192.false
    c.if-not-solvervars.true
    (sym c.any_outside.ensures ∙ c.if-any_outside.false)

pub returns-then-any_unheld : goal.returns-then-any_unheld
returns-then-any_unheld c =
    λ t p q. refuse_unheld t _ c.args.solvervars _ q c.if-lits-gt8192.false
    c.if-not-solvervars.false
    (sym (any_is _ _) ∙ sym c.any_unheld.ensures ∙ c.if-any_unheld.true)

pub returns : goal.returns
returns c =
    λ t p q. pass_solver t _ c.args.solvervars _ q c.if-lits-gt8192.false
    c.if-not-solvervars.false
    (sym (any_is _ _) ∙ sym c.any_unheld.ensures ∙ c.if-any_unheld.false)

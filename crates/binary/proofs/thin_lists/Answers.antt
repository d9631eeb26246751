use Rattle.binary.proofs.NamedLaws.{all_named}
use Rattle.binary.proofs.ThinLaws.{says_uncut, says_unmirrored, says_unheld, says_thinned}
use mathlib.Core.Path.{sym, ◌∙◌}
use Rattle.binary.proofs.thin_lists.Goals as goal

pub returns-then-not-cut_sections : goal.returns-then-not-cut_sections
returns-then-not-cut_sections c =
    λ t s e g v. says_uncut c.args.f t c.args.lists.now c.args.out.now c.args.bytes.now c.args.solver c.args.gs.now
    c.args.assignment.now s e g v (sym c.cut_sections.ensures.value ∙ c.if-not-cut_sections.true)

pub returns-then-not-all_mirrored : goal.returns-then-not-all_mirrored
returns-then-not-all_mirrored c =
    λ t s e g v. says_unmirrored c.args.f t c.args.lists.now c.args.out.now c.args.bytes.now c.args.solver
    c.args.gs.now
    c.args.assignment.now s e g v (sym c.cut_sections.ensures.value ∙ c.if-not-cut_sections.false)
    (sym c.all_mirrored.ensures ∙ c.if-not-all_mirrored.true)

pub returns-then-any_unheld : goal.returns-then-any_unheld
returns-then-any_unheld c =
    λ t s e g v. says_unheld c.args.f t c.args.lists.now c.args.out.now c.args.bytes.now c.args.solver c.args.gs.now
    c.args.assignment.now s e g v (sym c.cut_sections.ensures.value ∙ c.if-not-cut_sections.false)
    (sym c.all_mirrored.ensures ∙ c.if-not-all_mirrored.false)
    (sym c.any_unheld.ensures ∙ c.if-any_unheld.true)

pub thin_placed-requires : goal.thin_placed-requires
thin_placed-requires c =
    all_named c.args.solver _ _ c.requires
    (sym c.all_mirrored.ensures ∙ c.if-not-all_mirrored.false)
    (sym c.any_unheld.ensures ∙ c.if-any_unheld.false)

pub returns : goal.returns
returns c =
    λ t s e g v. says_thinned c.args.f t c.args.lists.now c.args.out.now c.args.bytes.now c.args.solver c.args.gs.now
    c.args.assignment.now s e g v (sym c.cut_sections.ensures.value ∙ c.if-not-cut_sections.false)
    (sym c.all_mirrored.ensures ∙ c.if-not-all_mirrored.false) _ _ _
    (sym c.any_unheld.ensures ∙ c.if-any_unheld.false)
    (c.thin_placed.ensures.value, (c.thin_placed.ensures.out, c.thin_placed.ensures.bytes))

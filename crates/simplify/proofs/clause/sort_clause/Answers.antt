use Rattle.simplify.proofs.SortLaws.{sort_dropped, sort_kept, sort_binary, sort_shortened}
use Rattle.base.proofs.KeepLaws.{count_is}
use Rattle.base.proofs.MemberLaws.{any_is}
use mathlib.Core.Path.{sym, ◌∙◌}
use Rattle.simplify.proofs.clause.sort_clause.Goals as goal

pub returns-then-any_true : goal.returns-then-any_true
returns-then-any_true c =
    λ t p. sort_dropped t _ p c.args.lits.now (sym (any_is _ _) ∙ sym c.any_true.ensures ∙ c.if-any_true.true)

pub returns-then-lits-k : goal.returns-then-lits-k
returns-then-lits-k c =
    λ t p. sort_kept t _ p c.args.lits.now _
    (sym (any_is _ _) ∙ sym c.any_true.ensures ∙ c.if-any_true.false) (c.count_unfalse-k.ensures ∙ count_is _ _) c.if-lits-k.true

pub returns-then-k-eq2 : goal.returns-then-k-eq2
returns-then-k-eq2 c =
    λ t p. sort_binary t _ p c.args.lits.now _
    (sym (any_is _ _) ∙ sym c.any_true.ensures ∙ c.if-any_true.false) (c.count_unfalse-k.ensures ∙ count_is _ _)
    c.if-lits-k.false c.if-k-eq2.true

pub returns : goal.returns
returns c =
    λ t p. sort_shortened t _ p c.args.lits.now _
    (sym (any_is _ _) ∙ sym c.any_true.ensures ∙ c.if-any_true.false) (c.count_unfalse-k.ensures ∙ count_is _ _)
    c.if-lits-k.false c.if-k-eq2.false

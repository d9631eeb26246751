use Rattle.simplify.proofs.SimplifyLaws.{kept_short, kept_filled, kept_answer}
use Rattle.scope.specs.Outcome.{Outcome}
use lib.Seq.{sets}
use mathlib.Core.Path.{sym, ap, ◌∙◌}
use Rattle.simplify.proofs.keep_clause.Goals as goal

pub returns-then-out-lits : goal.returns-then-out-lits
returns-then-out-lits c =
    λ f t r m s. let e = kept_short f t c.args.lits.now r m c.args.out.now s.passes s.sort c.if-out-lits.true in
    (sym (ap (λ (o : Outcome). o.answer) e), sym (ap (λ (o : Outcome). sets c.args.out.now 0 o.words) e))

pub returns : goal.returns
returns c =
    λ f t r m s. let e = kept_filled f t c.args.lits.now r m c.args.out.now s.passes s.sort c.if-out-lits.false in (
      kept_answer f t c.args.lits.now r m c.args.out.now s.passes s.sort
          ∙ sym (ap (λ (o : Outcome). o.answer) e),
      c.copy_lits.ensures
          ∙ sym (ap (λ (o : Outcome). sets c.args.out.now 0 o.words) e),
    )

use Rattle.std.proofs.lemmas.Result.{err_from_is_err_and}
use Rattle.scope.specs.declared.ProofStep.TheVariants.{DeleteClause}
use Rattle.steps.proofs.WriteLaws.{writes_by}
use Rattle.simplify.proofs.SimplifyLaws.{dropped_short, dropped_filled}
use Rattle.simplify.proofs.drop_clause.Goals as goal

pub returns-in_err-wrote : goal.returns-in_err-wrote
returns-in_err-wrote c =
    let a = c.args in
    let p = err_from_is_err_and c.from_residual.result c.from_residual.ensures.1 in
    rw (p.1, p.2) (λ t outs s g. dropped_short a.f t a.gs.now a.lits.now a.redundant _ outs a.bytes.now _
    (writes_by (DeleteClause c.delete_cause-cause.result) _ c.rule_of-writes.ensures) g s _ _ c.write_judged.ensures.value
    c.in_err-wrote.was c.write_judged.ensures.out)

pub returns : goal.returns
returns c = λ t outs s g.
    let a = c.args in
    dropped_filled a.f t a.gs.now a.lits.now a.redundant _ outs a.bytes.now _
    (writes_by (DeleteClause c.delete_cause-cause.result) _ c.rule_of-writes.ensures) g s _ _ c.write_judged.ensures.value
    c.in_ok-wrote.was c.write_judged.ensures.out

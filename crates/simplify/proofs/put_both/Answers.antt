use Rattle.simplify.proofs.SimplifyLaws.{both_short, both_whole}
use Rattle.scope.specs.declared.ProofStep.TheVariants.{AtClause, DeleteClause}
use Rattle.steps.proofs.WriteLaws.{writes_by}
use Rattle.simplify.proofs.put_both.Goals as goal

pub returns-then-bytes-a-clause-value : goal.returns-then-bytes-a-clause-value
returns-then-bytes-a-clause-value c =
    let adds = writes_by (AtClause c.add_flag-flag.result) _
    c.rule_of-adds.ensures in
    let deletes = writes_by (DeleteClause c.delete_cause-cause.result) _ c.rule_of-deletes.ensures in
    (both_short c.args.f c.args.what c.args.redundant _ _ c.args.rest.now c.args.clause.now adds deletes
    c.requires.cuts c.args.bytes.now _ _ c.bytes_len-a.ensures.value c.bytes_len-b.ensures.value c.if-bytes-a.true).0

pub returns-then-bytes-a-clause-bytes : goal.returns-then-bytes-a-clause-bytes
returns-then-bytes-a-clause-bytes c =
    let adds = writes_by (AtClause c.add_flag-flag.result) _
    c.rule_of-adds.ensures in
    let deletes = writes_by (DeleteClause c.delete_cause-cause.result) _ c.rule_of-deletes.ensures in
    (both_short c.args.f c.args.what c.args.redundant _ _ c.args.rest.now c.args.clause.now adds deletes
    c.requires.cuts c.args.bytes.now _ _ c.bytes_len-a.ensures.value c.bytes_len-b.ensures.value c.if-bytes-a.true).1

pub returns-clause-value : goal.returns-clause-value
returns-clause-value c =
    let adds = writes_by (AtClause c.add_flag-flag.result) _ c.rule_of-adds.ensures in
    let deletes = writes_by (DeleteClause c.delete_cause-cause.result) _ c.rule_of-deletes.ensures in
    (both_whole c.args.f c.args.what c.args.redundant _ _ c.args.rest.now c.args.clause.now adds deletes
    c.requires.cuts c.args.bytes.now _ _ _ _ c.bytes_len-a.ensures.value c.bytes_len-b.ensures.value
    c.if-bytes-a.false c.put_bytes.ensures.fills
    c.put_bytes-2.ensures.fills).0

pub returns-clause-bytes : goal.returns-clause-bytes
returns-clause-bytes c =
    let adds = writes_by (AtClause c.add_flag-flag.result) _ c.rule_of-adds.ensures in
    let deletes = writes_by (DeleteClause c.delete_cause-cause.result) _ c.rule_of-deletes.ensures in
    (both_whole c.args.f c.args.what c.args.redundant _ _ c.args.rest.now c.args.clause.now adds deletes
    c.requires.cuts c.args.bytes.now _ _ _ _ c.bytes_len-a.ensures.value c.bytes_len-b.ensures.value
    c.if-bytes-a.false c.put_bytes.ensures.fills
    c.put_bytes-2.ensures.fills).1

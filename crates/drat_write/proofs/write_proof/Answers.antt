use mathlib.Core.Path.{sym, ◌∙◌}
use Rattle.drat.proofs.ListedLaws.{is_listed}
use Rattle.drat_write.proofs.write_proof.Goals as goal

pub proof_fits-requires : goal.proof_fits-requires
proof_fits-requires c =
    let a = c.args in
    is_listed a.codes.now a.ends.now a.kinds.now (sym c.no_proof.ensures ∙ c.if-no_proof.false)

pub put_proof-requires-clause-listed : goal.put_proof-requires-clause-listed
put_proof-requires-clause-listed c =
    let a = c.args in
    is_listed a.codes.now a.ends.now a.kinds.now
    (sym c.no_proof.ensures ∙ c.if-no_proof.false)

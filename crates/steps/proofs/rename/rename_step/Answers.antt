use Rattle.std.proofs.lemmas.Result.{err_from_is_err_and}
use Rattle.table.proofs.CheckLaws.{refuses_1, passes_1}
use Rattle.steps.proofs.RenameLaws.{rename_unsound}
use Rattle.steps.proofs.rename.rename_step.Goals as goal

pub returns-in_err-check_sound-clause-meets : goal.returns-in_err-check_sound-clause-meets
returns-in_err-check_sound-clause-meets c =
    let a = c.args in
    let p = err_from_is_err_and c.from_residual.result c.from_residual.ensures.1 in
    let q = refuses_1 _ _ _ c.check_sound.ensures c.in_err-check_sound.was in
    rw (p.1, p.2, q.1) (rename_unsound _ a.step a.solvervars a.lits.now a.hashes.now a.out.now a.hashout.now q.0).does

pub returns-in_err-check_sound-clause-out : goal.returns-in_err-check_sound-clause-out
returns-in_err-check_sound-clause-out c =
    let a = c.args in
    let q = refuses_1 _ _ _ c.check_sound.ensures c.in_err-check_sound.was in
    (rename_unsound _ a.step a.solvervars a.lits.now a.hashes.now a.out.now a.hashout.now q.0).words

pub returns-in_err-check_sound-clause-hashout : goal.returns-in_err-check_sound-clause-hashout
returns-in_err-check_sound-clause-hashout c =
    let a = c.args in
    let q = refuses_1 _ _ _ c.check_sound.ensures c.in_err-check_sound.was in
    (rename_unsound _ a.step a.solvervars a.lits.now a.hashes.now a.out.now a.hashout.now q.0).more

pub known_rename_step-requires : goal.known_rename_step-requires
known_rename_step-requires c = passes_1 _ _ _ c.check_sound.ensures c.in_ok-check_sound.was

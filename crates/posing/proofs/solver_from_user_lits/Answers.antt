use Rattle.std.proofs.lemmas.Result.{err_from_is_err_and}
use Rattle.table.proofs.CheckLaws.{refuses_1, passes_1}
use Rattle.posing.proofs.CallLaws.{pose_unsound}
use Rattle.posing.proofs.solver_from_user_lits.Goals as goal

pub returns-in_err-check_sound-clause-meets : goal.returns-in_err-check_sound-clause-meets
returns-in_err-check_sound-clause-meets c =
    let p = err_from_is_err_and c.from_residual.result c.from_residual.ensures.1 in
    let q = refuses_1 _ _ _ c.check_sound.ensures c.in_err-check_sound.was in
    rw (p.1, p.2, q.1) (pose_unsound _ _ _ c.args.out.now _ q.0).0

pub returns-in_err-check_sound-clause-out : goal.returns-in_err-check_sound-clause-out
returns-in_err-check_sound-clause-out c = (pose_unsound _ _ _ _ _ (refuses_1 _ _ _ c.check_sound.ensures c.in_err-check_sound.was).0).1

pub known_solver_from_user_lits-requires-clause-records_value : goal.known_solver_from_user_lits-requires-clause-records_value
known_solver_from_user_lits-requires-clause-records_value c = passes_1 _ _ _ c.check_sound.ensures c.in_ok-check_sound.was

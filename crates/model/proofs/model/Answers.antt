use Rattle.std.proofs.lemmas.Result.{err_from_is_err_and}
use Rattle.model.proofs.CallLaws.{model_told_unsound}
use Rattle.table.proofs.CheckLaws.{refuses_1, passes_1}
use Rattle.model.proofs.model.Goals as goal

pub returns-in_err-check_sound : goal.returns-in_err-check_sound
returns-in_err-check_sound c =
    let p = err_from_is_err_and c.from_residual.result c.from_residual.ensures.1 in
    let q = refuses_1 _ _ _ c.check_sound.ensures c.in_err-check_sound.was in
    let z = model_told_unsound _ _ _ q.0 in
    record { meets = rw (p.1, p.2, q.1) z.does; globals = z.globals; users = z.users }

pub known_model-requires : goal.known_model-requires
known_model-requires c = passes_1 _ _ _ c.check_sound.ensures c.in_ok-check_sound.was

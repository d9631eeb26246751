use Rattle.std.proofs.lemmas.Result.{err_from_is_err_and}
use Rattle.scope.proofs.RefusedLaws.{refused_ok}
use Rattle.model.proofs.CallLaws.{model_asks, model_told_refused, model_told_done}
use Rattle.model.proofs.known_model.Goals as goal

pub returns-in_err-model_refusal : goal.returns-in_err-model_refusal
returns-in_err-model_refusal c =
    let p = err_from_is_err_and c.from_residual.result c.from_residual.ensures.1 in
    let z = model_told_refused _ _ _ _ _ c.model_refusal.ensures c.in_err-model_refusal.was in
    record { meets = rw (p.1, p.2) z.does; globals = z.globals; users = z.users }

pub reconstruct_global_model-requires-clause-room : goal.reconstruct_global_model-requires-clause-room
reconstruct_global_model-requires-clause-room c =
    (model_asks _ _ _ _ c.model_refusal.ensures (refused_ok _ _ c.in_ok-model_refusal.was)).globals

pub fill_users-k-requires-clause-room : goal.fill_users-k-requires-clause-room
fill_users-k-requires-clause-room c =
    (model_asks _ _ _ _ c.model_refusal.ensures (refused_ok _ _ c.in_ok-model_refusal.was)).users

pub returns : goal.returns
returns c =
    let z = model_told_done _ _ _ _ _ _ _ c.model_refusal.ensures (refused_ok _ _ c.in_ok-model_refusal.was)
    c.reconstruct_global_model.ensures c.fill_users-k.ensures.value c.fill_users-k.ensures.fills in
    record { meets = z.does; globals = z.globals; users = z.users }

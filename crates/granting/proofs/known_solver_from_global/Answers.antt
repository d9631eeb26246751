use mathlib.Core.List.{[]}
use Rattle.std.proofs.lemmas.Result.{err_from_is_err_and}
use Rattle.scope.proofs.RefusedLaws.{refused_ok}
use Rattle.granting.proofs.GrantLaws.{grant_refused, grant_asks, grant_few, grant_done}
use Rattle.changes.proofs.LeavesLaws.{notes_fit}
use Rattle.granting.proofs.known_solver_from_global.Goals as goal

pub returns-in_err-grant_refusal : goal.returns-in_err-grant_refusal
returns-in_err-grant_refusal c =
    let p = err_from_is_err_and c.from_residual.result c.from_residual.ensures.1 in
    rw (p.1, p.2) (grant_refused _ _ _ _ _ c.grant_refusal.ensures c.in_err-grant_refusal.was)

pub grant_index-h-requires : goal.grant_index-h-requires
grant_index-h-requires c =
    record { gu = _; ug = _; asks = grant_asks _ _ _ _ c.grant_refusal.ensures (refused_ok _ _ c.in_ok-grant_refusal.was) }

pub overflow_cast-result : goal.overflow_cast-result
overflow_cast-result c =
    record { fits = notes_fit (c.grant_index-h.ensures.by_index_2 [] []) (grant_few _ _) }

pub returns : goal.returns
returns c =
    grant_done _ _ _ _ _ _ _ _ c.grant_refusal.ensures (refused_ok _ _ c.in_ok-grant_refusal.was) (c.grant_index-h.ensures.by_index _ _)
    (c.grant_index-h.ensures.by_index_2 _ _)

use Rattle.std.proofs.lemmas.Result.{err_from_is_err_and}
use Rattle.scope.proofs.RefusedLaws.{refused_ok}
use Rattle.posing.proofs.CallLaws.{pose_asks, pose_few, pose_refused, pose_done}
use Rattle.changes.proofs.LeavesLaws.{notes_fit}
use native.Mathlib.Omega.{arith}
use Rattle.posing.proofs.pose_any.Goals as goal

pub returns-in_err-pose_refusal-clause-meets : goal.returns-in_err-pose_refusal-clause-meets
returns-in_err-pose_refusal-clause-meets c =
    let p = err_from_is_err_and c.from_residual.result c.from_residual.ensures.1 in
    rw (p.1, p.2) (pose_refused _ _ _ _ _ c.args.out.now _ c.pose_refusal.ensures c.in_err-pose_refusal.was).0

pub returns-in_err-pose_refusal-clause-out : goal.returns-in_err-pose_refusal-clause-out
returns-in_err-pose_refusal-clause-out c =
    (pose_refused _ _ _ _ _ _ _ c.pose_refusal.ensures c.in_err-pose_refusal.was).1

pub place_all-p-requires-clause-pose_asks : goal.place_all-p-requires-clause-pose_asks
place_all-p-requires-clause-pose_asks c =
    pose_asks _ _ _ _ _ _ c.pose_refusal.ensures (refused_ok _ _ c.in_ok-pose_refusal.was)

pub overflow_cast-result : goal.overflow_cast-result
overflow_cast-result c =
    let f = (pose_asks _ _ _ _ _ _ c.pose_refusal.ensures (refused_ok _ _ c.in_ok-pose_refusal.was)).few in
    omega arith

pub overflow_cast-result-2 : goal.overflow_cast-result-2
overflow_cast-result-2 c =
    record {
      fits = notes_fit c.place_all-p.ensures.value (pose_few _ _ _ _ (pose_asks _ _ _ _ _ _ c.pose_refusal.ensures (refused_ok _ _ c.in_ok-pose_refusal.was)));
    }

pub returns-clause-meets : goal.returns-clause-meets
returns-clause-meets c =
    (pose_done _ _ _ _ _ _ _ _ _ _ c.pose_refusal.ensures (refused_ok _ _ c.in_ok-pose_refusal.was) (c.place_all-p.ensures.value, c.place_all-p.ensures.out)).0

pub returns-clause-out : goal.returns-clause-out
returns-clause-out c =
    (pose_done _ _ _ _ _ _ _ _ _ _ c.pose_refusal.ensures (refused_ok _ _ c.in_ok-pose_refusal.was) (c.place_all-p.ensures.value, c.place_all-p.ensures.out)).1

use Rattle.naming.proofs.CallLaws.{all_inside}
use Rattle.posing.proofs.HeldLaws.{solvers_inside, tried_done, tried_lead, tried_on}
use Rattle.posing.proofs.known_solver_from_user_lits.Goals as goal

pub pose_held-requires-clause-map_below : goal.pose_held-requires-clause-map_below
pose_held-requires-clause-map_below c =
    all_inside _ c.requires.records_value

pub pose_held-requires-clause-map_below_2 : goal.pose_held-requires-clause-map_below_2
pose_held-requires-clause-map_below_2 c =
    solvers_inside _ c.requires.records_value

pub returns-in-Ok-clause-meets : goal.returns-in-Ok-clause-meets
returns-in-Ok-clause-meets c = (tried_done _ _ _ _ _ _ c.pose_held.ensures _ c.requires.records_value _ c.in-Ok.is).0

pub returns-in-Ok-clause-out : goal.returns-in-Ok-clause-out
returns-in-Ok-clause-out c = (tried_done _ _ _ _ _ _ c.pose_held.ensures _ c.requires.records_value _ c.in-Ok.is).1

pub pose_any-requires-clause-held_to : goal.pose_any-requires-clause-held_to
pose_any-requires-clause-held_to c = tried_lead _ _ _ _ _ _ _ _ c.pose_held.ensures _ c.in-Err.is

pub returns-in-Err-clause-meets : goal.returns-in-Err-clause-meets
returns-in-Err-clause-meets c =
    (tried_on _ _ _ _ _ _ c.pose_held.ensures _ _ _ _ _ _ c.in-Err.is (c.pose_any.ensures.meets, c.pose_any.ensures.out)).0

pub returns-in-Err-clause-out : goal.returns-in-Err-clause-out
returns-in-Err-clause-out c =
    (tried_on _ _ _ _ _ _ c.pose_held.ensures _ _ _ _ _ _ c.in-Err.is (c.pose_any.ensures.meets, c.pose_any.ensures.out)).1

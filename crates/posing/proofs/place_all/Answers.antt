use Rattle.held.proofs.RunLaws.{run_up}
use native.Mathlib.Omega.{arith}
use Rattle.posing.proofs.AllLaws.{lits_start, turn_asks, turn_small, lits_more, lits_end, lits_sound}
use Rattle.posing.proofs.HeldLaws.{run_done, solvers_inside}
use Rattle.posing.proofs.place_all.Goals as goal

pub loop-i-init : goal.loop-i-init
loop-i-init c = (lits_start _ _ _ _, c.requires.none_free)

pub held_lits-i-requires-clause-map_below : goal.held_lits-i-requires-clause-map_below
held_lits-i-requires-clause-map_below c =
    solvers_inside _ (lits_sound _ _ _ _ _ _ _ _ _ _ c.requires.pose_asks c.loop-i.invariant.0)

pub returns-then-lits-i-clause-value : goal.returns-then-lits-i-clause-value
returns-then-lits-i-clause-value c =
    let d = run_done _ _ _ _ _ _ c.held_lits-i.ensures c.loop-i.invariant.0 in
    (lits_end _ _ _ _ _ _ _ _ _ c.if-lits-i.true d).0

pub returns-then-lits-i-clause-out : goal.returns-then-lits-i-clause-out
returns-then-lits-i-clause-out c =
    let d = run_done _ _ _ _ _ _ c.held_lits-i.ensures c.loop-i.invariant.0 in
    (lits_end _ _ _ _ _ _ _ _ _ c.if-lits-i.true d).1

pub place_new-q-requires-clause-place_asks : goal.place_new-q-requires-clause-place_asks
place_new-q-requires-clause-place_asks c =
    let d = run_done _ _ _ _ _ _ c.held_lits-i.ensures c.loop-i.invariant.0 in
    turn_asks _ _ _ _ _ _ _ _ _ _ c.requires.pose_asks c.if-lits-i.false d

pub overflow_mul-out : goal.overflow_mul-out
overflow_mul-out c =
    let d = run_done _ _ _ _ _ _ c.held_lits-i.ensures c.loop-i.invariant.0 in
    let v = turn_small _ _ _ _ _ _ _ _ _ _ _ c.requires.pose_asks c.if-lits-i.false d c.place_new-q.ensures.solver_value in
    omega arith

pub overflow_add-out : goal.overflow_add-out
overflow_add-out c =
    let d = run_done _ _ _ _ _ _ c.held_lits-i.ensures c.loop-i.invariant.0 in
    let v = turn_small _ _ _ _ _ _ _ _ _ _ _ c.requires.pose_asks c.if-lits-i.false d c.place_new-q.ensures.solver_value in
    omega arith

pub loop-i-smaller : goal.loop-i-smaller
loop-i-smaller c =
    let l = c.if-lits-i.false in
    let u = run_up c.held_lits-i.ensures in
    omega arith

pub loop-i-preserved : goal.loop-i-preserved
loop-i-preserved c =
    let d = run_done _ _ _ _ _ _ c.held_lits-i.ensures c.loop-i.invariant.0 in
    (lits_more _ _ _ _ _ _ _ _ _ _ _ _ _ _ c.if-lits-i.false d c.place_new-q.ensures.solver_value c.place_new-q.ensures.leaves (omega arith), c.place_new-q.ensures.none_free_2)

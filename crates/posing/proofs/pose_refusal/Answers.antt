use Rattle.posing.proofs.CallLaws.{pose_many, pose_3, pose_4, pose_5, pose_2, pose_0}
use Rattle.posing.proofs.HeldLaws.{rest_outside, rest_inside, rest_asks, rest_counts}
use Rattle.naming.proofs.CallLaws.{all_inside}
use native.Mathlib.Omega.{arith}
use Rattle.posing.proofs.pose_refusal.Goals as goal

pub returns-then-lits-gt8192 : goal.returns-then-lits-gt8192
returns-then-lits-gt8192 c =
    pose_many _ _ _ _ _ c.requires.records_value c.if-lits-gt8192.true

pub returns-then-any_outside : goal.returns-then-any_outside
returns-then-any_outside c =
    pose_3 _ _ _ _ _ c.requires.records_value c.if-lits-gt8192.false _ (rest_outside _ _ _ _ c.requires.records_value c.requires.held_to c.any_outside.ensures) c.if-any_outside.true

pub any_unsampled-requires : goal.any_unsampled-requires
any_unsampled-requires c =
    all_inside _ c.requires.records_value

pub returns-then-any_unsampled : goal.returns-then-any_unsampled
returns-then-any_unsampled c =
    let a = rest_inside _ _ _ _ c.requires.records_value c.requires.held_to c.any_outside.ensures c.if-any_outside.false in
    pose_4 _ _ _ _ _ c.requires.records_value c.if-lits-gt8192.false a _ c.any_unsampled.ensures c.if-any_unsampled.true

pub needs_of-n-requires-clause-within : goal.needs_of-n-requires-clause-within
needs_of-n-requires-clause-within c =
    (rest_asks _ _ _ _ c.requires.records_value c.requires.held_to c.if-lits-gt8192.false c.any_outside.ensures c.if-any_outside.false).1

pub overflow_sub-users : goal.overflow_sub-users
overflow_sub-users c =
    let k = rest_counts _ _ _ _ c.requires.records_value c.requires.held_to _ c.any_outside.ensures c.if-any_outside.false c.needs_of-n.ensures in
    k.above

pub overflow_add-users : goal.overflow_add-users
overflow_add-users c =
    let k = rest_counts _ _ _ _ c.requires.records_value c.requires.held_to _ c.any_outside.ensures c.if-any_outside.false c.needs_of-n.ensures in
    omega arith

pub overflow_add-c : goal.overflow_add-c
overflow_add-c c =
    let k = rest_counts _ _ _ _ c.requires.records_value c.requires.held_to _ c.any_outside.ensures c.if-any_outside.false c.needs_of-n.ensures in
    omega arith

pub returns-then-c-users : goal.returns-then-c-users
returns-then-c-users c =
    let a = rest_inside _ _ _ _ c.requires.records_value c.requires.held_to c.any_outside.ensures c.if-any_outside.false in
    let k = rest_counts _ _ _ _ c.requires.records_value c.requires.held_to _ c.any_outside.ensures c.if-any_outside.false c.needs_of-n.ensures in
    pose_5 _ _ _ _ _ c.requires.records_value c.if-lits-gt8192.false a _ c.any_unsampled.ensures c.if-any_unsampled.false _ _ _ k (omega (arith, c.if-c-users.true))

pub overflow_add-words : goal.overflow_add-words
overflow_add-words c =
    let k = rest_counts _ _ _ _ c.requires.records_value c.requires.held_to _ c.any_outside.ensures c.if-any_outside.false c.needs_of-n.ensures in
    omega arith

pub returns-then-outs-lits : goal.returns-then-outs-lits
returns-then-outs-lits c =
    let a = rest_inside _ _ _ _ c.requires.records_value c.requires.held_to c.any_outside.ensures c.if-any_outside.false in
    let k = rest_counts _ _ _ _ c.requires.records_value c.requires.held_to _ c.any_outside.ensures c.if-any_outside.false c.needs_of-n.ensures in
    pose_2 _ _ _ _ _ c.requires.records_value c.if-lits-gt8192.false a _ c.any_unsampled.ensures c.if-any_unsampled.false _ _ _ k (omega (arith, c.if-c-users.false)) c.if-outs-lits.true

pub returns : goal.returns
returns c =
    let a = rest_inside _ _ _ _ c.requires.records_value c.requires.held_to c.any_outside.ensures c.if-any_outside.false in
    let k = rest_counts _ _ _ _ c.requires.records_value c.requires.held_to _ c.any_outside.ensures c.if-any_outside.false c.needs_of-n.ensures in
    pose_0 _ _ _ _ _ c.requires.records_value c.if-lits-gt8192.false a _ c.any_unsampled.ensures c.if-any_unsampled.false _ _ _ k (omega (arith, c.if-c-users.false)) c.if-outs-lits.false

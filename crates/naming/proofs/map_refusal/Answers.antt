use Rattle.mapping.proofs.GapLaws.{user_small}
use Rattle.naming.proofs.CallLaws.{all_inside, map_counts_lem, map_3, map_4, map_5, map_2, map_0}
use native.Mathlib.Omega.{arith}
use Rattle.naming.proofs.map_refusal.Goals as goal

pub returns-then-c-user : goal.returns-then-c-user
returns-then-c-user c = map_3 _ _ _ _ c.requires c.if-c-user.true

pub is_unsampled-requires : goal.is_unsampled-requires
is_unsampled-requires c = all_inside _ c.requires

pub returns-then-sampling-is_unsampled : goal.returns-then-sampling-is_unsampled
returns-then-sampling-is_unsampled c =
    map_4 _ _ _ _ c.requires c.if-c-user.false _ c.is_unsampled.ensures c.if-sampling-is_unsampled.true

pub to_map-n-requires : goal.to_map-n-requires
to_map-n-requires c =
    user_small _ _ c.requires c.if-c-user.false

pub overflow_add-c : goal.overflow_add-c
overflow_add-c c =
    let k = map_counts_lem _ _ _ c.requires c.to_map-n.ensures in
    let w = user_small _ _ c.requires c.if-c-user.false in
    omega arith

pub returns-then-c-n : goal.returns-then-c-n
returns-then-c-n c =
    let k = map_counts_lem _ _ _ c.requires c.to_map-n.ensures in
    map_5 _ _ _ _ c.requires c.if-c-user.false _ c.is_unsampled.ensures c.if-sampling-is_unsampled.false _ k (omega (arith, c.if-c-n.true))

pub returns-then-room-n : goal.returns-then-room-n
returns-then-room-n c =
    let k = map_counts_lem _ _ _ c.requires c.to_map-n.ensures in
    map_2 _ _ _ _ c.requires c.if-c-user.false _ c.is_unsampled.ensures c.if-sampling-is_unsampled.false _ k
    (omega (arith, c.if-c-n.false)) c.if-room-n.true

pub returns : goal.returns
returns c =
    let k = map_counts_lem _ _ _ c.requires c.to_map-n.ensures in
    map_0 _ _ _ _ c.requires c.if-c-user.false _ c.is_unsampled.ensures c.if-sampling-is_unsampled.false _ k
    (omega (arith, c.if-c-n.false)) c.if-room-n.false

use Rattle.model.proofs.CallLaws.{refusal_2_globals, refusal_0_ample, refusal_2_users, refusal_0}
use Rattle.model.proofs.model_refusal.Goals as goal

pub returns-then-globals-c : goal.returns-then-globals-c
returns-then-globals-c c =
    refusal_2_globals _ _ _ c.requires c.if-globals-c.true

pub returns-then-c-users : goal.returns-then-c-users
returns-then-c-users c =
    refusal_0_ample _ _ _ c.requires c.if-globals-c.false c.if-c-users.true

pub returns-then-users-k : goal.returns-then-users-k
returns-then-users-k c =
    refusal_2_users _ _ _ _ c.requires c.if-globals-c.false c.count_users-k.ensures c.if-users-k.true

pub returns : goal.returns
returns c =
    refusal_0 _ _ _ _ c.requires c.if-globals-c.false c.count_users-k.ensures c.if-users-k.false

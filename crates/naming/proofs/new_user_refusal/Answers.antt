use Rattle.naming.proofs.CallLaws.{used_small, new_5, new_2, new_0}
use native.Mathlib.Omega.{arith}
use Rattle.naming.proofs.new_user_refusal.Goals as goal

pub overflow_add-c : goal.overflow_add-c
overflow_add-c c = let k = used_small _ c.requires in omega arith

pub returns-then-c : goal.returns-then-c
returns-then-c c = new_5 _ _ c.requires (omega (arith, c.if-c.true))

pub returns-then-room-lt3 : goal.returns-then-room-lt3
returns-then-room-lt3 c = new_2 _ _ c.requires (omega (arith, c.if-c.false)) c.if-room-lt3.true

pub returns : goal.returns
returns c = new_0 _ _ c.requires (omega (arith, c.if-c.false)) c.if-room-lt3.false

use native.Mathlib.Omega.{arith}
use Rattle.std.proofs.lemmas.Result.{err_from_is_err_and}
use Rattle.marks.proofs.ChangeLaws.{assign_in_unheld, assign_in_place, assign_in_9, assign_in_done}
use Rattle.marks.proofs.assign_in.Goals as goal

pub returns-in_err-held_refusal : goal.returns-in_err-held_refusal
returns-in_err-held_refusal c =
    let p = err_from_is_err_and c.from_residual.result c.from_residual.ensures.1 in
    rw (p.1, p.2) (assign_in_unheld _ _ _ _ c.in_err-held_refusal.ensures)

pub returns-then-assignment-s : goal.returns-then-assignment-s
returns-then-assignment-s c =
    λ t k p q. absurd (assign_in_place _ _ _ c.in_ok-held_refusal.ensures t k p q c.if-assignment-s.true)

pub returns-then-assignment-s-ne0 : goal.returns-then-assignment-s-ne0
returns-then-assignment-s-ne0 c =
    assign_in_9 _ _ _ c.in_ok-held_refusal.ensures c.if-assignment-s-ne0.true

pub returns : goal.returns
returns c =
    let free = c.if-assignment-s-ne0.false in
    assign_in_done _ _ _ c.in_ok-held_refusal.ensures _ (omega arith) (omega arith)

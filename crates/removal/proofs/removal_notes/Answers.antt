use native.Mathlib.Omega.{arith}
use Rattle.base.proofs.Truth.{truth, false_of}
use Rattle.removal.proofs.CountingLaws.{removal_two, removal_one}
use Rattle.removal.proofs.removal_notes.Goals as goal

pub returns-then-user-w : goal.returns-then-user-w
returns-then-user-w c = let k = simp truth at c.if-user-w.true in removal_two _ _ (simp truth (omega arith))

pub returns-else-user-w : goal.returns-else-user-w
returns-else-user-w c = removal_one _ _ (false_of _ _ (λ h. let k = simp truth at h in simp truth (omega arith)) c.if-user-w.false)

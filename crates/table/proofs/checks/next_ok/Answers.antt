use mathlib.Core.Path.{◌≡◌}
use Rattle.base.proofs.Truth.{truth}
use native.Mathlib.Omega.{arith}
use Rattle.table.proofs.CheckLaws.{next_past, next_gap, next_mark, next_here}
use Rattle.table.proofs.checks.next_ok.Goals as goal

pub returns-then-mark-next : goal.returns-then-mark-next
returns-then-mark-next c = next_past _ _ _ (omega (arith, c.if-mark-next.true))

pub returns-then-not-all_filled : goal.returns-then-not-all_filled
returns-then-not-all_filled c = next_gap _ _ _ _ c.all_filled.ensures c.if-not-all_filled.true

pub returns-then-next-mark : goal.returns-then-next-mark
returns-then-next-mark c =
    next_mark _ _ _ _ (omega (arith, c.if-mark-next.false)) c.all_filled.ensures c.if-not-all_filled.false (omega (arith, c.if-next-mark.true))

pub returns : goal.returns
returns c =
    let a = c.args in
    next_here _ _ _ _ (omega (arith, c.if-mark-next.false)) c.all_filled.ensures c.if-not-all_filled.false
    (λ (e : a.next ≡ a.mark). omega (arith, e, c.if-next-mark.false)) _
    (λ h. let k = simp truth at h in omega arith) (λ z. simp truth (omega arith))

use native.Mathlib.Omega.{arith}
use Rattle.base.proofs.Truth.{truth}
use Rattle.distinct.proofs.NeedLaws.{low_is}
use Rattle.distinct.proofs.is_low.Goals as goal

pub returns : goal.returns
returns c =
    let w = c.word_at-word.ensures in
    low_is _ _ _ _ (λ h. let k = simp truth at h in (omega arith, omega arith)) (λ l z. simp truth (omega arith, omega arith))

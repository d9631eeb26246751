use Rattle.sections.proofs.InsideLaws.{low_at}
use mathlib.Core.Bool.{true}
use Prim.Native.Nat.{ℕ, ◌<◌}
use mathlib.Core.Path.{◌≡◌}
use Rattle.sections.proofs.all_inside.Given as goal

abbrev pub invariant-loop-l : goal.invariant-loop-l
invariant-loop-l l = ((j : ℕ) → j < l.l → low_at l.s.lists.now l.s.n j ≡ true)

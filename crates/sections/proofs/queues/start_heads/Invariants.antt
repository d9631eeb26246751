use lib.ListN.{get_or}
use Prim.Native.Nat.{ℕ, ◌+◌, ◌<◌}
use mathlib.Core.Path.{◌≡◌}
use Rattle.sections.proofs.queues.start_heads.Given as goal

abbrev pub invariant-loop-l : goal.invariant-loop-l
invariant-loop-l l = ((j : ℕ) → j < l.l → get_or l.head j 0 ≡ get_or l.place j 0 + 1)

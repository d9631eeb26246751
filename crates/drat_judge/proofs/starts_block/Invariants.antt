use Prim.Native.Nat.{◌+◌, ◌≤◌}
use mathlib.Core.Path.{◌≡◌}
use lib.ListN.{drop}
use Rattle.drat_judge.specs.Local.{starts}
use Rattle.drat_judge.proofs.starts_block.Given as goal

abbrev pub invariant-loop-x : goal.invariant-loop-x
invariant-loop-x l = (l.k ≤ l.x-index) × (l.k + starts l.lo l.hi l.last (drop l.x-index l.s) ≡ starts l.lo l.hi l.p l.s)

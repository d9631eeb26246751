use Prim.Native.Nat.{◌+◌, ◌≤◌}
use mathlib.Core.Path.{◌≡◌}
use lib.ListN.{drop}
use Rattle.drat_judge.specs.Local.{tally}
use Rattle.drat_judge.proofs.block.Given as goal

abbrev pub invariant-loop-x : goal.invariant-loop-x
invariant-loop-x l = (l.k ≤ l.x-index) × (l.k + tally l.lo l.hi (drop l.x-index l.s) ≡ tally l.lo l.hi l.s)

use Prim.Native.Nat.{ℕ, ◌/◌, ◌≤◌, ◌<◌}
use lib.ListN.{get_or}
use Rattle.dimacs.specs.Cnf.{magnitude, largest}
use Rattle.dimacs_write.proofs.largest_of.Given as goal

abbrev pub invariant-loop-code : goal.invariant-loop-code
invariant-loop-code l =
    (l.m / 2 ≤ largest l.codes) × ((j : ℕ) → j < l.code-index → magnitude (get_or l.codes j 0) ≤ l.m / 2)

use Prim.Native.Nat.{ℕ, ◌-◌, ◌≤◌, ◌<◌}
use mathlib.Core.List.{List}
use lib.ListN.{length}
use Rattle.dimacs.proofs.Turns.{Turn}
use Rattle.dimacs_read.specs.Known.{LinesFit}
use Rattle.dimacs_read.proofs.fill.fill.Given as goal

abbrev pub invariant-loop-at-2 : goal.invariant-loop-at-2
invariant-loop-at-2 l =
    (l.initial.at ≤ l.at)
    × ((x y : List ℕ) → LinesFit l.s l.v l.from (length x) (length y) → (start : ℕ) → Turn l.s l.v l.from x y l.initial.codes l.ends start l.initial.at l.initial.n l.m → l.initial.at < length l.s
    → (l.at < length l.s) × Turn l.s l.v l.from x y l.codes l.ends start l.at l.n l.m)

abbrev pub decreases-loop-at-2 : goal.decreases-loop-at-2
decreases-loop-at-2 l = length l.s - l.at

abbrev pub invariant-loop-at : goal.invariant-loop-at
invariant-loop-at l = (start : ℕ) × Turn l.s l.v l.from l.initial.codes l.initial.ends l.codes l.ends start l.at l.n l.m

abbrev pub decreases-loop-at : goal.decreases-loop-at
decreases-loop-at l = length l.s - l.at

use Prim.Native.Nat.{◌+◌, ◌≤◌}
use mathlib.Core.Path.{◌≡◌}
use lib.ListN.{length, drop}
use Rattle.drat.specs.Reading.{seps}
use Rattle.drat_scan.proofs.place.past_seps.Given as goal

abbrev pub invariant-loop-i : goal.invariant-loop-i
invariant-loop-i l = (length l.s ≤ l.at → l.i ≡ l.at) × (l.i + seps (drop l.i l.s) ≡ l.at + seps (drop l.at l.s))

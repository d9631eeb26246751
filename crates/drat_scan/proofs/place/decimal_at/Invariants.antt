use Prim.Native.Nat.{◌≤◌}
use mathlib.Core.Path.{◌≡◌}
use lib.ListN.{drop}
use Rattle.drat.specs.Reading.{digits_from}
use Rattle.drat_scan.proofs.place.decimal_at.Given as goal

abbrev pub invariant-loop-i : goal.invariant-loop-i
invariant-loop-i l = (l.v ≤ 4096) × (digits_from l.sign l.v l.i (drop l.i l.s) ≡ digits_from l.sign 0 l.at (drop l.at l.s))

use Prim.Native.Nat.{◌≤◌, ◌<◌}
use mathlib.Core.Path.{◌≡◌}
use lib.ListN.{drop}
use Rattle.drat.specs.Reading.{leb_from}
use Rattle.drat_scan.proofs.place.leb_at.Given as goal

abbrev pub invariant-loop-i : goal.invariant-loop-i
invariant-loop-i l = (l.v < l.w) × (l.w ≤ 8192) × (leb_from l.v l.w l.i (drop l.i l.s) ≡ leb_from 0 1 l.at (drop l.at l.s))

use Prim.Native.Nat.{◌-◌, ◌≤◌}
use mathlib.Core.Path.{◌≡◌}
use lib.ListN.{length}
use Rattle.drat.proofs.Ends.{end_part}
use Rattle.drat.proofs.Places.{body_at, step_at}
use Rattle.drat.specs.Filled.{end_of}
use Rattle.drat_scan.proofs.scan.step_end.Given as goal

abbrev pub invariant-loop-next : goal.invariant-loop-next
invariant-loop-next l = (l.at ≤ length l.s) × (end_part l.start (body_at l.f l.s l.at) ≡ end_of l.start (step_at l.f l.s l.start))

abbrev pub decreases-loop-next : goal.decreases-loop-next
decreases-loop-next l = length l.s - l.at

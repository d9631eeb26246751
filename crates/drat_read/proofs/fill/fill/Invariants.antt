use Prim.Native.Nat.{◌-◌}
use lib.ListN.{length}
use Rattle.drat.proofs.Scanning.{Outer}
use Rattle.drat_read.proofs.fill.fill.Given as goal

abbrev pub invariant-loop-at : goal.invariant-loop-at
invariant-loop-at l = Outer l.f l.s l.initial.codes l.initial.ends l.initial.kinds l.codes l.ends l.kinds l.at l.n l.m

abbrev pub decreases-loop-at : goal.decreases-loop-at
decreases-loop-at l = length l.s - l.at

use Prim.Native.Nat.{◌-◌}
use lib.ListN.{length}
use Rattle.drat_scan.proofs.ScanLaws.{Between, InStep}
use Rattle.drat_scan.proofs.scan.scan.Given as goal

abbrev pub invariant-loop-next : goal.invariant-loop-next
invariant-loop-next l = InStep l.f l.s l.initial.at l.initial.n l.at l.n

abbrev pub decreases-loop-next : goal.decreases-loop-next
decreases-loop-next l = length l.s - l.at

abbrev pub invariant-steps : goal.invariant-steps
invariant-steps l = Between l.f l.s l.at l.n l.m

abbrev pub decreases-steps : goal.decreases-steps
decreases-steps l = length l.s - l.at

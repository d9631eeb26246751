use Prim.Native.Nat.{◌+◌, ◌-◌, ◌≤◌}
use mathlib.Core.Path.{◌≡◌}
use lib.Seq.{sets}
use lib.ListN.{length, drop}
use Rattle.drat.specs.Grammar.{numbers}
use Rattle.drat.specs.declared.Format.TheVariants.{Binary}
use Rattle.drat_write.proofs.put_short.Given as goal

abbrev pub invariant-loop-i : goal.invariant-loop-i
invariant-loop-i l =
    (l.i ≤ length l.lits) × (length l.out ≡ length l.initial.out) × (sets l.out (l.at + l.i) (numbers Binary (drop l.i l.lits)) ≡ sets l.initial.out l.at (numbers Binary l.lits))

abbrev pub decreases-loop-i : goal.decreases-loop-i
decreases-loop-i l = length l.lits - l.i

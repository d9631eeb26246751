use Prim.Native.Nat.{◌+◌, ◌≤◌}
use mathlib.Core.Path.{◌≡◌}
use lib.Seq.{sets}
use lib.ListN.{length}
use Rattle.drat.specs.Numeral.{decimal, bytes_of}
use Rattle.dimacs_write.proofs.put_count.Given as goal

abbrev pub invariant-loop-m : goal.invariant-loop-m
invariant-loop-m l =
    (length l.out ≡ length l.initial.out) × (l.p ≡ l.at + length (bytes_of decimal l.m)) × (l.p ≤ l.end)
    × (sets l.out l.at (bytes_of decimal l.m) ≡ sets l.initial.out l.at (bytes_of decimal l.n))

abbrev pub decreases-loop-m : goal.decreases-loop-m
decreases-loop-m l = l.m

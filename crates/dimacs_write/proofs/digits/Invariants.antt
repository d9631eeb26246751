use Prim.Native.Nat.{◌+◌}
use mathlib.Core.Path.{◌≡◌}
use lib.ListN.{length}
use Rattle.drat.specs.Numeral.{decimal, bytes_of}
use Rattle.dimacs_write.proofs.digits.Given as goal

abbrev pub invariant-loop-m : goal.invariant-loop-m
invariant-loop-m l =
    l.k + length (bytes_of decimal l.m) ≡ 1 + length (bytes_of decimal l.n)

abbrev pub decreases-loop-m : goal.decreases-loop-m
decreases-loop-m l = l.m

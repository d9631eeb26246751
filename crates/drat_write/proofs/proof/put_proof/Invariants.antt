use Prim.Native.Nat.{◌+◌}
use mathlib.Core.Path.{◌≡◌}
use mathlib.Core.Bool.{true}
use lib.Seq.{sets}
use lib.ListN.{length, drop}
use Rattle.drat.specs.Grammar.{encode}
use Rattle.drat.specs.Listed.{listed, rises_to}
use Rattle.drat_write.proofs.proof.put_proof.Given as goal

abbrev pub invariant-loop-i : goal.invariant-loop-i
invariant-loop-i l =
    (rises_to (length l.codes) l.a (drop l.i l.ends) ≡ true)
    × (l.at + length (encode l.f (listed l.codes l.a (drop l.i l.ends) (drop l.i l.kinds))) ≡ length (encode l.f (listed l.codes 0 l.ends l.kinds)))
    × (sets l.out l.at (encode l.f (listed l.codes l.a (drop l.i l.ends) (drop l.i l.kinds))) ≡ sets l.initial.out 0 (encode l.f (listed l.codes 0 l.ends l.kinds)))

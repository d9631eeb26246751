use Prim.Native.Nat.{◌+◌}
use mathlib.Core.Path.{◌≡◌}
use lib.Seq.{sets}
use lib.ListN.{length, drop}
use Rattle.drat.specs.Grammar.{numbers}
use Rattle.drat_write.proofs.put_each.Given as goal

abbrev pub invariant-loop-lit : goal.invariant-loop-lit
invariant-loop-lit l =
    (l.p + length (numbers l.f (drop l.lit-index l.lits)) ≡ l.at + length (numbers l.f l.lits))
    × (sets l.out l.p (numbers l.f (drop l.lit-index l.lits)) ≡ sets l.initial.out l.at (numbers l.f l.lits))

use mathlib.Core.Path.{◌≡◌}
use Prim.Native.Nat.{◌+◌}
use lib.Seq.{sets}
use lib.ListN.{length}
use Rattle.scope.specs.Steps.{written}
use Rattle.scope.specs.declared.Writes.TheVariants.{AddEach}
use Rattle.drat.specs.Grammar.{encode}
use Rattle.steps.proofs.UnitLaws.{units_from}
use Rattle.steps.proofs.write.put_units.Given as goal

abbrev pub invariant-loop-i : goal.invariant-loop-i
invariant-loop-i l =
    (length l.out ≡ length l.initial.out)
    × (l.p + length (units_from l.f l.lits l.i) ≡ l.at + length (encode l.f (written AddEach l.lits)))
    × (sets l.out l.p (units_from l.f l.lits l.i) ≡ sets l.initial.out l.at (encode l.f (written AddEach l.lits)))

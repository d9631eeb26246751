use Prim.Native.Nat.{◌+◌, ◌*◌, ◌≤◌}
use mathlib.Core.Path.{◌≡◌}
use lib.ListN.{length}
use Rattle.scope.specs.Steps.{written}
use Rattle.scope.specs.declared.Writes.TheVariants.{AddEach}
use Rattle.drat.specs.Grammar.{encode}
use Rattle.steps.proofs.UnitLaws.{units_from}
use Rattle.steps.proofs.write.units_len.Given as goal

abbrev pub invariant-loop-i : goal.invariant-loop-i
invariant-loop-i l =
    (l.n + length (units_from l.f l.lits l.i) ≡ length (encode l.f (written AddEach l.lits)))
    × (l.n ≤ 49156 * l.i)

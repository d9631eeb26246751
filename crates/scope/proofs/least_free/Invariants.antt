use Rattle.scope.specs.Cursor.{AllMapped}
use Rattle.scope.proofs.least_free.Given as goal

abbrev pub invariant-loop-i : goal.invariant-loop-i
invariant-loop-i l = AllMapped l.xs l.mark l.i

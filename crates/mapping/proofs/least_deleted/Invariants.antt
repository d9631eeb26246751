use Rattle.scope.specs.Cursor.{NoneFree}
use Rattle.mapping.specs.Parts.{free}
use Rattle.mapping.proofs.least_deleted.Given as goal

abbrev pub invariant-loop-i : goal.invariant-loop-i
invariant-loop-i l = NoneFree (free l.records) l.mark l.i

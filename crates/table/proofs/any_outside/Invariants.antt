use mathlib.Core.Path.{◌≡◌}
use lib.Dec.{leb}
use lib.ListN.{take}
use Rattle.base.specs.Bounded.{any_of}
use Rattle.scope.specs.Literals.{index_of}
use Rattle.table.proofs.any_outside.Given as goal

abbrev pub invariant-loop-lit : goal.invariant-loop-lit
invariant-loop-lit l = l.found ≡ any_of (λ c. leb l.capacity (index_of c)) (take l.lit-index l.lits)

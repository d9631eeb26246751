use lib.ListN.{get_or, take}
use lib.Dec.{eqb}
use Rattle.scope.specs.Literals.{index_of}
use mathlib.Core.Bool.{false}
use mathlib.Core.Path.{◌≡◌}
use Rattle.base.specs.Bounded.{any_of}
use Rattle.steps.proofs.rename.any_unheld.Given as goal

abbrev pub invariant-loop-lit : goal.invariant-loop-lit
invariant-loop-lit l = any_of (λ c. eqb (get_or l.gs (index_of c) 0) 0) (take l.lit-index l.lits) ≡ false

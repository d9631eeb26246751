use mathlib.Core.Path.{◌≡◌}
use lib.Dec.{ltb}
use lib.ListN.{get_or}
use Rattle.base.specs.Bounded.{all_below}
use Rattle.drat_write.proofs.proof.kinds_ok.Given as goal

abbrev pub invariant-loop-kind : goal.invariant-loop-kind
invariant-loop-kind l = l.ok ≡ all_below l.kind-index (λ j. ltb (get_or l.kinds j 0) 2)

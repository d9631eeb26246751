use mathlib.Core.Path.{◌≡◌}
use lib.Dec.{ltb}
use lib.ListN.{get_or}
use Rattle.base.specs.Bounded.{all_below}
use Rattle.drat_write.proofs.all_below.Given as goal

abbrev pub invariant-loop-word : goal.invariant-loop-word
invariant-loop-word l = l.ok ≡ all_below l.word-index (λ j. ltb (get_or l.words j 0) l.bound)

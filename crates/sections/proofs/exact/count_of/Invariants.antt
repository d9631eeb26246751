use Rattle.base.proofs.KeepLaws.{kept_to}
use lib.Dec.{eqb}
use lib.ListN.{length}
use mathlib.Core.Path.{◌≡◌}
use Rattle.sections.proofs.exact.count_of.Given as goal

abbrev pub invariant-loop-e : goal.invariant-loop-e
invariant-loop-e l = (l.k ≡ length (kept_to (λ x. eqb x l.m) l.es l.e-index))

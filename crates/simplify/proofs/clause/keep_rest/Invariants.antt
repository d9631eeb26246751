use Rattle.scope.specs.Write.{rename_lit}
use Rattle.simplify.specs.Values.{false_by}
use Rattle.base.proofs.KeepLaws.{kept_to, stored}
use lib.ListN.{length, get_or}
use mathlib.Core.Bool.{not}
use mathlib.Core.Path.{◌≡◌}
use Rattle.simplify.proofs.clause.keep_rest.Given as goal

abbrev pub invariant-loop-lit : goal.invariant-loop-lit
invariant-loop-lit l =
    (l.k ≡ length (kept_to (λ x. not (false_by l.assignment x)) l.lits l.lit-index))
    × (l.out ≡ stored (λ x. not (false_by l.assignment x)) l.lits (rename_lit (λ s. get_or l.gs s 0) l.named) l.initial.out l.lit-index)

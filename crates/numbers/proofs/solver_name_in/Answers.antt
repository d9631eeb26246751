use mathlib.Core.Path.{refl}
use Rattle.scope.proofs.WordLaws.{index_of_word, sorted_none, sorted_some}
use Rattle.numbers.proofs.solver_name_in.Goals as goal

pub returns-in_err-checked_sub : goal.returns-in_err-checked_sub
returns-in_err-checked_sub c =
    sorted_none (λ i. record { 0 = i }) _ _ _ (index_of_word _ _ _ refl c.checked_sub.ensures) c.in_err-checked_sub.was c.from_residual.ensures

pub returns : goal.returns
returns c = sorted_some (λ i. record { 0 = i }) _ _ _ (index_of_word _ _ _ refl c.checked_sub.ensures) c.in_ok-checked_sub.was

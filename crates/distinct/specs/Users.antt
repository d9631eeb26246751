-- What the counts answer, over a way of counting (scope/specs/Distinct.antt).
use Rattle.std.specs.Prelude.{ℕ, List, [], ◌∷◌, Result, Ok, Err}
use Rattle.base.specs.Answer.{Answer, accepted, refused}
use Rattle.scope.specs.declared.Refusal.{Refusal}
use Rattle.scope.specs.Refusals.{number}
use Rattle.scope.specs.Distinct.{Counting, is_low, needs_grant, top_of}
use Rattle.distinct.specs.declared.Needs.{Needs}
use Rattle.distinct.specs.declared.UsersCounted.{UsersCounted}

abbrev pub needs_by : Counting → ℕ → List ℕ → List ℕ → List ℕ → Needs
needs_by k mark gu sg lits = record { low = k (is_low gu mark) lits; top = top_of mark lits; grants = k (needs_grant gu sg) lits }

-- the number and the values of the answer
abbrev pub users_counted : Result UsersCounted Refusal → Answer
users_counted (Ok k) = accepted (k.users ∷ k.grants ∷ [])
users_counted (Err r) = refused (number r) []

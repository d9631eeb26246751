-- The answers of Set mode and of Observe: document 01's number and values, and the counts that come back.
use Rattle.std.specs.Prelude.{ℕ, List, [], ◌∷◌, ◌++◌, Option, Some, None, Result, Ok, Err}
use Rattle.base.specs.Answer.{accepted, refused}
use Rattle.scope.specs.declared.Counts.{Counts}
use Rattle.scope.specs.declared.Refusal.{Refusal}
use Rattle.scope.specs.declared.User.{User}
use Rattle.scope.specs.Contract.{Said}
use Rattle.scope.specs.Refusals.{number}
use Rattle.modes.specs.declared.ModeSet.{ModeSet}
use Rattle.modes.specs.declared.Observed.{Observed}

-- the user granted, if one was
abbrev pub granted_user : Option User → List ℕ
granted_user (Some u) = u.0 ∷ []
granted_user None = []

abbrev pub mode_set : Result ModeSet Refusal → Counts → Said
mode_set (Ok x) c = record { answer = accepted (granted_user x.user ++ (x.notes ∷ [])); counts = x.counts }
mode_set (Err r) c = record { answer = refused (number r) []; counts = c }

abbrev pub observed : Result Observed Refusal → Counts → Said
observed (Ok x) c = record { answer = accepted (x.users ∷ x.notes ∷ []); counts = x.counts }
observed (Err r) c = record { answer = refused (number r) []; counts = c }

-- The answers of Map and of New user: document 01's number and values, and the counts that come back.
use Rattle.std.specs.Prelude.{[], ◌∷◌, Result, Ok, Err}
use Rattle.base.specs.Answer.{accepted, refused}
use Rattle.scope.specs.declared.Counts.{Counts}
use Rattle.scope.specs.declared.Refusal.{Refusal}
use Rattle.scope.specs.Contract.{Said}
use Rattle.scope.specs.Refusals.{number}
use Rattle.naming.specs.declared.UserMapped.{UserMapped}
use Rattle.naming.specs.declared.NewUser.{NewUser}

-- The number and the values of Map's answer: the global and the count of notes.
abbrev pub user_mapped : Result UserMapped Refusal → Counts → Said
user_mapped (Ok m) c = record { answer = accepted (m.global.0 ∷ m.notes ∷ []); counts = m.counts }
user_mapped (Err r) c = record { answer = refused (number r) []; counts = c }

-- The number and the values of New user's answer: the user, its global and the count of notes.
abbrev pub new_user_mapped : Result NewUser Refusal → Counts → Said
new_user_mapped (Ok m) c = record { answer = accepted (m.user.0 ∷ m.global.0 ∷ m.notes ∷ []); counts = m.counts }
new_user_mapped (Err r) c = record { answer = refused (number r) []; counts = c }

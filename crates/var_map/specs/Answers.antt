-- The number and the values of each answer, and the counts that come back.
use Rattle.std.specs.Prelude.{ℕ, [], ◌∷◌, Option, Some, None, Result, Ok, Err}
use Rattle.base.specs.Answer.{accepted, refused}
use Rattle.scope.specs.declared.Counts.{Counts}
use Rattle.scope.specs.declared.Global.{Global}
use Rattle.scope.specs.declared.Refusal.{Refusal}
use Rattle.scope.specs.declared.Solver.{Solver}
use Rattle.scope.specs.declared.User.{User}
use Rattle.scope.specs.Contract.{Said}
use Rattle.scope.specs.Refusals.{number}

abbrev pub opened : Result Counts Refusal → Counts → Said
opened (Ok d) c = record { answer = accepted []; counts = d }
opened (Err r) c = record { answer = refused (number r) []; counts = c }

-- an index of a sort or a word, by its number; or nothing
abbrev pub got : {A : Type 0} → (A → ℕ) → Result (Option A) Refusal → Counts → Said
got f (Ok (Some x)) c = record { answer = accepted (f x ∷ []); counts = c }
got f (Ok None) c = record { answer = accepted []; counts = c }
got f (Err r) c = record { answer = refused (number r) []; counts = c }

abbrev pub got_user : Result (Option User) Refusal → Counts → Said
got_user r c = got (λ u. u.0) r c

abbrev pub got_global : Result (Option Global) Refusal → Counts → Said
got_global r c = got (λ g. g.0) r c

abbrev pub got_solver : Result (Option Solver) Refusal → Counts → Said
got_solver r c = got (λ s. s.0) r c

abbrev pub got_word : Result (Option ℕ) Refusal → Counts → Said
got_word r c = got (λ w. w) r c

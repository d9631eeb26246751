-- The answer of Grant: document 01's number and values, and the counts that come back.
use Rattle.std.specs.Prelude.{[], ◌∷◌, Result, Ok, Err}
use Rattle.base.specs.Answer.{accepted, refused}
use Rattle.scope.specs.declared.Counts.{Counts}
use Rattle.scope.specs.declared.Refusal.{Refusal}
use Rattle.scope.specs.Contract.{Said}
use Rattle.scope.specs.Refusals.{number}
use Rattle.granting.specs.declared.Granted.{Granted}

-- The solver index and the count of notes, or the number of the refusal.
abbrev pub granted : Result Granted Refusal → Counts → Said
granted (Ok x) c = record { answer = accepted (x.solver.0 ∷ x.notes ∷ []); counts = x.counts }
granted (Err r) c = record { answer = refused (number r) []; counts = c }

-- The answer of Remove and of Sweep: document 01's number and values, and the counts that come back.
use Rattle.std.specs.Prelude.{[], ◌∷◌, Result, Ok, Err}
use Rattle.base.specs.Answer.{accepted, refused}
use Rattle.scope.specs.declared.Counts.{Counts}
use Rattle.scope.specs.declared.Refusal.{Refusal}
use Rattle.scope.specs.Contract.{Said}
use Rattle.scope.specs.Refusals.{number}
use Rattle.removal.specs.declared.Removed.{Removed}

abbrev pub removed : Result Removed Refusal → Counts → Said
removed (Ok x) c = record { answer = accepted (x.notes ∷ []); counts = x.counts }
removed (Err r) c = record { answer = refused (number r) []; counts = c }

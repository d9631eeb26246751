-- The answer of Pose: document 01's number and values, and the counts that come back.
use Rattle.std.specs.Prelude.{[], ◌∷◌, Result, Ok, Err}
use Rattle.base.specs.Answer.{accepted, refused}
use Rattle.scope.specs.declared.Counts.{Counts}
use Rattle.scope.specs.declared.Refusal.{Refusal}
use Rattle.scope.specs.Contract.{Said}
use Rattle.scope.specs.Refusals.{number}
use Rattle.posing.specs.declared.PosedLits.{PosedLits}

-- How many solver literals, and the count of notes; or the number of the refusal.
abbrev pub posed : Result PosedLits Refusal → Counts → Said
posed (Ok x) c = record { answer = accepted (x.filled ∷ x.notes ∷ []); counts = x.counts }
posed (Err r) c = record { answer = refused (number r) []; counts = c }

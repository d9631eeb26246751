-- The number and the values of the answer of Model; no count changes.
use Rattle.std.specs.Prelude.{[], ◌∷◌, Result, Ok, Err}
use Rattle.base.specs.Answer.{accepted, refused}
use Rattle.scope.specs.Contract.{Said}
use Rattle.scope.specs.Refusals.{number}
use Rattle.scope.specs.declared.Counts.{Counts}
use Rattle.scope.specs.declared.Refusal.{Refusal}
use Rattle.model.specs.declared.Modelled.{Modelled}

abbrev pub modelled : Result Modelled Refusal → Counts → Said
modelled (Ok x) c = record { answer = accepted (x.globals ∷ x.users ∷ []); counts = c }
modelled (Err r) c = record { answer = refused (number r) []; counts = c }

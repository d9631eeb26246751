-- The number and the values of the answer of Simplify; no count changes.
use Rattle.std.specs.Prelude.{[], ◌∷◌, Result, Ok, Err}
use Rattle.base.specs.Choice.{pick}
use Rattle.base.specs.Answer.{accepted, refused}
use Rattle.scope.specs.Contract.{Said}
use Rattle.scope.specs.Simplify.{simplified_number}
use Rattle.scope.specs.declared.Counts.{Counts}
use Rattle.simplify.specs.declared.Reduced.{Reduced}
use Rattle.scope.specs.declared.Refusal.{Refusal}
use Rattle.scope.specs.Refusals.{number}

abbrev pub reduced : Result Reduced Refusal → Counts → Said
reduced (Ok r) c = record { answer = accepted (simplified_number r.what ∷ r.left ∷ pick r.redundant 1 0 ∷ r.bytes ∷ []); counts = c }
reduced (Err r) c = record { answer = refused (number r) []; counts = c }

-- The number and the values of the answers of Rename and Write; no count changes.
use Rattle.std.specs.Prelude.{ℕ, List, [], ◌∷◌, get_or, Result, Ok, Err}
use Rattle.base.specs.Answer.{Answer, accepted, refused}
use Rattle.scope.specs.Contract.{Said}
use Rattle.scope.specs.Steps.{step_words}
use Rattle.scope.specs.declared.Counts.{Counts}
use Rattle.scope.specs.declared.ProofStep.{ProofStep}
use Rattle.scope.specs.declared.Refusal.{Refusal}
use Rattle.scope.specs.Refusals.{number}
use Rattle.steps.specs.declared.rename.Renamed.{Renamed}

abbrev pub renamed : Result Renamed Refusal → Counts → Said
renamed (Ok r) c = record { answer = accepted (r.lits ∷ r.hashes ∷ step_words r.step); counts = c }
renamed (Err r) c = record { answer = refused (number r) []; counts = c }

abbrev pub recorded : Result ℕ Refusal → Counts → Said
recorded (Ok bytes) c = record { answer = accepted (bytes ∷ []); counts = c }
recorded (Err r) c = record { answer = refused (number r) []; counts = c }

-- the answer of `rename_in` as Rename's for a step: no hash is filled
abbrev pub in_full : Result ℕ Refusal → ProofStep → Result Renamed Refusal
in_full (Ok lits) step = Ok (record { lits = lits; hashes = 0; step = step })
in_full (Err r) step = Err r

-- of Rename's answer, the refusal's number, 0 for none, and how many literals were filled
abbrev pub lits_only : Answer → List ℕ
lits_only (accepted vs) = 0 ∷ get_or vs 0 0 ∷ []
lits_only (refused n vs) = n ∷ 0 ∷ []

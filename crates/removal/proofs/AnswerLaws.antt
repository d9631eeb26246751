-- The number and the values tell the answer.
use Rattle.std.specs.Prelude.{Result, Ok, Err}
use mathlib.Core.Path.{◌≡◌, refl, ap}
use mathlib.Core.List.{[], ◌∷◌}
use Rattle.base.specs.Answer.{Answer, accepted, refused}
use Rattle.scope.specs.declared.Counts.{Counts}
use Rattle.scope.specs.declared.Refusal.{Refusal}
use Rattle.scope.specs.declared.Refusal.TheVariants.{Unsound}
use Rattle.scope.proofs.RefusedLaws.{refusal_at, refusal_back}
use Rattle.table.proofs.AnswerLaws.{one_of}
use Rattle.removal.specs.declared.Removed.{Removed}
use Rattle.removal.specs.Answers.{removed}

abbrev removed_from : Answer → Counts → Result Removed Refusal
removed_from (accepted []) d = Err Unsound
removed_from (accepted (n ∷ ns)) d = Ok (record { counts = d; notes = n })
removed_from (refused n vs) d = Err (refusal_at n)

removed_back : (c : Counts) (x : Result Removed Refusal) → removed_from (removed x c).answer (removed x c).counts ≡ x
removed_back c (Ok x) = refl
removed_back c (Err r) = ap Err (refusal_back r)

pub removed_one : (a b : Result Removed Refusal) (c : Counts) → removed a c ≡ removed b c → a ≡ b
removed_one a b c = one_of (λ x. removed x c) (λ s. removed_from s.answer s.counts) (removed_back c) a b

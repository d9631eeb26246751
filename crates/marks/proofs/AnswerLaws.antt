-- The number and the values tell the answer.
use Rattle.std.specs.Prelude.{Result, Ok, Err}
use mathlib.Core.Path.{◌≡◌, refl, ap}
use Rattle.base.specs.Answer.{Answer, accepted, refused}
use Rattle.scope.specs.declared.Counts.{Counts}
use Rattle.scope.specs.declared.Refusal.{Refusal}
use Rattle.scope.proofs.RefusedLaws.{refusal_at, refusal_back}
use Rattle.table.proofs.AnswerLaws.{one_of}
use Rattle.marks.specs.Answers.{changed}

abbrev changed_from : Answer → Result (Unit {0}) Refusal
changed_from (accepted vs) = Ok tt
changed_from (refused n vs) = Err (refusal_at n)

changed_back : (c : Counts) (x : Result (Unit {0}) Refusal) → changed_from (changed x c).answer ≡ x
changed_back c (Ok _) = refl
changed_back c (Err r) = ap Err (refusal_back r)

pub changed_one : (c : Counts) (x y : Result (Unit {0}) Refusal) → changed x c ≡ changed y c → x ≡ y
changed_one c = one_of (λ x. changed x c) (λ s. changed_from s.answer) (changed_back c)

-- The number and the values tell the answer: each reading has a way back.
use Rattle.std.specs.Prelude.{ℕ, Option, Some, None, Result, Ok, Err}
use mathlib.Core.Path.{◌≡◌, refl, ap}
use mathlib.Core.List.{[], ◌∷◌}
use Rattle.base.specs.Answer.{Answer, accepted, refused}
use Rattle.scope.specs.declared.Counts.{Counts}
use Rattle.scope.specs.declared.Global.{Global}
use Rattle.scope.specs.declared.Refusal.{Refusal}
use Rattle.scope.specs.declared.Solver.{Solver}
use Rattle.scope.specs.declared.User.{User}
use Rattle.scope.proofs.RefusedLaws.{refusal_at, refusal_back}
use Rattle.table.proofs.AnswerLaws.{one_of}
use Rattle.var_map.specs.Answers.{opened, got, got_user, got_global, got_solver, got_word}

abbrev opened_from : Answer → Counts → Result Counts Refusal
opened_from (accepted vs) d = Ok d
opened_from (refused n vs) d = Err (refusal_at n)

opened_back : (c : Counts) (x : Result Counts Refusal) → opened_from (opened x c).answer (opened x c).counts ≡ x
opened_back c (Ok d) = refl
opened_back c (Err r) = ap Err (refusal_back r)

pub opened_one : (c : Counts) (x y : Result Counts Refusal) → opened x c ≡ opened y c → x ≡ y
opened_one c = one_of (λ x. opened x c) (λ s. opened_from s.answer s.counts) (opened_back c)

-- by a sort's number f, which g undoes
module _ {A : Type 0} (f : A → ℕ) (g : ℕ → A) (h : (x : A) → g (f x) ≡ x) where
  abbrev got_from : Answer → Result (Option A) Refusal
  got_from (accepted []) = Ok None
  got_from (accepted (v ∷ vs)) = Ok (Some (g v))
  got_from (refused n vs) = Err (refusal_at n)

  got_back : (c : Counts) (x : Result (Option A) Refusal) → got_from (got f x c).answer ≡ x
  got_back c (Ok (Some x)) = ap (λ (y : A). Ok (Some y)) (h x)
  got_back c (Ok None) = refl
  got_back c (Err r) = ap Err (refusal_back r)

  got_one : (c : Counts) (x y : Result (Option A) Refusal) → got f x c ≡ got f y c → x ≡ y
  got_one c = one_of (λ x. got f x c) (λ s. got_from s.answer) (got_back c)

pub user_one : (c : Counts) (x y : Result (Option User) Refusal) → got_user x c ≡ got_user y c → x ≡ y
user_one = got_one _ (λ v. record { 0 = v }) (λ x. refl)

pub global_one : (c : Counts) (x y : Result (Option Global) Refusal) → got_global x c ≡ got_global y c → x ≡ y
global_one = got_one _ (λ v. record { 0 = v }) (λ x. refl)

pub solver_one : (c : Counts) (x y : Result (Option Solver) Refusal) → got_solver x c ≡ got_solver y c → x ≡ y
solver_one = got_one _ (λ v. record { 0 = v }) (λ x. refl)

pub word_one : (c : Counts) (x y : Result (Option ℕ) Refusal) → got_word x c ≡ got_word y c → x ≡ y
word_one = got_one _ (λ v. v) (λ x. refl)

-- The number and the values tell the answer.
use Rattle.std.specs.Prelude.{Option, Some, None, Result, Ok, Err}
use mathlib.Core.Path.{◌≡◌, refl, ap}
use mathlib.Core.List.{[], ◌∷◌}
use Rattle.base.specs.Answer.{Answer, accepted, refused}
use Rattle.scope.specs.declared.Counts.{Counts}
use Rattle.scope.specs.declared.Refusal.{Refusal}
use Rattle.scope.specs.declared.Refusal.TheVariants.{Unsound}
use Rattle.scope.specs.declared.User.{User}
use Rattle.scope.proofs.RefusedLaws.{refusal_at, refusal_back}
use Rattle.table.proofs.AnswerLaws.{one_of}
use Rattle.modes.specs.declared.ModeSet.{ModeSet}
use Rattle.modes.specs.declared.Observed.{Observed}
use Rattle.modes.specs.Answers.{mode_set, observed}

abbrev mode_set_from : Answer → Counts → Result ModeSet Refusal
mode_set_from (accepted []) d = Err Unsound
mode_set_from (accepted (n ∷ [])) d = Ok (record { user = None; counts = d; notes = n })
mode_set_from (accepted (u ∷ n ∷ ns)) d = Ok (record { user = Some (record { 0 = u }); counts = d; notes = n })
mode_set_from (refused n vs) d = Err (refusal_at n)

mode_set_back : (c : Counts) (x : Result ModeSet Refusal) → mode_set_from (mode_set x c).answer (mode_set x c).counts ≡ x
mode_set_back c (Ok x) = go x.user refl
  where
    go : (o : Option User) → x.user ≡ o → mode_set_from (mode_set (Ok x) c).answer (mode_set (Ok x) c).counts ≡ Ok x
    go None e = rw e
    go (Some u) e = rw e
mode_set_back c (Err r) = ap Err (refusal_back r)

pub mode_set_one : (a b : Result ModeSet Refusal) (c : Counts) → mode_set a c ≡ mode_set b c → a ≡ b
mode_set_one a b c = one_of (λ x. mode_set x c) (λ s. mode_set_from s.answer s.counts) (mode_set_back c) a b

abbrev observed_from : Answer → Counts → Result Observed Refusal
observed_from (accepted []) d = Err Unsound
observed_from (accepted (k ∷ [])) d = Err Unsound
observed_from (accepted (k ∷ n ∷ ns)) d = Ok (record { users = k; counts = d; notes = n })
observed_from (refused n vs) d = Err (refusal_at n)

observed_back : (c : Counts) (x : Result Observed Refusal) → observed_from (observed x c).answer (observed x c).counts ≡ x
observed_back c (Ok x) = refl
observed_back c (Err r) = ap Err (refusal_back r)

pub observed_one : (a b : Result Observed Refusal) (c : Counts) → observed a c ≡ observed b c → a ≡ b
observed_one a b c = one_of (λ x. observed x c) (λ s. observed_from s.answer s.counts) (observed_back c) a b

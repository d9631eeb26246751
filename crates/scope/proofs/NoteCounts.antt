-- The count of notes that a call answers is the number of its notes, for every call that makes notes.
use Prim.Native.Nat.{ℕ, zero, suc}
use mathlib.Core.Path.{◌≡◌, refl}
use mathlib.Core.Bool.{Bool}
use mathlib.Core.List.{List, [], ◌∷◌, ◌++◌}
use lib.ListN.{length}
use Rattle.base.specs.Answer.{Answer, accepted, refused}
use Rattle.scope.specs.declared.SamplingMode.{SamplingMode}
use Rattle.scope.specs.Table.{Table}
use Rattle.scope.specs.Outcome.{Result, Outcome, noting, unless}
use Rattle.scope.specs.Map.{map_user, map_refusal, map_of, new_user, new_user_refusal, new_user_of}
use Rattle.scope.specs.Grant.{grant, grant_refusal, grant_of}
use Rattle.scope.specs.Pose.{pose_refusal, pose_of}
use Rattle.scope.specs.Modes.{mode_number, set_mode, set_mode_refusal, set_mode_of, observe_refusal, observe_of}
use Rattle.scope.specs.Remove.{remove, remove_refusal, remove_of, sweep, sweep_refusal, sweep_of}

-- the last of the values answered; 0 where a call is refused
abbrev pub last_value : List ℕ → ℕ
last_value [] = 0
last_value (v ∷ []) = v
last_value (v ∷ w ∷ vs) = last_value (w ∷ vs)

abbrev pub count_of : Answer → ℕ
count_of (accepted vs) = last_value vs
count_of (refused n vs) = 0

-- The count answered is the number of notes.
abbrev pub Counted : Outcome → Type 0
Counted o = count_of o.answer ≡ length o.notes

last_append : (vs : List ℕ) (n : ℕ) → last_value (vs ++ n ∷ []) ≡ n
last_append [] n = refl
last_append (v ∷ []) n = refl
last_append (v ∷ w ∷ vs) n = last_append (w ∷ vs) n

-- of the calls that fill notes only, and of what they share with the others: a refused call makes none
pub noting_counted : {A : Type 0} (values : A → List ℕ) (x : Result A) → Counted (noting values x)
noting_counted values x = last_append (values x.value) (length x.notes)

pub unless_counted : (n : ℕ) (t : Table) (o : Outcome) → Counted o → Counted (unless n t o)
unfolding unless
unless_counted zero t o h = h
unless_counted (suc n) t o h = refl

module _ (t : Table) where
  pub map_counted : (u : ℕ) (sampling : Bool) (room : ℕ) → Counted (map_of t u sampling room)
  unfolding map_of
  map_counted u sampling room = unless_counted (map_refusal t u sampling room) t _ (noting_counted (λ g. g ∷ []) (map_user u t))

  pub new_user_counted : (room : ℕ) → Counted (new_user_of t room)
  unfolding new_user_of
  new_user_counted room = unless_counted (new_user_refusal t room) t _ (noting_counted (λ vs. vs) (new_user t))

  pub grant_counted : (g room : ℕ) → Counted (grant_of t g room)
  unfolding grant_of
  grant_counted g room = unless_counted (grant_refusal t g room) t _ (noting_counted (λ s. s ∷ []) (grant g t))

  pub pose_counted : (lits : List ℕ) (sampling : Bool) (outs room : ℕ) → Counted (pose_of t lits sampling outs room)
  unfolding pose_of
  pose_counted lits sampling outs room = unless_counted (pose_refusal t lits sampling outs room) t _ refl

  pub set_mode_counted : (g : ℕ) (m : SamplingMode) (room : ℕ) → Counted (set_mode_of t g m room)
  unfolding set_mode_of
  set_mode_counted g m room = unless_counted (set_mode_refusal t g m room) t _ (noting_counted (λ us. us) (set_mode g (mode_number m) t))

  pub observe_counted : (outs room : ℕ) → Counted (observe_of t outs room)
  unfolding observe_of
  observe_counted outs room = unless_counted (observe_refusal t outs room) t _ refl

  pub remove_counted : (s room : ℕ) → Counted (remove_of t s room)
  unfolding remove_of
  remove_counted s room = unless_counted (remove_refusal t s room) t _ (noting_counted (λ us. []) (remove s t))

  pub sweep_counted : (room : ℕ) → Counted (sweep_of t room)
  unfolding sweep_of
  sweep_counted room = unless_counted (sweep_refusal t room) t _ (noting_counted (λ us. []) (sweep t))

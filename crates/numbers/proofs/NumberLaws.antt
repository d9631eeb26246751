-- What numbers stand for, and calls with it.
use Rattle.std.specs.Prelude.{Option, Some, None}
use Prim.Native.Nat.{ℕ, ◌<◌}
use mathlib.Core.Path.{◌≡◌, refl, ap}
use native.Mathlib.Omega.{arith}
use borrow.Author.Tests.{ne_eqb}
use Rattle.scope.specs.Steps.{solver_name_word, user_name_word}
use Rattle.scope.proofs.WordLaws.{word_read}
use Rattle.numbers.specs.Numbers.{when_known, of_two, of_three, solver_name_for, user_name_for, step_for}

-- ---- beyond the last there is nothing

pub two_beyond : {A : Type 0} (x y : A) (n : ℕ) → 1 < n → of_two x y n ≡ None
unfolding of_two
two_beyond x y n h = rw (ne_eqb n 0 (λ e. omega arith), ne_eqb n 1 (λ e. omega arith))

pub three_beyond : {A : Type 0} (x y z : A) (n : ℕ) → 2 < n → of_three x y z n ≡ None
unfolding of_three
three_beyond x y z n h = rw (ne_eqb n 0 (λ e. omega arith), ne_eqb n 1 (λ e. omega arith), ne_eqb n 2 (λ e. omega arith))

-- as the last arm of a `match` has it
pub no_step : (k a b : ℕ)
    → ((((((((((((Unit {0} × (k ≡ 0 → ⊥)) × (k ≡ 1 → ⊥)) × (k ≡ 2 → ⊥)) × (k ≡ 3 → ⊥)) × (k ≡ 4 → ⊥)) × (k ≡ 5 → ⊥)) × (k ≡ 6 → ⊥)) × (k ≡ 7 → ⊥))
    × (k ≡ 8 → ⊥)) × (k ≡ 9 → ⊥)) × (k ≡ 10 → ⊥)) × (k ≡ 11 → ⊥)) × (k ≡ 12 → ⊥) → step_for k a b ≡ None
unfolding step_for
no_step k a b h =
    rw (
      ne_eqb k 0 h.0.0.0.0.0.0.0.0.0.0.0.0.1,
      ne_eqb k 1 h.0.0.0.0.0.0.0.0.0.0.0.1,
      ne_eqb k 2 h.0.0.0.0.0.0.0.0.0.0.1,
      ne_eqb k 3 h.0.0.0.0.0.0.0.0.0.1,
      ne_eqb k 4 h.0.0.0.0.0.0.0.0.1,
      ne_eqb k 5 h.0.0.0.0.0.0.0.1,
      ne_eqb k 6 h.0.0.0.0.0.0.1,
      ne_eqb k 7 h.0.0.0.0.0.1,
      ne_eqb k 8 h.0.0.0.0.1,
      ne_eqb k 9 h.0.0.0.1,
      ne_eqb k 10 h.0.0.1,
      ne_eqb k 11 h.0.1,
      ne_eqb k 12 h.1,
    )

-- ---- every word of a name comes back as given

pub solver_name_back : (n : ℕ) → n ≡ solver_name_word (solver_name_for n)
solver_name_back n = word_read solver_name_word _ _ refl (λ i. refl) n _ refl

pub user_name_back : (n : ℕ) → n ≡ user_name_word (user_name_for n)
user_name_back n = word_read user_name_word _ _ refl (λ i. refl) n _ refl

-- ---- calls

pub known_is : {A B : Type 0} {k : Option A} {a : A} (none : B) (f : A → B) → k ≡ Some a → when_known k none f ≡ f a
unfolding when_known
known_is none f e = ap (λ (n : Option _). when_known n none f) e

pub unknown_is : {A B : Type 0} {k : Option A} (none : B) (f : A → B) → k ≡ None → when_known k none f ≡ none
unfolding when_known
unknown_is none f e = ap (λ (n : Option _). when_known n none f) e

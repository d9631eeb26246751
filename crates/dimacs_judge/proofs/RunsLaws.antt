-- The judging at a place of the input, as the loops meet it.
use Prim.Native.Nat.{ℕ, ◌+◌, ◌-◌, ◌≤◌, ◌<◌}
use mathlib.Core.Bool.{Bool, true, false, ◌&&◌}
use mathlib.Core.List.{List}
use mathlib.Core.Path.{◌≡◌, refl, sym, ap, ap₂, ◌∙◌}
use lib.Dec.{eqb}
use lib.ListN.{length, get_or, drop, drop_of_length-le}
use native.Mathlib.Omega.{arith}
use Rattle.drat.proofs.Steps.{next}
use Rattle.dimacs_judge.specs.declared.limit.Limit.{Limit}
use Rattle.dimacs_judge.specs.Local.{may_follow, runs, runs_at}

less : (i j k : ℕ) → j ≡ k + 1 → i + 1 - j ≡ i - k
less i j k e = omega arith

back_one : (i : ℕ) → i + 1 - 1 ≡ i
back_one i = omega arith

module _ (t : Limit) (s : List ℕ) where
  -- one byte more
  runs_next : (i : ℕ) → i < length s → 4 ≤ i
      → runs_at t s i ≡ may_follow t (get_or s (i - 4) 0) (get_or s (i - 3) 0) (get_or s (i - 2) 0) (get_or s (i - 1) 0) (get_or s i 0) && runs_at t s (i + 1)
  unfolding runs
  runs_next i h k =
      ap (runs t (get_or s (i - 4) 0) (get_or s (i - 3) 0) (get_or s (i - 2) 0) (get_or s (i - 1) 0)) (next s i h)
      ∙ ap (λ (u : Bool). may_follow t (get_or s (i - 4) 0) (get_or s (i - 3) 0) (get_or s (i - 2) 0) (get_or s (i - 1) 0) (get_or s i 0) && u) (sym here)
    where
      here : runs_at t s (i + 1) ≡ runs t (get_or s (i - 3) 0) (get_or s (i - 2) 0) (get_or s (i - 1) 0) (get_or s i 0) (drop (i + 1) s)
      here =
          ap₂ (λ (x y : ℕ). runs t (get_or s x 0) (get_or s y 0) (get_or s (i + 1 - 2) 0) (get_or s (i + 1 - 1) 0) (drop (i + 1) s)) (less i 4 3 refl) (less i 3 2 refl)
          ∙ ap₂ (λ (x y : ℕ). runs t (get_or s (i - 3) 0) (get_or s (i - 2) 0) (get_or s x 0) (get_or s y 0) (drop (i + 1) s)) (less i 2 1 refl) (back_one i)

  -- a turn of a loop that has `ok` for the bytes before place i
  pub runs_turn : (j : Bool) (i : ℕ) → i < length s → 4 ≤ i → (ok r : Bool) → ok && runs_at t s i ≡ j
      → r ≡ may_follow t (get_or s (i - 4) 0) (get_or s (i - 3) 0) (get_or s (i - 2) 0) (get_or s (i - 1) 0) (get_or s i 0) → (ok && r) && runs_at t s (i + 1) ≡ j
  runs_turn j i h k ok r e q =
      and_assoc ok r (runs_at t s (i + 1)) ∙ ap (λ (u : Bool). ok && (u && runs_at t s (i + 1))) q ∙ ap (λ (u : Bool). ok && u) (sym (runs_next i h k)) ∙ e
    where
      and_assoc : (x y z : Bool) → (x && y) && z ≡ x && (y && z)
      and_assoc true y z = refl
      and_assoc false y z = refl

  -- past the last byte
  pub runs_out : (j : Bool) (i : ℕ) → length s ≤ i → (ok : Bool) → ok && runs_at t s i ≡ j → ok && eqb (get_or s (i - 1) 0) 10 ≡ j
  unfolding runs
  runs_out j i h ok e =
      ap (λ (u : Bool). ok && u) (sym (ap (runs t (get_or s (i - 4) 0) (get_or s (i - 3) 0) (get_or s (i - 2) 0) (get_or s (i - 1) 0)) (drop_of_length-le s h))) ∙ e

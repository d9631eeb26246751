-- Laws of `least`.
use Prim.Native.Nat.{ℕ, zero, suc, ◌<◌, ◌≤◌}
use mathlib.Core.Path.{◌≡◌, refl, sym, subst}
use mathlib.Core.Bool.{Bool, true, false}
use mathlib.Core.Logic.{⊎_elim}
use native.Mathlib.Nat.{eq-or-lt_of_le, le_of_suc-le-suc, not-suc-le-zero, le_antisymm}
use native.Mathlib.Omega.{arith}
use lib.Dec.{ltb}
use Rattle.base.specs.Choice.{pick}
use Rattle.base.specs.Bounded.{least}
use borrow.Author.Tests.{lt-ltb, le-ltb, ltb-true, ltb-false}

-- what the least one is
pub least_is : (n : ℕ) (p : ℕ → Bool) (i : ℕ) → i ≤ n → ((k : ℕ) → k < i → p k ≡ false) → (i < n → p i ≡ true) → least n p ≡ i
unfolding least
least_is zero p i l before here = omega arith
least_is (suc n) p i l before here =
    ⊎_elim
    (λ (q : i ≡ suc n).
    let e : least n p ≡ n = least_is n p n (omega arith) (λ k h. before k (omega arith)) (λ h. absurd (omega arith)) in
    rw (e, le-ltb n n (omega arith), before n (omega arith)) (omega arith))
    (λ (h : i < suc n).
    ⊎_elim
    (λ (q : i ≡ n).
    let e : least n p ≡ n = least_is n p n (omega arith) (λ k h. before k (omega arith)) (λ h. absurd (omega arith)) in
    let y : p n ≡ true = subst (λ (k : ℕ). p k ≡ true) q (here h) in
    rw (e, le-ltb n n (omega arith), y) (omega arith))
    (λ (m : i < n).
    let e : least n p ≡ i = least_is n p i (omega arith) before (λ h. here (omega arith)) in
    rw (e, lt-ltb i n m) refl)
    (eq-or-lt_of_le (le_of_suc-le-suc h)))
    (eq-or-lt_of_le l)

pub record Least (n : ℕ) (p : ℕ → Bool) (i : ℕ) : Type 0 where
  pub within : i ≤ n
  pub before : (k : ℕ) → k < i → p k ≡ false
  pub here : i < n → p i ≡ true

-- and that it is so
pub least_has : (n : ℕ) (p : ℕ → Bool) → Least n p (least n p)
unfolding least
least_has zero p = record { within = omega arith; before = λ k h. absurd (not-suc-le-zero h); here = λ h. absurd (not-suc-le-zero h) }
least_has (suc n) p = go (least_has n p) (ltb (least n p) n) refl (p n) refl
  where
    go : Least n p (least n p) → (b : Bool) → ltb (least n p) n ≡ b → (d : Bool) → p n ≡ d → Least (suc n) p (pick b (least n p) (pick d n (suc n)))
    go ih true e d q =
        let l = ltb-true (least n p) n e in
        record { within = omega arith; before = ih.before; here = λ h. ih.here l }
    go ih false e true q =
        let l = ltb-false (least n p) n e in
        let z : least n p ≡ n = le_antisymm ih.within l in
        record { within = omega arith; before = λ k h. ih.before k (omega arith); here = λ h. q }
    go ih false e false q =
        let l = ltb-false (least n p) n e in
        record {
          within = omega arith;
          before = λ k h. ⊎_elim
              (λ (x : k ≡ n). subst (λ (m : ℕ). p m ≡ false) (sym x) q)
              (λ (x : k < n). ih.before k (omega arith))
              (eq-or-lt_of_le (le_of_suc-le-suc h));
          here = λ h. absurd (omega arith);
        }

-- a choice that gives what its second case does not, gives it by its first
pub pick_then {ℓ} : {A : Type ℓ} (b : Bool) (x y z : A) → pick b x y ≡ z → (y ≡ z → ⊥) → (b ≡ true) × (x ≡ z)
pick_then true x y z e n = (refl, e)
pick_then false x y z e n = absurd (n e)

-- Laws of `&&` and of `all_below`.
use Prim.Native.Nat.{ℕ, zero, suc, ◌+◌, ◌<◌}
use mathlib.Core.Path.{◌≡◌, refl, sym, subst}
use mathlib.Core.Bool.{Bool, true, false, ◌&&◌, true≢false}
use mathlib.Core.Logic.{⊎_elim}
use native.Mathlib.Nat.{eq-or-lt_of_le, le_of_suc-le-suc, not-suc-le-zero, le-suc, le_trans}
use native.Mathlib.Numerals.{add-one}
use native.Mathlib.Omega.{arith}
use Rattle.base.specs.Bounded.{all_below}

-- ---- a conjunction that is true has both its parts
pub and_left : (a b : Bool) → a && b ≡ true → a ≡ true
and_left true b e = refl
and_left false b e = e

pub and_right : (a b : Bool) → a && b ≡ true → b ≡ true
and_right true b e = e
and_right false b e = absurd (true≢false (sym e))

pub and_both : {a b : Bool} → a ≡ true → b ≡ true → a && b ≡ true
and_both {a} {b} p q = cc_and a b p q
  where
    cc_and : (a b : Bool) → a ≡ true → b ≡ true → a && b ≡ true
    cc_and true b p q = q
    cc_and false b p q = p

pub and_not_left : (a b : Bool) → a ≡ false → a && b ≡ false
and_not_left a b e = rw e

pub and_not_right : (a b : Bool) → b ≡ false → a && b ≡ false
and_not_right true b e = e
and_not_right false b e = refl

pub and_true : (a : Bool) → a && true ≡ a
and_true true = refl
and_true false = refl

-- ---- all_below
pub all_at : (n : ℕ) (p : ℕ → Bool) → all_below n p ≡ true → (i : ℕ) → i < n → p i ≡ true
unfolding all_below
all_at zero p e i l = absurd (not-suc-le-zero l)
all_at (suc n) p e i l =
    ⊎_elim
    (λ (q : i ≡ n). subst (λ (k : ℕ). p k ≡ true) (sym q) (and_right (all_below n p) (p n) e))
    (λ (h : i < n). all_at n p (and_left (all_below n p) (p n) e) i h)
    (eq-or-lt_of_le (le_of_suc-le-suc l))

pub all_none : (p : ℕ → Bool) → all_below 0 p ≡ true
unfolding all_below
all_none p = refl

pub all_more : (n : ℕ) (p : ℕ → Bool) → all_below n p ≡ true → p n ≡ true → all_below (n + 1) p ≡ true
unfolding all_below
all_more n p a h = rw add-one (and_both a h)

pub all_fails : (n : ℕ) (p : ℕ → Bool) (i : ℕ) → i < n → p i ≡ false → all_below n p ≡ false
unfolding all_below
all_fails zero p i l e = absurd (not-suc-le-zero l)
all_fails (suc n) p i l e =
    ⊎_elim
    (λ (q : i ≡ n). and_not_right (all_below n p) (p n) (subst (λ (k : ℕ). p k ≡ false) q e))
    (λ (h : i < n). and_not_left (all_below n p) (p n) (all_fails n p i h e))
    (eq-or-lt_of_le (le_of_suc-le-suc l))

pub all_intro : (n : ℕ) (p : ℕ → Bool) → ((i : ℕ) → i < n → p i ≡ true) → all_below n p ≡ true
unfolding all_below
all_intro zero p h = refl
all_intro (suc n) p h = and_both (all_intro n p (λ i l. h i (le_trans l (le-suc n)))) (h n (omega arith))

-- Two maps of which the second takes back all that the first says are mutually inverse exactly if they hold as many indices: of the indices
-- that the second map holds, those that the first takes back are as many as the first holds, and there are no more.
use Prim.Native.Nat.{ℕ, zero, suc, ◌+◌, ◌-◌, ◌≤◌, ◌<◌}
use mathlib.Core.Path.{◌≡◌, refl, sym, ap, ◌∙◌, subst}
use mathlib.Core.Bool.{Bool, true, false, ◌&&◌, not, true≢false}
use mathlib.Core.Logic.{◌≢◌, ⊎_elim}
use mathlib.Core.List.{List}
use native.Mathlib.Nat.{eq-or-lt_of_le, le_of_suc-le-suc, not-suc-le-zero}
use native.Mathlib.Omega.{arith}
use lib.Dec.{eqb, leb}
use lib.ListN.{length, get_or, get_or-eq_default}
use borrow.Author.Tests.{eq-eqb, ne_eqb, eqb-true}
use Rattle.base.specs.Choice.{pick}
use Rattle.base.specs.Bounded.{count}
use Rattle.base.proofs.BelowLaws.{all_at, all_intro}
use Rattle.base.proofs.MemberLaws.{word_inside}
use Rattle.base.proofs.Truth.{truth, same, split}
use Rattle.base.proofs.CountLaws.{count_same, count_more}
use Rattle.scope.specs.Sound.{backb}
use Rattle.table.specs.Checks.{is_filled}

-- ---- tests of which the first implies the second

same_test : (x y : Bool) → (x ≡ true → y ≡ true) → (y ≡ true → x ≡ true) → x ≡ y
same_test true y f g = sym (f refl)
same_test false true f g = g refl
same_test false false f g = refl

module _ (p q : ℕ → Bool) (sub : (i : ℕ) → p i ≡ true → q i ≡ true) where
  count_below : (n : ℕ) → count n p ≤ count n q
  unfolding count
  count_below zero = omega arith
  count_below (suc n) = go (p n) (q n) (sub n) (count_below n)
    where
      go : (x y : Bool) → (x ≡ true → y ≡ true) → count n p ≤ count n q → pick x (suc (count n p)) (count n p) ≤ pick y (suc (count n q)) (count n q)
      go true true f h = omega arith
      go true false f h = absurd (true≢false (sym (f refl)))
      go false true f h = omega arith
      go false false f h = h

  -- as many pass both: the second implies the first
  count_equal : (n : ℕ) → count n p ≡ count n q → (i : ℕ) → i < n → q i ≡ true → p i ≡ true
  unfolding count
  count_equal zero e i l h = absurd (not-suc-le-zero l)
  count_equal (suc n) e i l h =
      let f = go (p n) refl (q n) refl e (count_below n) in
      ⊎_elim
      (λ (z : i ≡ n). subst (λ (k : ℕ). p k ≡ true) (sym z) (f.1 (subst (λ (k : ℕ). q k ≡ true) z h)))
      (λ (z : i < n). count_equal n f.0 i z h)
      (eq-or-lt_of_le (le_of_suc-le-suc l))
    where
      go : (x : Bool) → p n ≡ x → (y : Bool) → q n ≡ y → pick x (suc (count n p)) (count n p) ≡ pick y (suc (count n q)) (count n q) → count n p ≤ count n q
          → (count n p ≡ count n q) × (q n ≡ true → p n ≡ true)
      go true a true b e k = (omega arith, λ z. a)
      go true a false b e k = absurd (true≢false (sym (sub n a) ∙ b))
      go false a true b e k = absurd (omega arith)
      go false a false b e k = (e, λ z. absurd (true≢false (sym z ∙ b)))

none_pass : (n : ℕ) (p : ℕ → Bool) → ((i : ℕ) → p i ≡ false) → count n p ≡ 0
unfolding count
none_pass zero p h = refl
none_pass (suc n) p h = rw (h n) (none_pass n p h)

-- ---- the indices of b that an index of a below n takes back

abbrev taken : List ℕ → List ℕ → ℕ → ℕ → Bool
taken a b n j = eqb (get_or a (get_or b j 0 - 1) 0) (j + 1) && not (eqb (get_or b j 0) 0) && leb (get_or b j 0) n

-- what the first map says, the second takes back
abbrev pub Back : List ℕ → List ℕ → Type 0
Back a b = (i : ℕ) → get_or a i 0 ≢ 0 → get_or b (get_or a i 0 - 1) 0 ≡ i + 1

pub record TakenBack (a b : List ℕ) (n j : ℕ) : Type 0 where
  pub back : get_or a (get_or b j 0 - 1) 0 ≡ j + 1
  pub some : get_or b j 0 ≢ 0
  pub low : get_or b j 0 ≤ n

taken_of : (a b : List ℕ) (n j : ℕ) → taken a b n j ≡ true → TakenBack a b n j
taken_of a b n j h = let k = simp truth at h in record { back = k.0.0; some = k.0.1; low = k.1 }

taken_to : (a b : List ℕ) (n j : ℕ) → TakenBack a b n j → taken a b n j ≡ true
taken_to a b n j k = simp truth ((k.back, k.some), k.low)

not_true_is : (x : Bool) → (x ≡ true → ⊥) → x ≡ false
not_true_is true h = absurd (h refl)
not_true_is false h = refl

-- one index of a more: another index of b only if a holds that index
taken_fewer : (a b : List ℕ) (n j : ℕ) → get_or a n 0 ≢ j + 1 → taken a b n j ≡ taken a b (suc n) j
taken_fewer a b n j z =
    same_test (taken a b n j) (taken a b (suc n) j)
    (λ h. let k = taken_of a b n j h in taken_to a b (suc n) j (record { back = k.back; some = k.some; low = omega arith }))
    (λ h.
    let k = taken_of a b (suc n) j h in
    let x : get_or b j 0 ≢ suc n = λ e. let q : get_or b j 0 - 1 ≡ n = omega arith in z (sym (ap (λ (i : ℕ). get_or a i 0) q) ∙ k.back) in
    taken_to a b n j (record { back = k.back; some = k.some; low = omega arith }))

module _ (a b : List ℕ) (m : ℕ) (h : Back a b) (low : (i : ℕ) → get_or a i 0 ≤ m) where
  taken_next : (n : ℕ) → get_or a n 0 ≢ 0 → count m (taken a b (suc n)) ≡ suc (count m (taken a b n))
  taken_next n z =
      let j = get_or a n 0 - 1 in
      let l = low n in
      let f : get_or b j 0 ≡ n + 1 = h n z in
      let g : j + 1 ≡ get_or a n 0 = omega arith in
      let q : get_or b j 0 - 1 ≡ n = omega arith in
      count_more m j (taken a b n) (taken a b (suc n)) (omega arith)
      (λ i x. taken_fewer a b n i (λ e. x (omega arith)))
      (not_true_is (taken a b n j) (λ t. let k = (taken_of a b n j t).low in omega arith))
      (taken_to a b (suc n) j (record { back = ap (λ (i : ℕ). get_or a i 0) q ∙ sym g; some = λ e. omega arith; low = omega arith }))

  taken_filled : (n : ℕ) → count m (taken a b n) ≡ count n (is_filled a)
  unfolding count
  taken_filled zero = none_pass m (taken a b 0) (λ j. not_true_is (taken a b 0 j) (λ t. let k = taken_of a b 0 j t in k.some (omega arith)))
  taken_filled (suc n) = ⊎_elim
      (λ (e : get_or a n 0 ≡ 0).
      count_same m (taken a b (suc n)) (taken a b n) (λ j l. sym (taken_fewer a b n j (λ x. omega arith)))
      ∙ taken_filled n ∙ rw e)
      (λ (e : get_or a n 0 ≢ 0).
      taken_next n e ∙ ap suc (taken_filled n) ∙ rw (ne_eqb (get_or a n 0) 0 e))
      (same (get_or a n 0) 0)

-- ---- the two maps

pub back_has : (a b : List ℕ) → backb a b ≡ true → Back a b
unfolding backb
back_has a b e i n = ⊎_elim
    (λ (l : i < length a). let k = simp truth at (all_at (length a) _ e i l) in k n)
    (λ (l : length a ≤ i). absurd (n (get_or-eq_default a 0 l)))
    (split i (length a))

back_is : (a b : List ℕ) → Back a b → backb a b ≡ true
unfolding backb
back_is a b h = all_intro (length a) _ (λ i l. simp truth (h i))

pub back_low : (a b : List ℕ) → Back a b → (i : ℕ) → get_or a i 0 ≤ length b
back_low a b h i = ⊎_elim
    (λ (e : get_or a i 0 ≡ 0). omega arith)
    (λ (e : get_or a i 0 ≢ 0). let k = h i e in let l = word_inside b (get_or a i 0 - 1) (λ z. omega arith) in omega arith)
    (same (get_or a i 0) 0)

pub pair_counts : (a b : List ℕ) → backb a b ≡ true → eqb (count (length a) (is_filled a)) (count (length b) (is_filled b)) ≡ backb b a
pair_counts a b e = same_test (eqb (count (length a) (is_filled a)) (count (length b) (is_filled b))) (backb b a)
    (λ q. back_is b a (λ j n. (over q j n).back))
    (λ q. eq-eqb _ _ (sym (taken_filled a b (length b) h (back_low a b h) (length a)) ∙ count_same (length b) _ _ (λ j l. both q j)))
  where
    h : Back a b
    h = back_has a b e

    over : eqb (count (length a) (is_filled a)) (count (length b) (is_filled b)) ≡ true → (j : ℕ) → get_or b j 0 ≢ 0 → TakenBack a b (length a) j
    over q j n = taken_of a b (length a) j
        (count_equal (taken a b (length a)) (is_filled b) (λ i t. simp truth (taken_of a b (length a) i t).some) (length b)
        (taken_filled a b (length b) h (back_low a b h) (length a) ∙ eqb-true _ _ q) j (word_inside b j n) (simp truth n))

    both : backb b a ≡ true → (j : ℕ) → taken a b (length a) j ≡ is_filled b j
    both q j = same_test (taken a b (length a) j) (is_filled b j)
        (λ t. simp truth (taken_of a b (length a) j t).some)
        (λ t.
        let n = simp truth at t in
        let k = back_has b a q j n in
        let l = word_inside a (get_or b j 0 - 1) (λ z. omega arith) in
        taken_to a b (length a) j (record { back = k; some = n; low = omega arith }))

-- Laws of `count`.
use Prim.Native.Nat.{ℕ, zero, suc, ◌+◌, ◌<◌, ◌≤◌, zero-le}
use mathlib.Core.Path.{◌≡◌, refl}
use mathlib.Core.Bool.{Bool, true, false}
use mathlib.Core.Logic.{⊎_elim}
use native.Mathlib.Nat.{not-suc-le-zero, eq-or-lt_of_le}
use native.Mathlib.Omega.{arith}
use native.Mathlib.Numerals.{add-one}
use Rattle.base.specs.Choice.{pick}
use Rattle.base.specs.Bounded.{count}
use Rattle.base.proofs.Truth.{split, same}

-- where the first m all pass, there are at least m
pub count_least : (n m : ℕ) (p : ℕ → Bool) → m ≤ n → ((i : ℕ) → i < m → p i ≡ true) → m ≤ count n p
unfolding count
count_least zero m p l h = omega arith
count_least (suc n) m p l h = ⊎_elim
    (λ (k : n < m).
    let x = count_least n n p (omega arith) (λ i q. h i (omega arith)) in
    rw (h n k) (omega arith))
    (λ (k : m ≤ n). let x = count_least n m p k h in go x (p n))
    (split n m)
  where
    go : m ≤ count n p → (b : Bool) → m ≤ pick b (suc (count n p)) (count n p)
    go x true = omega arith
    go x false = x

-- tests that agree everywhere count the same
pub count_same : (n : ℕ) (p q : ℕ → Bool) → ((i : ℕ) → i < n → p i ≡ q i) → count n p ≡ count n q
unfolding count
count_same zero p q h = refl
count_same (suc n) p q h =
    let e = count_same n p q (λ i l. h i (omega arith)) in
    rw (h n (omega arith), e)

-- tests that agree but at k, where the second alone passes, count one more
pub count_more : (n k : ℕ) (p q : ℕ → Bool) → k < n → ((i : ℕ) → (i ≡ k → ⊥) → p i ≡ q i) → p k ≡ false → q k ≡ true → count n q ≡ suc (count n p)
unfolding count
count_more zero k p q l h a b = absurd (not-suc-le-zero l)
count_more (suc n) k p q l h a b = ⊎_elim
    (λ (e : n ≡ k).
    let x : count n p ≡ count n q = count_same n p q (λ i m. h i (λ z. omega arith)) in
    let a' : p n ≡ false = rw e a in
    let b' : q n ≡ true = rw e b in
    rw (a', b', x))
    (λ (e : n ≡ k → ⊥).
    let x = count_more n k p q (omega arith) h a b in
    rw (h n e, x) (go (q n)))
    (same n k)
  where
    go : (t : Bool) → pick t (suc (suc (count n p))) (suc (count n p)) ≡ suc (pick t (suc (count n p)) (count n p))
    go true = refl
    go false = refl

pub count_yes : (n : ℕ) (p : ℕ → Bool) → p n ≡ true → count (n + 1) p ≡ count n p + 1
unfolding count
count_yes n p e = rw (add-one, e) (omega arith)

pub count_no : (n : ℕ) (p : ℕ → Bool) → p n ≡ false → count (n + 1) p ≡ count n p
unfolding count
count_no n p e = rw (add-one, e)

pub count_none : (p : ℕ → Bool) → count 0 p ≡ 0
unfolding count
count_none p = refl

pub count_most : (n : ℕ) (p : ℕ → Bool) → count n p ≤ n
unfolding count
count_most zero p = zero-le
count_most (suc n) p = go (count_most n p) (p n)
  where
    go : count n p ≤ n → (b : Bool) → pick b (suc (count n p)) (count n p) ≤ suc n
    go h true = omega arith
    go h false = omega arith

-- a test that never holds
pub count_never : (n : ℕ) (p : ℕ → Bool) → ((i : ℕ) → p i ≡ false) → count n p ≡ 0
unfolding count
count_never zero p h = refl
count_never (suc n) p h = rw (h n) (count_never n p h)

-- one that fails from n up counts the same below any m above it
pub count_past : (p : ℕ → Bool) (n m : ℕ) → n ≤ m → ((v : ℕ) → n ≤ v → p v ≡ false) → count m p ≡ count n p
unfolding count
count_past p n zero l h = let e : n ≡ 0 = omega arith in rw e refl
count_past p n (suc m) l h = ⊎_elim
    (λ (e : n ≡ suc m). rw e refl)
    (λ (k : n < suc m). rw (h m (omega arith)) (count_past p n m (omega arith) h))
    (eq-or-lt_of_le l)

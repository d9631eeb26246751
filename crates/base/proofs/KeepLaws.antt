-- The members that pass a test, for a loop that has passed the first i.
use Rattle.std.specs.Prelude.{cond}
use Rattle.std.specs.List.{filter, count_by}
use Rattle.std.proofs.lemmas.List.Sums.{length-filter}
use Prim.Native.Nat.{ℕ, suc, ◌+◌, ◌≤◌, ◌<◌}
use mathlib.Core.Path.{◌≡◌, refl, sym, ap, ◌∙◌}
use mathlib.Core.Bool.{Bool, true, false, not, ◌||◌}
use mathlib.Core.List.{List, [], ◌∷◌, ◌++◌, map, map-append, append-nil}
use native.Mathlib.Omega.{arith}
use lib.Dec.{ltb, leb-suc-suc}
use lib.ListN.{length, get_or, take, drop, set, length-append, length-map, take-append-drop}
use lib.Seq.{sets, length-sets, take_all}
use borrow.Author.Tests.{lt-ltb}
use Rattle.base.specs.Choice.{pick}
use Rattle.base.specs.Bounded.{any_of, keep_of}
use Rattle.base.proofs.MemberLaws.{keep_append, keep_step, keep_length}
use Rattle.base.proofs.SetsLaws.{store_next}

-- those that pass, and how many, as std has them
kept_is : {A : Type 0} (p : A → Bool) (xs : List A) → filter p xs ≡ keep_of p xs
unfolding keep_of
kept_is p [] = refl
kept_is {A = A} p (x ∷ xs) = go (p x) (kept_is p xs)
  where
    go : (b : Bool) → filter p xs ≡ keep_of p xs → cond b (x ∷ filter p xs) (filter p xs) ≡ pick b (x ∷ keep_of p xs) (keep_of p xs)
    go true e = ap (λ (l : List A). x ∷ l) e
    go false e = e

pub count_is : {A : Type 0} (p : A → Bool) (xs : List A) → count_by p xs ≡ length (keep_of p xs)
count_is p xs = sym (length-filter p xs) ∙ ap length (kept_is p xs)

-- some member passes exactly if fewer do not
pub some_go : (p : ℕ → Bool) (xs : List ℕ) → any_of p xs ≡ ltb (length (keep_of (λ x. not (p x)) xs)) (length xs)
unfolding any_of keep_of
some_go p [] = refl
some_go p (x ∷ xs) = go (p x) (some_go p xs) (keep_length (λ y. not (p y)) xs)
  where
    go : (b : Bool) → any_of p xs ≡ ltb (length (keep_of (λ y. not (p y)) xs)) (length xs) → length (keep_of (λ y. not (p y)) xs) ≤ length xs
        → b || any_of p xs ≡ ltb (length (pick (not b) (x ∷ keep_of (λ y. not (p y)) xs) (keep_of (λ y. not (p y)) xs))) (suc (length xs))
    go true e h = sym (lt-ltb (length (keep_of (λ y. not (p y)) xs)) (suc (length xs)) (omega arith))
    go false e h = e ∙ sym (leb-suc-suc (suc (length (keep_of (λ y. not (p y)) xs))) (length xs))

module _ (q : ℕ → Bool) (xs : List ℕ) where
  -- those kept of the first i
  abbrev pub kept_to : ℕ → List ℕ
  kept_to i = keep_of q (take i xs)

  pub kept_start : kept_to 0 ≡ []
  unfolding keep_of
  kept_start = refl

  kept_some : (i : ℕ) → i < length xs → q (get_or xs i 0) ≡ true → kept_to (i + 1) ≡ kept_to i ++ get_or xs i 0 ∷ []
  kept_some i h e = keep_step q xs i 0 h ∙ rw e

  kept_none : (i : ℕ) → i < length xs → q (get_or xs i 0) ≡ false → kept_to (i + 1) ≡ kept_to i
  kept_none i h e = keep_step q xs i 0 h ∙ rw e (append-nil (kept_to i))

  kept_end : (i : ℕ) → length xs ≤ i → kept_to i ≡ keep_of q xs
  kept_end i h = ap (keep_of q) (take_all i xs h)

  kept_grows : (i : ℕ) → length (kept_to i) ≤ length (keep_of q xs)
  kept_grows i =
      let e = ap (λ (l : List ℕ). length (keep_of q l)) (sym (take-append-drop i xs)) ∙ ap length (keep_append q (take i xs) (drop i xs)) in
      omega (arith, length-append (kept_to i) (keep_of q (drop i xs)))

  -- ---- counted

  pub count_some : (i k : ℕ) → i < length xs → q (get_or xs i 0) ≡ true → k ≡ length (kept_to i) → k + 1 ≡ length (kept_to (i + 1))
  count_some i k h e n = let z = ap length (kept_some i h e) in omega (arith, length-append (kept_to i) (get_or xs i 0 ∷ []))

  pub count_none : (i k : ℕ) → i < length xs → q (get_or xs i 0) ≡ false → k ≡ length (kept_to i) → k ≡ length (kept_to (i + 1))
  count_none i k h e n = n ∙ sym (ap length (kept_none i h e))

  pub count_end : (i k : ℕ) → length xs ≤ i → k ≡ length (kept_to i) → k ≡ length (keep_of q xs)
  count_end i k h n = n ∙ ap length (kept_end i h)

  pub count_most : (i k : ℕ) → k ≡ length (kept_to i) → k ≤ length xs
  count_most i k n = let a = kept_grows i in let b = keep_length q xs in omega arith

  pub count_room : (i k : ℕ) → i < length xs → q (get_or xs i 0) ≡ true → k ≡ length (kept_to i) → k < length (keep_of q xs)
  count_room i k h e n = let z = count_some i k h e n in let a = kept_grows (i + 1) in omega arith

  -- ---- stored, each under f

  module _ (f : ℕ → ℕ) (l : List ℕ) where
    abbrev pub stored : ℕ → List ℕ
    stored i = sets l 0 (map f (kept_to i))

    pub store_start : l ≡ stored 0
    store_start = ap (λ (ys : List ℕ). sets l 0 (map f ys)) (sym kept_start)

    pub store_some : (m : List ℕ) (i k x : ℕ) → i < length xs → q (get_or xs i 0) ≡ true → k ≡ length (kept_to i) → m ≡ stored i → x ≡ f (get_or xs i 0)
        → set m k x ≡ stored (i + 1)
    store_some m i k x h e n w v =
        store_next l m (map f (kept_to i)) 0 k x w (omega (arith, n, length-map (kept_to i) f))
        ∙ ap (λ (ys : List ℕ). sets l 0 ys)
        (ap (λ (y : ℕ). map f (kept_to i) ++ y ∷ []) v
        ∙ sym (map-append f (kept_to i) (get_or xs i 0 ∷ []))
        ∙ ap (map f) (sym (kept_some i h e)))

    pub store_none : (m : List ℕ) (i : ℕ) → i < length xs → q (get_or xs i 0) ≡ false → m ≡ stored i → m ≡ stored (i + 1)
    store_none m i h e w = w ∙ ap (λ (ys : List ℕ). sets l 0 (map f ys)) (sym (kept_none i h e))

    pub store_end : (m : List ℕ) (i : ℕ) → length xs ≤ i → m ≡ stored i → m ≡ sets l 0 (map f (keep_of q xs))
    store_end m i h w = w ∙ ap (λ (ys : List ℕ). sets l 0 (map f ys)) (kept_end i h)

    pub store_kept : (m : List ℕ) (i : ℕ) → m ≡ stored i → length m ≡ length l
    store_kept m i w = ap length w ∙ length-sets l 0 (map f (kept_to i))

    pub store_there : (m : List ℕ) (i k : ℕ) → k < length (keep_of q xs) → length (keep_of q xs) ≤ length l → m ≡ stored i → k < length m
    store_there m i k a b w = let z = store_kept m i w in omega arith

-- Laws of `every_of`, `any_of` and `keep_of`: at an index, and for a loop that has passed the first i members.
use Rattle.std.specs.List.{list_any}
use Prim.Native.Nat.{ℕ, zero, suc, ◌+◌, ◌≤◌, ◌<◌}
use mathlib.Core.Path.{◌≡◌, refl, sym, ap, ◌∙◌}
use mathlib.Core.Bool.{Bool, true, false, ◌&&◌, ◌||◌, true≢false}
use mathlib.Core.List.{List, [], ◌∷◌, ◌++◌}
use mathlib.Core.Logic.{◌≢◌, ⊎_elim}
use native.Mathlib.Nat.{le_of_suc-le-suc, not-suc-le-zero}
use native.Mathlib.Numerals.{add-one}
use native.Mathlib.Omega.{arith}
use lib.ListN.{length, get_or, take, get_or-eq_default}
use lib.Seq.{take-suc, take_all}
use Rattle.base.specs.Choice.{pick}
use Rattle.base.specs.Bounded.{every_of, any_of, keep_of}
use Rattle.base.proofs.BelowLaws.{and_left, and_right, and_both, and_not_left, and_not_right, and_true}
use Rattle.base.proofs.Truth.{split}

-- ---- a disjunction that is false has neither part

pub or_left : (a b : Bool) → a || b ≡ false → a ≡ false
or_left true b e = e
or_left false b e = refl

pub or_right : (a b : Bool) → a || b ≡ false → b ≡ false
or_right true b e = absurd (true≢false e)
or_right false b e = e

pub or_neither : {a b : Bool} → a ≡ false → b ≡ false → a || b ≡ false
or_neither {a} {b} p q = rw p q

pub or_first : (a b : Bool) → a ≡ true → a || b ≡ true
or_first a b e = rw e

pub or_second : (a b : Bool) → b ≡ true → a || b ≡ true
or_second true b e = refl
or_second false b e = e

pub or_none : (a : Bool) → a || false ≡ a
or_none true = refl
or_none false = refl

module _ {A : Type 0} (p : A → Bool) where
  -- ---- at an index

  pub every_at : (xs : List A) (i : ℕ) (d : A) → every_of p xs ≡ true → i < length xs → p (get_or xs i d) ≡ true
  unfolding every_of
  every_at [] i d e l = absurd (not-suc-le-zero l)
  every_at (x ∷ xs) zero d e l = and_left (p x) (every_of p xs) e
  every_at (x ∷ xs) (suc i) d e l = every_at xs i d (and_right (p x) (every_of p xs) e) (le_of_suc-le-suc l)

  pub every_intro : (xs : List A) (d : A) → ((i : ℕ) → i < length xs → p (get_or xs i d) ≡ true) → every_of p xs ≡ true
  unfolding every_of
  every_intro [] d h = refl
  every_intro (x ∷ xs) d h = and_both (h 0 (omega arith)) (every_intro xs d (λ i l. h (suc i) (omega arith)))

  pub any_none : (xs : List A) (i : ℕ) (d : A) → any_of p xs ≡ false → i < length xs → p (get_or xs i d) ≡ false
  unfolding any_of
  any_none [] i d e l = absurd (not-suc-le-zero l)
  any_none (x ∷ xs) zero d e l = or_left (p x) (any_of p xs) e
  any_none (x ∷ xs) (suc i) d e l = any_none xs i d (or_right (p x) (any_of p xs) e) (le_of_suc-le-suc l)

  pub any_some : (xs : List A) (i : ℕ) (d : A) → i < length xs → p (get_or xs i d) ≡ true → any_of p xs ≡ true
  unfolding any_of
  any_some [] i d l e = absurd (not-suc-le-zero l)
  any_some (x ∷ xs) zero d l e = or_first (p x) (any_of p xs) e
  any_some (x ∷ xs) (suc i) d l e = or_second (p x) (any_of p xs) (any_some xs i d (le_of_suc-le-suc l) e)

  pub any_intro : (xs : List A) (d : A) → ((i : ℕ) → i < length xs → p (get_or xs i d) ≡ false) → any_of p xs ≡ false
  unfolding any_of
  any_intro [] d h = refl
  any_intro (x ∷ xs) d h = or_neither (h 0 (omega arith)) (any_intro xs d (λ i l. h (suc i) (omega arith)))

  -- ---- two lists in a row

  pub any_append : (xs ys : List A) → any_of p (xs ++ ys) ≡ any_of p xs || any_of p ys
  unfolding any_of
  any_append [] ys = refl
  any_append (x ∷ xs) ys = ap (λ (b : Bool). p x || b) (any_append xs ys) ∙ assoc (p x)
    where
      assoc : (a : Bool) → a || (any_of p xs || any_of p ys) ≡ (a || any_of p xs) || any_of p ys
      assoc true = refl
      assoc false = refl

  pub every_append : (xs ys : List A) → every_of p (xs ++ ys) ≡ every_of p xs && every_of p ys
  unfolding every_of
  every_append [] ys = refl
  every_append (x ∷ xs) ys = ap (λ (b : Bool). p x && b) (every_append xs ys) ∙ assoc (p x)
    where
      assoc : (a : Bool) → a && (every_of p xs && every_of p ys) ≡ (a && every_of p xs) && every_of p ys
      assoc true = refl
      assoc false = refl

  pub keep_append : (xs ys : List A) → keep_of p (xs ++ ys) ≡ keep_of p xs ++ keep_of p ys
  unfolding keep_of
  keep_append [] ys = refl
  keep_append (x ∷ xs) ys = go (keep_append xs ys) (p x)
    where
      go : keep_of p (xs ++ ys) ≡ keep_of p xs ++ keep_of p ys → (b : Bool)
          → pick b (x ∷ keep_of p (xs ++ ys)) (keep_of p (xs ++ ys)) ≡ pick b (x ∷ keep_of p xs) (keep_of p xs) ++ keep_of p ys
      go e true = ap (λ (l : List A). x ∷ l) e
      go e false = e

  -- ---- a loop over the members: none of the first i passes

  pub any_start : (xs : List A) → any_of p (take 0 xs) ≡ false
  unfolding any_of
  any_start [] = refl
  any_start (x ∷ xs) = refl

  pub any_step : (xs : List A) (i : ℕ) (d : A) → i < length xs → any_of p (take i xs) ≡ false → p (get_or xs i d) ≡ false → any_of p (take (i + 1) xs) ≡ false
  unfolding any_of
  any_step xs i d l e n =
      rw (add-one, take-suc xs i d l, any_append (take i xs) (get_or xs i d ∷ [])) (or_neither e (or_neither n refl))

  pub any_end : (xs : List A) (i : ℕ) → length xs ≤ i → any_of p (take i xs) ≡ false → any_of p xs ≡ false
  any_end xs i l e = ap (any_of p) (sym (take_all i xs l)) ∙ e

  -- ---- a loop that gathers whether some member passes

  pub any_more : (xs : List A) (i : ℕ) (d : A) → i < length xs → any_of p (take (i + 1) xs) ≡ any_of p (take i xs) || p (get_or xs i d)
  unfolding any_of
  any_more xs i d l =
      rw (add-one, take-suc xs i d l, any_append (take i xs) (get_or xs i d ∷ []))
      (ap (λ (b : Bool). any_of p (take i xs) || b) (or_none (p (get_or xs i d))))

  -- ---- the same of whether every member passes

  pub every_start : (xs : List A) → every_of p (take 0 xs) ≡ true
  unfolding every_of
  every_start xs = refl

  pub every_more : (xs : List A) (i : ℕ) (d : A) → i < length xs → every_of p (take (i + 1) xs) ≡ every_of p (take i xs) && p (get_or xs i d)
  unfolding every_of
  every_more xs i d l =
      rw (add-one, take-suc xs i d l, every_append (take i xs) (get_or xs i d ∷ []))
      (ap (λ (b : Bool). every_of p (take i xs) && b) (and_true (p (get_or xs i d))))

  pub every_next : (xs : List A) (i : ℕ) (d : A) (r : Bool) → i < length xs → r ≡ every_of p (take i xs) → r && p (get_or xs i d) ≡ every_of p (take (i + 1) xs)
  every_next xs i d r l e = ap (λ (b : Bool). b && p (get_or xs i d)) e ∙ sym (every_more xs i d l)

  pub every_step : (xs : List A) (i : ℕ) (d : A) → i < length xs → every_of p (take i xs) ≡ true → p (get_or xs i d) ≡ true → every_of p (take (i + 1) xs) ≡ true
  every_step xs i d l e h = every_more xs i d l ∙ and_both e h

  pub every_end : (xs : List A) (i : ℕ) (r : Bool) → length xs ≤ i → r ≡ every_of p (take i xs) → r ≡ every_of p xs
  every_end xs i r l e = e ∙ ap (every_of p) (take_all i xs l)

  pub every_fails : (xs : List A) (i : ℕ) (d : A) → i < length xs → p (get_or xs i d) ≡ false → every_of p xs ≡ false
  unfolding every_of
  every_fails [] i d l e = absurd (not-suc-le-zero l)
  every_fails (x ∷ xs) zero d l e = and_not_left (p x) (every_of p xs) e
  every_fails (x ∷ xs) (suc i) d l e = and_not_right (p x) (every_of p xs) (every_fails xs i d (le_of_suc-le-suc l) e)

  -- ---- a loop that keeps members

  pub keep_step : (xs : List A) (i : ℕ) (d : A) → i < length xs
      → keep_of p (take (i + 1) xs) ≡ keep_of p (take i xs) ++ pick (p (get_or xs i d)) (get_or xs i d ∷ []) []
  unfolding keep_of
  keep_step xs i d l = rw (add-one, take-suc xs i d l) (keep_append (take i xs) (get_or xs i d ∷ []))

  pub keep_length : (xs : List A) → length (keep_of p xs) ≤ length xs
  unfolding keep_of
  keep_length [] = omega arith
  keep_length (x ∷ xs) = go (p x) (keep_length xs)
    where
      go : (b : Bool) → length (keep_of p xs) ≤ length xs → length (pick b (x ∷ keep_of p xs) (keep_of p xs)) ≤ suc (length xs)
      go true h = omega arith
      go false h = omega arith

-- `any_of` as std has it
pub any_is : {A : Type 0} (p : A → Bool) (xs : List A) → list_any p xs ≡ any_of p xs
unfolding any_of
any_is p [] = refl
any_is p (x ∷ xs) = ap (λ (b : Bool). p x || b) (any_is p xs)

-- a word other than the default stands in the list
pub word_inside : (xs : List ℕ) (i : ℕ) → get_or xs i 0 ≢ 0 → i < length xs
word_inside xs i n = ⊎_elim (λ (l : i < length xs). l) (λ (l : length xs ≤ i). absurd (n (get_or-eq_default xs 0 l))) (split i (length xs))

-- a word read with another default
pub get_d_default : (xs : List ℕ) (i d e : ℕ) → i < length xs → get_or xs i d ≡ get_or xs i e
get_d_default [] i d e l = absurd (not-suc-le-zero l)
get_d_default (x ∷ xs) zero d e l = refl
get_d_default (x ∷ xs) (suc i) d e l = get_d_default xs i d e (le_of_suc-le-suc l)

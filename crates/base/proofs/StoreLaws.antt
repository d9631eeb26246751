-- A cleared list, and stores from the start of a slice on, for a loop that has passed the first i members of a list.
use Prim.Native.Nat.{ℕ, zero, suc, ◌+◌, ◌≤◌, ◌<◌}
use mathlib.Core.Path.{◌≡◌, refl, sym, ap, ◌∙◌}
use mathlib.Core.List.{List, [], ◌∷◌, ◌++◌, map, map-append}
use native.Mathlib.Numerals.{add-one}
use native.Mathlib.Omega.{arith}
use lib.ListN.{length, get_or, take, set, replicate, length-take, length-map}
use lib.Seq.{sets, length-sets, sets-eq, take-suc, take_all, take_at}
use Rattle.base.proofs.SetsLaws.{store_next}

-- a cleared list
pub zeros : (n i : ℕ) → ◌≡◌ {A = ℕ} (get_or (replicate n 0) i 0) 0
zeros zero i = refl
zeros (suc n) zero = refl
zeros (suc n) (suc i) = zeros n i

-- a run of stores is read back from the start
pub stored_part : (l m ys : List ℕ) (n : ℕ) → m ≡ sets l 0 ys → n ≡ length ys → n ≤ length l → take n m ≡ ys
stored_part l m ys n e k h =
    ap (take n) (e ∙ sets-eq ys l 0 (omega arith)) ∙ take_at ys _ n (sym k)

length_to : (xs : List ℕ) (i : ℕ) → i ≤ length xs → length (take i xs) ≡ i
length_to xs i h = length-take i xs ∙ omega arith

-- ---- a list copied with a function on its members

module _ (f : ℕ → ℕ) (l xs : List ℕ) where
  -- the slice after the first i
  abbrev pub copied : ℕ → List ℕ
  copied i = sets l 0 (map f (take i xs))

  pub copy_start : l ≡ copied 0
  copy_start = refl

  pub copy_next : (m : List ℕ) (i x : ℕ) → i < length xs → m ≡ copied i → x ≡ f (get_or xs i 0) → set m i x ≡ copied (i + 1)
  copy_next m i x h e q =
      store_next l m (map f (take i xs)) 0 i x e (omega (arith, length-map (take i xs) f ∙ length_to xs i (omega arith)))
      ∙ ap (λ (ys : List ℕ). sets l 0 ys)
      (ap (λ (y : ℕ). map f (take i xs) ++ y ∷ []) q
      ∙ sym (map-append f (take i xs) (get_or xs i 0 ∷ []))
      ∙ ap (map f) (sym (take-suc xs i 0 h) ∙ ap (λ (k : ℕ). take k xs) (sym (add-one i))))

  pub copy_end : (m : List ℕ) (i : ℕ) → length xs ≤ i → m ≡ copied i → m ≡ sets l 0 (map f xs)
  copy_end m i h e = e ∙ ap (λ (ys : List ℕ). sets l 0 (map f ys)) (take_all i xs h)

  pub copy_kept : (m : List ℕ) (i : ℕ) → m ≡ copied i → length m ≡ length l
  copy_kept m i e = ap length e ∙ length-sets l 0 (map f (take i xs))

  pub copy_there : (m : List ℕ) (i : ℕ) → i < length xs → length xs ≤ length l → m ≡ copied i → i < length m
  copy_there m i a b e = let z = copy_kept m i e in omega arith

-- Entries that are codes of sections, and mirrors, counted.
use Prim.Native.Nat.{ℕ, ◌<◌, ◌≤◌}
use mathlib.Core.Path.{◌≡◌, refl, sym, ap, ap₂, ◌∙◌, subst}
use mathlib.Core.Bool.{Bool, true, false, ◌&&◌}
use mathlib.Core.List.{List}
use mathlib.Core.Logic.{⊎_elim}
use native.Mathlib.Omega.{arith}
use lib.Dec.{eqb, ltb}
use lib.ListN.{length, get_or}
use borrow.Author.Tests.{ltb-true, lt-ltb, eq-eqb, eqb-true}
use Rattle.base.specs.Bounded.{all_below, every_of}
use Rattle.base.proofs.Truth.{split}
use Rattle.base.proofs.BelowLaws.{and_left, all_at, all_intro}
use Rattle.base.proofs.MemberLaws.{every_at, every_intro}
use Rattle.scope.specs.Literals.{not_lit}
use Rattle.scope.specs.Binary.{sections_of, section_at, times, has_mirror, mirrored}
use Rattle.sections.specs.Places.{Inside}
use Rattle.sections.proofs.SectionLaws.{section_past}
use Rattle.scope.proofs.BinaryLaws.{sections_length}

-- a loop that has passed every number
pub all_upto : (l n : ℕ) (p : ℕ → Bool) → l ≡ n → all_below l p ≡ true → all_below n p ≡ true
all_upto l n p e h = ap (λ (k : ℕ). all_below k p) (sym e) ∙ h

-- the test of each place, and of each word
pub each_below : (b : ℕ) (xs : List ℕ) → all_below (length xs) (λ i. ltb (get_or xs i 0) b) ≡ every_of (λ m. ltb m b) xs
each_below b xs = go (all_below (length xs) (λ i. ltb (get_or xs i 0) b)) (every_of (λ m. ltb m b) xs) refl refl
  where
    go : (t u : Bool) → all_below (length xs) (λ i. ltb (get_or xs i 0) b) ≡ t → every_of (λ m. ltb m b) xs ≡ u → t ≡ u
    go true u e f = sym (every_intro (λ m. ltb m b) xs 0 (all_at (length xs) (λ i. ltb (get_or xs i 0) b) e)) ∙ f
    go false true e f = sym e ∙ all_intro (length xs) (λ i. ltb (get_or xs i 0) b) (λ i h. every_at (λ m. ltb m b) xs i 0 f h)
    go false false e f = refl

module _ (lists : List ℕ) (n : ℕ) where
  -- every entry of the section of l is below n
  abbrev pub low_at : ℕ → Bool
  low_at l = every_of (λ m. ltb m n) (section_at (sections_of n lists) l)

  -- every entry of the section of l has its mirror
  abbrev pub mirror_at : ℕ → Bool
  mirror_at l = every_of (has_mirror (sections_of n lists) l) (section_at (sections_of n lists) l)

  pub low_inside : ((l : ℕ) → l < n → low_at l ≡ true) → Inside lists n
  low_inside h =
      record {
        entry = λ l i k. ⊎_elim
            (λ (q : l < n). ltb-true _ _ (every_at (λ m. ltb m n) (section_at (sections_of n lists) l) i 0 (h l q) k))
            (λ (q : n ≤ l). absurd (omega (arith, ap length (section_past n l lists q))))
            (split l n);
      }

  pub inside_at : Inside lists n → (l : ℕ) (es : List ℕ) → es ≡ section_at (sections_of n lists) l → (i : ℕ) → i < length es → get_or es i 0 < n
  inside_at h l es e i k =
      subst (λ (xs : List ℕ). get_or xs i 0 < n) (sym e) (h.entry l i (subst (λ (xs : List ℕ). i < length xs) e k))

  pub mirrored_is : mirrored (sections_of n lists) ≡ all_below n mirror_at
  unfolding mirrored
  mirrored_is = ap (λ (k : ℕ). all_below k mirror_at) (sections_length n lists)

  -- where every entry has its mirror, it is below n
  pub mirrored_low : mirrored (sections_of n lists) ≡ true → (l : ℕ) → l < n → low_at l ≡ true
  unfolding has_mirror
  mirrored_low e l h =
      let ss = sections_of n lists in
      let a = all_at n mirror_at (sym mirrored_is ∙ e) l h in
      every_intro (λ m. ltb m n) (section_at ss l) 0 (λ i k.
      subst (λ (q : ℕ). ltb (get_or (section_at ss l) i 0) q ≡ true) (sections_length n lists)
      (and_left _ _ (every_at (has_mirror ss l) (section_at ss l) i 0 a k)))

  module _ (l m a b : ℕ) (h : m < n) (x : a ≡ times m (section_at (sections_of n lists) l))
      (y : b ≡ times (not_lit l) (section_at (sections_of n lists) (not_lit m))) where
    pub mirror_tested : eqb a b ≡ has_mirror (sections_of n lists) l m
    unfolding has_mirror
    mirror_tested =
        let ss = sections_of n lists in
        ap₂ eqb x y ∙ sym (ap (λ (t : Bool). t && eqb (times m (section_at ss l)) (times (not_lit l) (section_at ss (not_lit m))))
        (lt-ltb m (length ss) (omega (arith, sections_length n lists))))

    pub mirror_is : a ≡ b → has_mirror (sections_of n lists) l m ≡ true
    mirror_is e = sym mirror_tested ∙ eq-eqb a b e

    pub mirror_counts : has_mirror (sections_of n lists) l m ≡ true → a ≡ b
    mirror_counts z = eqb-true a b (mirror_tested ∙ z)

  -- the count of the other literal, y, in the section of x, that of m's other literal
  pub count_there : (l m y x k : ℕ) (es : List ℕ) → y ≡ not_lit l → x ≡ not_lit m → k ≡ times y es → es ≡ section_at (sections_of n lists) x
      → k ≡ times (not_lit l) (section_at (sections_of n lists) (not_lit m))
  count_there l m y x k es a b e f = e ∙ ap₂ times a (f ∙ ap (section_at (sections_of n lists)) b)

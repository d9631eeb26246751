-- Sections one at a time, parts of a list, and how often a word stands in a list.
use Prim.Native.Nat.{ℕ, suc, ◌+◌, ◌-◌, ◌<◌, ◌≤◌, ◌%◌}
use mathlib.Core.Path.{◌≡◌, refl, ap, ap₂, ◌∙◌}
use mathlib.Core.Bool.{Bool, true, false, ◌&&◌}
use mathlib.Core.List.{List, [], ◌∷◌, ◌++◌}
use native.Mathlib.Omega.{arith}
use lib.Dec.{leb, eqb}
use lib.ListN.{length, get_or, take, drop, length-append, length-drop, get_or-eq_default}
use lib.Seq.{drop-drop, take-suc, get_or-drop}
use Rattle.base.specs.Bounded.{keep_of}
use Rattle.base.specs.Choice.{pick}
use Rattle.base.proofs.MemberLaws.{keep_append}
use Rattle.drat.specs.Writing.{part}
use Rattle.drat.proofs.Steps.{next}
use Rattle.scope.specs.Literals.{not_lit}
use Rattle.scope.specs.Binary.{cutsb, sections_of, section_at, times}
use Rattle.scope.proofs.BinaryLaws.{sections_length}

-- ---- sections

-- at or above their number there is none
pub section_past : (n l : ℕ) (ws : List ℕ) → n ≤ l → section_at (sections_of n ws) l ≡ []
section_past n l ws h = get_or-eq_default (sections_of n ws) [] (omega (arith, sections_length n ws))

-- no words, no cut
pub cuts_none : (m : ℕ) → cutsb (suc m) [] ≡ false
unfolding cutsb
cuts_none m = refl

pub cuts_end : (ws : List ℕ) → cutsb 0 ws ≡ eqb (length ws) 0
unfolding cutsb
cuts_end ws = refl

-- words whose first count stands at `at`
module _ (ws : List ℕ) (m at : ℕ) (h : at < length ws) where
  pub cuts_next : cutsb (suc m) (drop at ws) ≡ leb (get_or ws at 0) (length ws - (at + 1)) && cutsb m (drop (at + 1 + get_or ws at 0) ws)
  unfolding cutsb
  cuts_next =
      ap (cutsb (suc m)) (next ws at h)
      ∙ ap₂ (λ (x : ℕ) (y : List ℕ). leb (get_or ws at 0) x && cutsb m y) (length-drop (at + 1) ws) (drop-drop (get_or ws at 0) (at + 1) ws)

  pub section_first : section_at (sections_of (suc m) (drop at ws)) 0 ≡ part (at + 1) (at + 1 + get_or ws at 0) ws
  unfolding sections_of
  section_first =
      let e : get_or ws at 0 ≡ at + 1 + get_or ws at 0 - (at + 1) = omega arith in
      ap (λ (xs : List ℕ). section_at (sections_of (suc m) xs) 0) (next ws at h) ∙ ap (λ (k : ℕ). take k (drop (at + 1) ws)) e

  pub section_later : (j : ℕ) → section_at (sections_of (suc m) (drop at ws)) (suc j) ≡ section_at (sections_of m (drop (at + 1 + get_or ws at 0) ws)) j
  unfolding sections_of
  section_later j =
      ap (λ (xs : List ℕ). section_at (sections_of (suc m) xs) (suc j)) (next ws at h)
      ∙ ap (λ (xs : List ℕ). section_at (sections_of m xs) j) (drop-drop (get_or ws at 0) (at + 1) ws)

-- ---- the other literal

pub not_below : (c n : ℕ) → n % 2 ≡ 0 → c < n → not_lit c < n
not_below c n e h = omega arith

-- ---- parts

-- one word more
pub part_more : (a b : ℕ) (ws : List ℕ) → a ≤ b → b < length ws → part a (b + 1) ws ≡ part a b ws ++ get_or ws b 0 ∷ []
part_more a b ws h l =
    let e : b + 1 - a ≡ suc (b - a) = omega arith in
    let i : b - a < length (drop a ws) = omega (arith, length-drop a ws) in
    let j : a + (b - a) ≡ b = omega arith in
    ap (λ (k : ℕ). take k (drop a ws)) e
    ∙ take-suc (drop a ws) (b - a) 0 i
    ∙ ap (λ (w : ℕ). part a b ws ++ w ∷ []) (get_or-drop a ws (b - a) 0 ∙ ap (λ (k : ℕ). get_or ws k 0) j)

pub part_none : (a b : ℕ) (ws : List ℕ) → b ≤ a → part a b ws ≡ []
part_none a b ws h = let e : b - a ≡ 0 = omega arith in ap (λ (k : ℕ). take k (drop a ws)) e

-- ---- how often

pub times_more : (m x : ℕ) (ws : List ℕ) → times m (ws ++ x ∷ []) ≡ times m ws + pick (eqb x m) 1 0
unfolding times keep_of
times_more m x ws =
    ap length (keep_append (λ y. eqb y m) ws (x ∷ []))
    ∙ length-append (keep_of (λ y. eqb y m) ws) (pick (eqb x m) (x ∷ []) [])
    ∙ ap (λ (k : ℕ). length (keep_of (λ y. eqb y m) ws) + k) (go (eqb x m))
  where
    go : (t : Bool) → length (pick t (x ∷ []) []) ≡ pick t 1 0
    go true = refl
    go false = refl

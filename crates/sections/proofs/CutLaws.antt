-- The loop that cuts the words into sections.
use Prim.Native.Nat.{ℕ, suc, ◌+◌, ◌-◌, ◌<◌, ◌≤◌, ◌%◌}
use mathlib.Core.Path.{◌≡◌, sym, ap, ◌∙◌}
use mathlib.Core.Bool.{Bool, true, false, ◌&&◌, true≢false}
use mathlib.Core.List.{List}
use mathlib.Core.Logic.{⊎_elim}
use native.Mathlib.Omega.{arith}
use lib.Dec.{leb, eqb}
use lib.ListN.{length, get_or, drop, set, length-set, length-drop, drop_of_length-le}
use lib.Seq.{get_or-set_same, get_or-set_other}
use borrow.Author.Count.{below_more}
use borrow.Author.Tests.{le-leb, lt-leb, eq-eqb, ne_eqb}
use Rattle.base.proofs.Truth.{split}
use Rattle.base.proofs.BelowLaws.{and_not_left}
use Rattle.drat.specs.Writing.{part}
use Rattle.scope.specs.Binary.{cutsb, sections_of, section_at}
use Rattle.sections.specs.Places.{Placed}
use Rattle.sections.proofs.SectionLaws.{cuts_none, cuts_end, cuts_next, section_first, section_later}

-- the section of j stands with its count at a, its entries up to b
pub record Stands (lists : List ℕ) (n j a b : ℕ) : Type 0 where
  pub rises : a < b
  pub within : b ≤ length lists
  pub is : section_at (sections_of n lists) j ≡ part (a + 1) b lists

-- the first l sections are cut, and the next one is to start at `at`
pub record CutTo (lists : List ℕ) (n : ℕ) (place : List ℕ) (at l : ℕ) : Type 0 where
  pub some : l ≤ n
  pub size : length place ≡ 8193
  pub here : get_or place l 0 ≡ at
  pub inside : at ≤ length lists
  pub cuts : cutsb n lists ≡ cutsb (n - l) (drop at lists)
  pub each : (j : ℕ) → j < l → Stands lists n j (get_or place j 0) (get_or place (j + 1) 0)
  pub rest : (j : ℕ) → section_at (sections_of n lists) (l + j) ≡ section_at (sections_of (n - l) (drop at lists)) j

pub cut_start : (lists : List ℕ) (n : ℕ) (place : List ℕ) → length place ≡ 8193 → CutTo lists n (set place 0 0) 0 0
cut_start lists n place h =
    let z : n - 0 ≡ n = omega arith in
    record {
      some = omega arith;
      size = length-set place 0 0 ∙ h;
      here = get_or-set_same place 0 0 0 (omega arith);
      inside = omega arith;
      cuts = ap (λ (m : ℕ). cutsb m lists) (sym z);
      each = λ j l. absurd (omega arith);
      rest = λ j. let y : 0 + j ≡ j = omega arith in
          ap (section_at (sections_of n lists)) y ∙ ap (λ (m : ℕ). section_at (sections_of m lists) j) (sym z);
    }

module _ (lists : List ℕ) (n : ℕ) (place : List ℕ) (at l : ℕ) (c : CutTo lists n place at l) where
  rest_one : l < n → n - l ≡ suc (n - (l + 1))
  rest_one h = omega arith

  end : n ≤ l → cutsb n lists ≡ eqb (length (drop at lists)) 0
  end h =
      let z : n - l ≡ 0 = omega arith in
      c.cuts ∙ ap (λ (m : ℕ). cutsb m (drop at lists)) z ∙ cuts_end (drop at lists)

  -- no word is left for the next count
  pub cut_missing : l < n → length lists ≤ at → cutsb n lists ≡ false
  cut_missing h k =
      c.cuts
      ∙ ap (λ (m : ℕ). cutsb m (drop at lists)) (rest_one h)
      ∙ ap (cutsb (suc (n - (l + 1)))) (drop_of_length-le lists k)
      ∙ cuts_none (n - (l + 1))

  -- the next count is more than the words left
  pub cut_short : l < n → at < length lists → length lists - at - 1 < get_or lists at 0 → cutsb n lists ≡ false
  cut_short h i k =
      c.cuts
      ∙ ap (λ (m : ℕ). cutsb m (drop at lists)) (rest_one h)
      ∙ cuts_next lists (n - (l + 1)) at i
      ∙ and_not_left (leb (get_or lists at 0) (length lists - (at + 1))) (cutsb (n - (l + 1)) (drop (at + 1 + get_or lists at 0) lists))
      (lt-leb (get_or lists at 0) (length lists - (at + 1)) (omega arith))

  -- the next section
  first : l < n → at < length lists → section_at (sections_of n lists) l ≡ part (at + 1) (at + 1 + get_or lists at 0) lists
  first h i =
      let y : l ≡ l + 0 = omega arith in
      ap (section_at (sections_of n lists)) y
      ∙ c.rest 0
      ∙ ap (λ (q : ℕ). section_at (sections_of q (drop at lists)) 0) (rest_one h)
      ∙ section_first lists (n - (l + 1)) at i

  -- one section more, up to the place `to`
  pub cut_more : (to : ℕ) → n ≤ 8192 → l < n → at < length lists → get_or lists at 0 ≤ length lists - at - 1 → to ≡ at + 1 + get_or lists at 0
      → CutTo lists n (set place (l + 1) to) to (l + 1)
  cut_more to few h i k e =
      let m = n - (l + 1) in
      let one : n - l ≡ suc m = rest_one h in
      let low : (j : ℕ) → j < l + 1 → get_or (set place (l + 1) to) j 0 ≡ get_or place j 0 =
      λ j q. get_or-set_other place (l + 1) j to 0 (λ z. omega arith) in
      let top : get_or (set place (l + 1) to) (l + 1) 0 ≡ to = get_or-set_same place (l + 1) to 0 (omega (arith, c.size)) in
      record {
        some = omega arith;
        size = length-set place (l + 1) to ∙ c.size;
        here = top;
        inside = omega arith;
        cuts = c.cuts
            ∙ ap (λ (q : ℕ). cutsb q (drop at lists)) one
            ∙ cuts_next lists m at i
            ∙ ap (λ (b : Bool). b && cutsb m (drop (at + 1 + get_or lists at 0) lists)) (le-leb (get_or lists at 0) (length lists - (at + 1)) (omega arith))
            ∙ ap (λ (q : ℕ). cutsb m (drop q lists)) (sym e);
        each = below_more (λ j. Stands lists n j (get_or (set place (l + 1) to) j 0) (get_or (set place (l + 1) to) (j + 1) 0)) l
            (λ j q. rw (low j (omega arith), low (j + 1) (omega arith)) (c.each j q))
            (rw (low l (omega arith), top, c.here) (record {
              rises = omega arith;
              within = omega arith;
              is = first h i ∙ ap (λ (q : ℕ). part (at + 1) q lists) (sym e);
            }));
        rest = λ j. let y : l + 1 + j ≡ l + suc j = omega arith in
            ap (section_at (sections_of n lists)) y
            ∙ c.rest (suc j)
            ∙ ap (λ (q : ℕ). section_at (sections_of q (drop at lists)) (suc j)) one
            ∙ section_later lists m at i j
            ∙ ap (λ (q : ℕ). section_at (sections_of m (drop q lists)) j) (sym e);
      }

  -- every section is cut: words are left over, or none
  cut_over : n ≤ l → at < length lists → cutsb n lists ≡ false
  cut_over h k = end h ∙ ne_eqb (length (drop at lists)) 0 (λ z. omega (arith, length-drop at lists))

  cut_whole : n ≤ l → length lists ≤ at → cutsb n lists ≡ true
  cut_whole h k = end h ∙ eq-eqb (length (drop at lists)) 0 (omega (arith, length-drop at lists))

  pub cut_is : n ≤ l → at ≡ length lists → cutsb n lists ≡ true
  cut_is h e = cut_whole h (omega (arith, e))

  pub cut_ends : n ≤ l → cutsb n lists ≡ true → at ≡ length lists
  cut_ends h z = ⊎_elim
      (λ (k : at < length lists). absurd (true≢false (sym z ∙ cut_over h k)))
      (λ (k : length lists ≤ at). omega (arith, c.inside))
      (split at (length lists))

  pub cut_placed : n ≤ 8192 → n % 2 ≡ 0 → n ≤ l → Placed lists n place
  cut_placed few even h =
      record {
        few = few;
        even = even;
        size = c.size;
        rises = λ j q. (c.each j (omega arith)).rises;
        within = λ j q. (c.each j (omega arith)).within;
        section = λ j q. (c.each j (omega arith)).is;
      }

-- One taking keeps what is taken mirrored; when every queue is at its end, every entry has its mirror.
use Prim.Native.Nat.{ℕ, ◌+◌, ◌-◌, ◌<◌, ◌≤◌}
use mathlib.Core.Path.{◌≡◌, refl, sym, ap, ◌∙◌, subst}
use mathlib.Core.Bool.{Bool, true, false, ◌&&◌}
use mathlib.Core.List.{List}
use mathlib.Core.Logic.{⊎_elim}
use native.Mathlib.Omega.{arith}
use lib.Dec.{eqb}
use lib.ListN.{length, get_or, drop, set, length-set, length-take, length-drop}
use lib.Seq.{get_or-set_same, get_or-set_other, get_or-take, get_or-drop}
use borrow.Author.Count.{below_more}
use borrow.Author.Tests.{eqb-true, eq-eqb, ne_eqb}
use Rattle.base.specs.Choice.{pick}
use Rattle.base.proofs.Truth.{same}
use Rattle.base.proofs.BelowLaws.{and_left, and_right, and_both, all_intro}
use Rattle.base.proofs.MemberLaws.{every_intro}
use Rattle.drat.specs.Writing.{part}
use Rattle.scope.specs.Literals.{not_lit}
use Rattle.scope.specs.Binary.{sections_of, section_at, times, has_mirror, mirrored}
use Rattle.sections.specs.Places.{Placed, Inside}
use Rattle.sections.specs.Queues.{taken, Even, Facing}
use Rattle.sections.proofs.SectionLaws.{not_below, part_more, part_none, times_more}
use Rattle.scope.proofs.BinaryLaws.{times_none}
use Rattle.sections.proofs.InsideLaws.{mirror_at, mirrored_is, mirror_is}

-- 1 where a is b and c is d, else 0
unfoldable hit : ℕ → ℕ → ℕ → ℕ → ℕ
hit a b c d = pick (eqb a b && eqb c d) 1 0

hit_same : (a b c d a' b' c' d' : ℕ) → (a ≡ b → c ≡ d → (a' ≡ b') × (c' ≡ d')) → (a' ≡ b' → c' ≡ d' → (a ≡ b) × (c ≡ d)) → hit a b c d ≡ hit a' b' c' d'
unfolding hit
hit_same a b c d a' b' c' d' f g = go (eqb a b && eqb c d) (eqb a' b' && eqb c' d')
    (λ e. let q = f (eqb-true a b (and_left (eqb a b) (eqb c d) e)) (eqb-true c d (and_right (eqb a b) (eqb c d) e)) in
    and_both (eq-eqb a' b' q.0) (eq-eqb c' d' q.1))
    (λ e. let q = g (eqb-true a' b' (and_left (eqb a' b') (eqb c' d') e)) (eqb-true c' d' (and_right (eqb a' b') (eqb c' d') e)) in
    and_both (eq-eqb a b q.0) (eq-eqb c d q.1))
  where
    go : (s t : Bool) → (s ≡ true → t ≡ true) → (t ≡ true → s ≡ true) → ◌≡◌ {A = ℕ} (pick s 1 0) (pick t 1 0)
    go true true p q = refl
    go true false p q = ap (λ (b : Bool). pick b 1 0) (sym (p refl))
    go false true p q = ap (λ (b : Bool). pick b 1 0) (q refl)
    go false false p q = refl

-- the head of x goes past its entry e
module _ (lists place head : List ℕ) (x h e : ℕ) (there : x < length head) (is : get_or head x 0 ≡ h) (begun : get_or place x 0 + 1 ≤ h) (inside : h < length lists)
    (entry : get_or lists h 0 ≡ e) where
  taken_more : (l q : ℕ) → times q (taken lists place (set head x (h + 1)) l) ≡ times q (taken lists place head l) + hit l x e q
  unfolding hit
  taken_more l q = ⊎_elim here other (same l x)
    where
      here : l ≡ x → times q (taken lists place (set head x (h + 1)) l) ≡ times q (taken lists place head l) + pick (eqb l x && eqb e q) 1 0
      here k =
          ap (λ (j : ℕ). times q (taken lists place (set head x (h + 1)) j)) k
          ∙ ap (λ (j : ℕ). times q (part (get_or place x 0 + 1) j lists)) (get_or-set_same head x (h + 1) 0 there)
          ∙ ap (times q) (part_more (get_or place x 0 + 1) h lists begun inside)
          ∙ times_more q (get_or lists h 0) (part (get_or place x 0 + 1) h lists)
          ∙ ap (λ (w : ℕ). times q (part (get_or place x 0 + 1) h lists) + pick (eqb w q) 1 0) entry
          ∙ ap (λ (j : ℕ). times q (part (get_or place x 0 + 1) j lists) + pick (eqb e q) 1 0) (sym is)
          ∙ ap (λ (j : ℕ). times q (taken lists place head j) + pick (eqb e q) 1 0) (sym k)
          ∙ ap (λ (b : Bool). times q (taken lists place head l) + pick (b && eqb e q) 1 0) (sym (eq-eqb l x k))

      other : (l ≡ x → ⊥) → times q (taken lists place (set head x (h + 1)) l) ≡ times q (taken lists place head l) + pick (eqb l x && eqb e q) 1 0
      other k =
          let z : times q (taken lists place head l) ≡ times q (taken lists place head l) + 0 = omega arith in
          ap (λ (j : ℕ). times q (part (get_or place l 0 + 1) j lists)) (get_or-set_other head x l (h + 1) 0 k)
          ∙ z
          ∙ ap (λ (b : Bool). times q (taken lists place head l) + pick (b && eqb e q) 1 0) (sym (ne_eqb l x k))

  begun_more : (n : ℕ) → ((l : ℕ) → l < n → get_or place l 0 + 1 ≤ get_or head l 0) → (l : ℕ) → l < n → get_or place l 0 + 1 ≤ get_or (set head x (h + 1)) l 0
  begun_more n b l q = ⊎_elim
      (λ (k : l ≡ x). rw k (omega (arith, get_or-set_same head x (h + 1) 0 there)))
      (λ (k : l ≡ x → ⊥). omega (arith, get_or-set_other head x l (h + 1) 0 k, b l q))
      (same l x)

-- ---- the loop that sets the heads

pub heads_more : (place head : List ℕ) (n l w : ℕ) → length head ≡ 8192 → n ≤ 8192 → l < n → w ≡ get_or place l 0 + 1
    → ((j : ℕ) → j < l → get_or head j 0 ≡ get_or place j 0 + 1) → (j : ℕ) → j < l + 1 → get_or (set head l w) j 0 ≡ get_or place j 0 + 1
heads_more place head n l w s f h e all =
    below_more (λ j. get_or (set head l w) j 0 ≡ get_or place j 0 + 1) l
    (λ j k. get_or-set_other head l j w 0 (λ z. omega arith) ∙ all j k)
    (get_or-set_same head l w 0 (omega arith) ∙ e)

module _ (lists : List ℕ) (n : ℕ) (place : List ℕ) (p : Placed lists n place) where
  -- nothing is taken
  pub even_start : (head : List ℕ) → ((l : ℕ) → l < n → get_or head l 0 ≡ get_or place l 0 + 1) → Even lists n place head
  even_start head h =
      record {
        begun = λ l k. omega (arith, h l k);
        both = λ l m k j. none l m k ∙ sym (none (not_lit m) (not_lit l) (not_below m n p.even j));
      }
    where
      none : (l m : ℕ) → l < n → times m (taken lists place head l) ≡ 0
      none l m k = ap (times m) (part_none (get_or place l 0 + 1) (get_or head l 0) lists (omega (arith, h l k))) ∙ times_none m

  -- the word at a head is an entry
  pub head_entry : (head : List ℕ) → Even lists n place head → Inside lists n → (x h : ℕ) → x < n → get_or head x 0 ≡ h → h < get_or place (x + 1) 0
      → get_or lists h 0 < n
  head_entry head v o x h low is ahead =
      let a = get_or place x 0 + 1 in
      let b = get_or place (x + 1) 0 in
      let first : a ≤ h = omega (arith, v.begun x low) in
      let w = p.within x low in
      let e = length-take (b - a) (drop a lists) in
      let f = length-drop a lists in
      let i : h - a < length (part a b lists) = omega arith in
      let k : h - a < b - a = omega arith in
      let j : a + (h - a) ≡ h = omega arith in
      let s = p.section x low in
      subst (λ (q : ℕ). q < n)
      (ap (λ (es : List ℕ). get_or es (h - a) 0) s
      ∙ get_or-take (b - a) (drop a lists) (h - a) 0 k
      ∙ get_or-drop a lists (h - a) 0
      ∙ ap (λ (q : ℕ). get_or lists q 0) j)
      (o.entry x (h - a) (subst (λ (es : List ℕ). h - a < length es) (sym s) i))

  module _ (head : List ℕ) (size : length head ≡ 8192) (v : Even lists n place head) where
    -- an entry that is its own mirror is taken
    pub even_one : (x h : ℕ) → x < n → get_or head x 0 ≡ h → h < get_or place (x + 1) 0 → not_lit (get_or lists h 0) ≡ x → Even lists n place (set head x (h + 1))
    even_one x h low is ahead own =
        let m = get_or lists h 0 in
        let there : x < length head = omega (arith, p.few) in
        let first : get_or place x 0 + 1 ≤ h = omega (arith, v.begun x low) in
        let inside : h < length lists = omega (arith, p.within x low) in
        record {
          begun = begun_more lists place head x h m there is first inside refl n v.begun;
          both = λ l q i j.
              let a = taken_more lists place head x h m there is first inside refl l q in
              let b = taken_more lists place head x h m there is first inside refl (not_lit q) (not_lit l) in
              let s = hit_same l x m q (not_lit q) x m (not_lit l) (λ e f. (omega arith, omega arith)) (λ e f. (omega arith, omega arith)) in
              omega (arith, v.both l q i j);
        }

    -- an entry and its mirror are taken
    pub even_two : (x h y k : ℕ) → Facing lists n place head x h y → get_or head y 0 ≡ k → k < get_or place (y + 1) 0 → get_or lists k 0 ≡ not_lit x
        → Even lists n place (set (set head x (h + 1)) y (k + 1))
    even_two x h y k f is' ahead' entry' =
        let m = get_or lists h 0 in
        let is = f.is in
        let there : x < length head = omega (arith, p.few) in
        let first : get_or place x 0 + 1 ≤ h = omega (arith, v.begun x f.low) in
        let inside : h < length lists = omega (arith, p.within x f.low) in
        let head' = set head x (h + 1) in
        let there' : y < length head' = omega (arith, p.few, length-set head x (h + 1)) in
        let same' : get_or head' y 0 ≡ k = get_or-set_other head x y (h + 1) 0 f.apart ∙ is' in
        let first' : get_or place y 0 + 1 ≤ k = omega (arith, v.begun y f.other) in
        let inside' : k < length lists = omega (arith, p.within y f.other) in
        let mirror = f.mirror in
        record {
          begun = begun_more lists place head' y k (not_lit x) there' same' first' inside' entry' n
              (begun_more lists place head x h m there is first inside refl n v.begun);
          both = λ l q i j.
              let a = taken_more lists place head x h m there is first inside refl l q in
              let a' = taken_more lists place head' y k (not_lit x) there' same' first' inside' entry' l q in
              let b = taken_more lists place head x h m there is first inside refl (not_lit q) (not_lit l) in
              let b' = taken_more lists place head' y k (not_lit x) there' same' first' inside' entry' (not_lit q) (not_lit l) in
              let s = hit_same l x m q (not_lit q) y (not_lit x) (not_lit l) (λ e g. (omega arith, omega arith)) (λ e g. (omega arith, omega arith)) in
              let t = hit_same l y (not_lit x) q (not_lit q) x m (not_lit l) (λ e g. (omega arith, omega arith)) (λ e g. (omega arith, omega arith)) in
              omega (arith, v.both l q i j);
        }

  -- every queue is at its end
  pub even_end : (head : List ℕ) → Even lists n place head → Inside lists n → ((l : ℕ) → l < n → get_or head l 0 ≡ get_or place (l + 1) 0)
      → mirrored (sections_of n lists) ≡ true
  even_end head v o h = mirrored_is lists n ∙ all_intro n (mirror_at lists n) each
    where
      whole : (l : ℕ) → l < n → taken lists place head l ≡ section_at (sections_of n lists) l
      whole l k = ap (λ (j : ℕ). part (get_or place l 0 + 1) j lists) (h l k) ∙ sym (p.section l k)

      each : (l : ℕ) → l < n → mirror_at lists n l ≡ true
      each l k = every_intro (has_mirror (sections_of n lists) l) (section_at (sections_of n lists) l) 0 (λ i j.
          let m = get_or (section_at (sections_of n lists) l) i 0 in
          let q = o.entry l i j in
          mirror_is lists n l m _ _ q (ap (times m) (whole l k)) (ap (times (not_lit l)) (whole (not_lit m) (not_below m n p.even q))) (v.both l m k q))

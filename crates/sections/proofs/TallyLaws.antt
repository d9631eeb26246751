-- The loops that tally a section and compare each slot once.
use Prim.Native.Nat.{ℕ, zero, suc, ◌+◌, ◌<◌, ◌≤◌}
use mathlib.Core.Path.{◌≡◌, refl, sym, ap, ◌∙◌, subst}
use mathlib.Core.Bool.{Bool, true, false}
use mathlib.Core.List.{List, [], ◌∷◌}
use mathlib.Core.Logic.{⊎_elim}
use native.Mathlib.Nat.{le_of_suc-le-suc, not-suc-le-zero}
use native.Mathlib.Numerals.{add-one}
use native.Mathlib.Omega.{arith}
use lib.Dec.{eqb}
use lib.ListN.{length, get_or, take, set, replicate, length-set, length-take, length-replicate}
use lib.Seq.{take-suc, take_all, get_or-set_same, get_or-set_other}
use borrow.Author.Tests.{eqb-true, eq-eqb, ne_eqb}
use Rattle.base.proofs.StoreLaws.{zeros}
use Rattle.base.specs.Bounded.{every_of, keep_of}
use Rattle.base.specs.Choice.{pick}
use Rattle.base.proofs.Truth.{same}
use Rattle.base.proofs.BelowLaws.{and_left, and_right}
use Rattle.base.proofs.MemberLaws.{keep_length}
use Rattle.scope.specs.Binary.{times, section_at, has_mirror}
use Rattle.sections.specs.Tally.{Tallied, Slot, Cleared}
use Rattle.sections.proofs.SectionLaws.{times_more}
use Rattle.scope.proofs.BinaryLaws.{times_none}

-- ---- how often, for a loop

pub times_most : (m : ℕ) (es : List ℕ) → times m es ≤ length es
unfolding times
times_most m es = keep_length (λ x. eqb x m) es

times_next : (m : ℕ) (es : List ℕ) (i : ℕ) → i < length es → times m (take (i + 1) es) ≡ times m (take i es) + pick (eqb (get_or es i 0) m) 1 0
times_next m es i h = ap (times m) (rw add-one (take-suc es i 0 h)) ∙ times_more m (get_or es i 0) (take i es)

times_here : (es : List ℕ) (i : ℕ) → i < length es → times (get_or es i 0) (take (i + 1) es) ≡ times (get_or es i 0) (take i es) + 1
times_here es i h =
    let x = get_or es i 0 in
    times_next x es i h ∙ ap (λ (b : Bool). times x (take i es) + pick b 1 0) (eq-eqb x x refl)

times_else : (m : ℕ) (es : List ℕ) (i : ℕ) → i < length es → (m ≡ get_or es i 0 → ⊥) → times m (take (i + 1) es) ≡ times m (take i es)
times_else m es i h n =
    let z : times m (take i es) + 0 ≡ times m (take i es) = omega arith in
    times_next m es i h ∙ ap (λ (b : Bool). times m (take i es) + pick b 1 0) (ne_eqb (get_or es i 0) m (λ e. n (sym e))) ∙ z

-- an entry stands among the entries
times_member : (es : List ℕ) (i : ℕ) → i < length es → 1 ≤ times (get_or es i 0) es
unfolding times keep_of
times_member [] i h = absurd (not-suc-le-zero h)
times_member (x ∷ es) zero h = rw (eq-eqb x x refl) (omega arith)
times_member (x ∷ es) (suc i) h = go (eqb x (get_or es i 0)) (times_member es i (le_of_suc-le-suc h))
  where
    go : (b : Bool) → 1 ≤ times (get_or es i 0) es → 1 ≤ length (pick b (x ∷ keep_of (λ y. eqb y (get_or es i 0)) es) (keep_of (λ y. eqb y (get_or es i 0)) es))
    go true k = omega arith
    go false k = k

-- what holds of every entry holds of one that stands among them
pub every_seen : (p : ℕ → Bool) (es : List ℕ) (m : ℕ) → every_of p es ≡ true → 1 ≤ times m es → p m ≡ true
unfolding every_of times keep_of
every_seen p [] m e h = absurd (omega arith)
every_seen p (x ∷ es) m e h = go (every_seen p es m (and_right (p x) (every_of p es) e)) (eqb x m) refl h
  where
    go : (1 ≤ times m es → p m ≡ true) → (b : Bool) → eqb x m ≡ b
        → 1 ≤ length (pick b (x ∷ keep_of (λ y. eqb y m) es) (keep_of (λ y. eqb y m) es)) → p m ≡ true
    go r true q k = subst (λ (y : ℕ). p y ≡ true) (eqb-true x m q) (and_left (p x) (every_of p es) e)
    go r false q k = r k

-- ---- no entries

pub tally_none : Tallied [] (replicate 8192 0)
tally_none = record { size = length-replicate {A = ℕ} 8192 0; slot = λ m. zeros 8192 m ∙ sym (times_none m) }

-- ---- one entry more

module _ (es tally : List ℕ) (i : ℕ) (h : i < length es) (low : get_or es i 0 < 8192) where
  pub tally_more : (k : ℕ) → k ≡ get_or tally (get_or es i 0) 0 + 1 → Tallied (take i es) tally → Tallied (take (i + 1) es) (set tally (get_or es i 0) k)
  tally_more k e t =
      let x = get_or es i 0 in
      record {
        size = length-set tally x k ∙ t.size;
        slot = λ m. ⊎_elim
            (λ (q : m ≡ x).
            ap (λ (j : ℕ). get_or (set tally x k) j 0) q
            ∙ get_or-set_same tally x k 0 (omega (arith, t.size))
            ∙ e
            ∙ ap (λ (j : ℕ). j + 1) (t.slot x)
            ∙ sym (times_here es i h)
            ∙ ap (λ (j : ℕ). times j (take (i + 1) es)) (sym q))
            (λ (q : m ≡ x → ⊥). get_or-set_other tally x m k 0 q ∙ t.slot m ∙ sym (times_else m es i h q))
            (same m x);
      }

  -- a slot has at most the number of entries
  pub tally_fits : Tallied (take i es) tally → get_or tally (get_or es i 0) 0 ≤ length es
  tally_fits t =
      let a = t.slot (get_or es i 0) in
      let b = times_most (get_or es i 0) (take i es) in
      let c = length-take i es in
      omega arith

pub tally_end : (es tally : List ℕ) (i : ℕ) → length es ≤ i → Tallied (take i es) tally → Tallied es tally
tally_end es tally i h t = subst (λ (xs : List ℕ). Tallied xs tally) (take_all i es h) t

-- ---- one slot cleared

-- nothing is cleared yet
pub clear_start : (es tally : List ℕ) → Tallied es tally → Cleared es 0 tally
clear_start es tally t =
    record {
      size = t.size;
      slot = λ m. t.slot m ∙ ap (λ (k : ℕ). pick (eqb k 0) (times m es) 0) (sym (times_none m));
    }

module _ (es tally : List ℕ) (i : ℕ) (h : i < length es) (c : Cleared es i tally) where
  -- what the slot of the next entry has
  pub clear_slot : (ss : List (List ℕ)) (l : ℕ) → es ≡ section_at ss l → every_of (has_mirror ss l) (take i es) ≡ true
      → Slot ss l (get_or es i 0) (get_or tally (get_or es i 0) 0)
  clear_slot ss l e a = ⊎_elim new seen (same (times x (take i es)) 0)
    where
      x : ℕ
      x = get_or es i 0

      new : times x (take i es) ≡ 0 → Slot ss l x (get_or tally x 0)
      new q =
          let f : get_or tally x 0 ≡ times x es = c.slot x ∙ ap (λ (b : Bool). pick b (times x es) 0) (eq-eqb (times x (take i es)) 0 q) in
          record {
            full = λ n. f ∙ ap (times x) e;
            empty = λ z. absurd (omega (arith, times_member es i h));
          }

      seen : (times x (take i es) ≡ 0 → ⊥) → Slot ss l x (get_or tally x 0)
      seen q =
          let f : get_or tally x 0 ≡ 0 = c.slot x ∙ ap (λ (b : Bool). pick b (times x es) 0) (ne_eqb (times x (take i es)) 0 q) in
          record {
            full = λ n. absurd (n f);
            empty = λ z. every_seen (has_mirror ss l) (take i es) x a (omega arith);
          }

  pub clear_more : get_or es i 0 < 8192 → Cleared es (i + 1) (set tally (get_or es i 0) 0)
  clear_more low =
      let x = get_or es i 0 in
      record {
        size = length-set tally x 0 ∙ c.size;
        slot = λ m. ⊎_elim
            (λ (q : m ≡ x).
            let z : times x (take (i + 1) es) ≡ 0 → ⊥ = λ w. omega (arith, times_here es i h) in
            ap (λ (j : ℕ). get_or (set tally x 0) j 0) q
            ∙ get_or-set_same tally x 0 0 (omega (arith, c.size))
            ∙ ap (λ (b : Bool). pick b (times x es) 0) (sym (ne_eqb (times x (take (i + 1) es)) 0 z))
            ∙ ap (λ (j : ℕ). pick (eqb (times j (take (i + 1) es)) 0) (times j es) 0) (sym q))
            (λ (q : m ≡ x → ⊥).
            get_or-set_other tally x m 0 0 q
            ∙ c.slot m
            ∙ ap (λ (k : ℕ). pick (eqb k 0) (times m es) 0) (sym (times_else m es i h q)))
            (same m x);
      }

-- every slot is cleared
pub clear_end : (es tally : List ℕ) (i : ℕ) → length es ≤ i → Cleared es i tally → Tallied [] tally
clear_end es tally i h c =
    record {
      size = c.size;
      slot = λ m. c.slot m ∙ ap (λ (xs : List ℕ). pick (eqb (times m xs) 0) (times m es) 0) (take_all i es h) ∙ go (times m es) ∙ sym (times_none m);
    }
  where
    go : (k : ℕ) → pick (eqb k 0) k 0 ≡ 0
    go k = ⊎_elim
        (λ (q : k ≡ 0). ap (λ (j : ℕ). pick (eqb j 0) j 0) q)
        (λ (q : k ≡ 0 → ⊥). ap (λ (b : Bool). pick b k 0) (ne_eqb k 0 q))
        (same k 0)

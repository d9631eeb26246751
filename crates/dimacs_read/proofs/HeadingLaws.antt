-- The header, byte by byte.
use Prim.Native.Nat.{ℕ, ◌+◌, ◌-◌, ◌*◌, ◌≤◌, ◌<◌}
use mathlib.Core.Path.{◌≡◌, refl, sym, ap, ap₂, ◌∙◌, subst}
use mathlib.Core.List.{List, [], ◌∷◌, ◌++◌, append_assoc, append-nil}
use mathlib.Core.Bool.{Bool, true, false, ◌&&◌, ◌||◌, not, true≢false}
use native.Mathlib.Omega.{arith}
use lib.Dec.{eqb, leb}
use lib.ListN.{length, get_or, drop, length-append, drop_of_length-le}
use lib.Pointwise.{pointwise}
use lib.ListN.{take}
use lib.Seq.{drop-drop, get_or-drop}
use borrow.Author.Tests.{eqb-true, eqb-false, eq-eqb, ne_eqb, lt-leb, le-leb}
use lib.ListN.{get_or-eq_default}
use Rattle.base.specs.Choice.{pick}
use Rattle.drat.specs.Numeral.{digit}
use Rattle.drat.proofs.Numerals.{is_in_range, below_range, above_range}
use Rattle.drat.proofs.Steps.{next}
use Rattle.dimacs.specs.Cnf.{header_start}
use Rattle.dimacs.specs.Reading.{header_place, digits_of, value_from, proper, starts_with, head, no_head, head_by, head_from}
use Rattle.dimacs.proofs.Digits.{value_append, digits_split}
use Rattle.dimacs_read.specs.Heading.{Capped, same, past, heading, Headed, found, absent, digits_at}
use Rattle.std.specs.Prelude.{Some, None}

-- ---- its place

module _ (s : List ℕ) (i : ℕ) (h : i < length s) where
  pub place_here : (inside : Bool) → inside || eqb (get_or s i 0) 99 ≡ false → header_place inside i (drop i s) ≡ i
  unfolding header_place
  place_here true e = absurd (true≢false e)
  place_here false e = ap (header_place false i) (next s i h) ∙ rw e

  pub place_next : (inside : Bool) → inside || eqb (get_or s i 0) 99 ≡ true
      → header_place inside i (drop i s) ≡ header_place (not (eqb (get_or s i 0) 10)) (i + 1) (drop (i + 1) s)
  unfolding header_place
  place_next true e = ap (header_place true i) (next s i h)
  place_next false e = ap (header_place false i) (next s i h) ∙ go (eqb (get_or s i 0) 99) refl e
    where
      go : (t : Bool) → eqb (get_or s i 0) 99 ≡ t → t ≡ true
          → pick t (header_place true (i + 1) (drop (i + 1) s)) i ≡ header_place (not (eqb (get_or s i 0) 10)) (i + 1) (drop (i + 1) s)
      go true t e =
          let z = eqb-true (get_or s i 0) 99 t in
          ap (λ (b : Bool). header_place (not b) (i + 1) (drop (i + 1) s)) (sym (ne_eqb (get_or s i 0) 10 (λ q. omega arith)))
      go false t e = absurd (true≢false (sym e))

pub place_past : (s : List ℕ) (i : ℕ) → length s ≤ i → (inside : Bool) → header_place inside i (drop i s) ≡ i
unfolding header_place
place_past s i h inside = ap (header_place inside i) (drop_of_length-le s h)

-- ---- a run of digits

pub capped_more : (v d : ℕ) → d ≤ 9 → v < 922337203685477580 → (n : ℕ) → Capped v n → Capped (10 * v + d) (10 * n + d)
capped_more v d h l n (same e) = same (omega arith)
capped_more v d h l n (past a b) = absurd (omega arith)

pub capped_past : (v d : ℕ) → 922337203685477580 ≤ v → (n : ℕ) → Capped v n → Capped 9223372036854775800 (10 * n + d)
capped_past v d l n (same e) = past (omega arith) (omega arith)
capped_past v d l n (past a b) = past (omega arith) (omega arith)

pub capped_above : (k n : ℕ) → Capped k n → 4096 < k → leb n 4096 ≡ false
capped_above k n (same e) h = lt-leb n 4096 (omega arith)
capped_above k n (past a b) h = lt-leb n 4096 (omega arith)

pub capped_small : (k n : ℕ) → Capped k n → k ≤ 4096 → (leb n 4096 ≡ true) × (n ≡ k)
capped_small k n (same e) h = (le-leb n 4096 (omega arith), sym e)
capped_small k n (past a b) h = absurd (omega arith)

-- the count is m: no file has as many clauses as the cap
pub capped_is : (k n m : ℕ) → m < 9223372036854775800 → Capped k n → k ≡ m → n ≡ m
capped_is k n m h (same e) q = omega arith
capped_is k n m h (past a b) q = absurd (omega arith)

pub capped_not : (k n m : ℕ) → m < 9223372036854775800 → Capped k n → (k ≡ m → ⊥) → n ≡ m → ⊥
capped_not k n m h (same e) q z = q (omega arith)
capped_not k n m h (past a b) q z = omega arith

-- the digits ds were read up to place i
pub record Running (s : List ℕ) (from i value : ℕ) : Type 0 where
  pub ds : List ℕ
  pub within : i ≤ length s
  pub split : digits_at s from ≡ ds ++ digits_of (drop i s)
  pub place : i ≡ from + length ds
  pub capped : Capped value (value_from 0 ds)

pub run_start : (s : List ℕ) (from : ℕ) → from ≤ length s → Running s from from 0
unfolding value_from
run_start s from h = record { ds = []; within = h; split = refl; place = omega arith; capped = same refl }

module _ (s : List ℕ) (from i value : ℕ) (r : Running s from i value) where
  pub run_more : i < length s → 48 ≤ get_or s i 0 → get_or s i 0 ≤ 57 → (value' : ℕ) → ((n : ℕ) → Capped value n → Capped value' (10 * n + (get_or s i 0 - 48)))
      → Running s from (i + 1) value'
  unfolding digits_of value_from
  run_more h low high value' c =
      let b = get_or s i 0 in
      let d : digits_of (drop i s) ≡ b ∷ digits_of (drop (i + 1) s) = ap digits_of (next s i h) ∙ rw (is_in_range 48 57 b low high) in
      record {
        ds = r.ds ++ b ∷ [];
        within = omega arith;
        split = r.split ∙ ap (λ (l : List ℕ). r.ds ++ l) d ∙ sym (append_assoc r.ds (b ∷ []) (digits_of (drop (i + 1) s)));
        place = omega (arith, r.place, length-append r.ds (b ∷ []));
        capped = subst (Capped value') (sym (value_append 0 r.ds (b ∷ []))) (c (value_from 0 r.ds) r.capped);
      }

  -- the run ends
  ended : digits_of (drop i s) ≡ [] → (i ≡ from + length (digits_at s from)) × (i ≤ length s) × Capped value (value_from 0 (digits_at s from))
  ended e =
      let q : digits_at s from ≡ r.ds = r.split ∙ ap (λ (l : List ℕ). r.ds ++ l) e ∙ append-nil r.ds in
      (omega (arith, r.place, ap length q), r.within, subst (λ (l : List ℕ). Capped value (value_from 0 l)) (sym q) r.capped)

  pub run_over : i < length s → digit (get_or s i 0) ≡ false
      → (i ≡ from + length (digits_at s from)) × (i ≤ length s) × Capped value (value_from 0 (digits_at s from))
  unfolding digits_of
  run_over h e = ended (ap digits_of (next s i h) ∙ rw e)

  pub run_end : length s ≤ i → (i ≡ from + length (digits_at s from)) × (i ≤ length s) × Capped value (value_from 0 (digits_at s from))
  unfolding digits_of
  run_end h = ended (ap digits_of (drop_of_length-le s h))

pub no_digit_below : (b : ℕ) → b < 48 → digit b ≡ false
no_digit_below b h = below_range 48 57 b h

pub no_digit_above : (b : ℕ) → 57 < b → digit b ≡ false
no_digit_above b h = above_range 48 57 b h

-- ---- digits that are a number

pub proper_none : (ds : List ℕ) → length ds ≡ 0 → proper ds ≡ false
proper_none [] e = refl
proper_none (b ∷ ds) e = absurd (omega arith)

pub proper_one : (ds : List ℕ) → length ds ≡ 1 → proper ds ≡ true
proper_one [] e = absurd (omega arith)
proper_one (b ∷ []) e = refl
proper_one (b ∷ d ∷ ds) e = absurd (omega arith)

proper_many : (ds : List ℕ) → 1 < length ds → proper ds ≡ not (eqb (get_or ds 0 0) 48)
proper_many [] e = absurd (omega arith)
proper_many (b ∷ []) e = absurd (omega arith)
proper_many (b ∷ d ∷ ds) e = refl

front : (xs ys : List ℕ) → 0 < length xs → get_or (xs ++ ys) 0 0 ≡ get_or xs 0 0
front [] ys h = absurd (omega arith)
front (x ∷ xs) ys h = refl

proper_more : (s : List ℕ) (from : ℕ) → 1 < length (digits_at s from) → proper (digits_at s from) ≡ not (eqb (get_or s from 0) 48)
proper_more s from h =
    let r = digits_split (drop from s) in
    let e : get_or s from 0 ≡ get_or (digits_at s from) 0 0 =
    ap (λ (k : ℕ). get_or s k 0) (omega arith) ∙ sym (get_or-drop from s 0 0) ∙ ap (λ (l : List ℕ). get_or l 0 0) r.1 ∙ front (digits_at s from) r.0 (omega
    arith) in
    proper_many (digits_at s from) h ∙ ap (λ (b : ℕ). not (eqb b 48)) (sym e)

pub proper_nought : (s : List ℕ) (from : ℕ) → 1 < length (digits_at s from) → get_or s from 0 ≡ 48 → proper (digits_at s from) ≡ false
proper_nought s from h e = proper_more s from h ∙ ap not (eq-eqb (get_or s from 0) 48 e)

pub proper_other : (s : List ℕ) (from : ℕ) → 1 < length (digits_at s from) → (get_or s from 0 ≡ 48 → ⊥) → proper (digits_at s from) ≡ true
proper_other s from h n = proper_more s from h ∙ ap not (ne_eqb (get_or s from 0) 48 n)

-- ---- bytes that must stand somewhere

pub stands_past : (s : List ℕ) (i b : ℕ) → 0 < b → length s ≤ i → false ≡ eqb (get_or s i 0) b
stands_past s i b h l = sym (ne_eqb (get_or s i 0) b (λ e. omega (arith, get_or-eq_default s 0 l)))

eqb_turned : (b x : ℕ) → eqb b x ≡ eqb x b
eqb_turned b x = go (eqb b x) refl
  where
    go : (t : Bool) → eqb b x ≡ t → t ≡ eqb x b
    go true e = sym (eq-eqb x b (sym (eqb-true b x e)))
    go false e = sym (ne_eqb x b (λ q. omega (arith, q, eqb-false b x e)))

-- what the library's test says
pub starts_same : (bs l : List ℕ) → pointwise eqb bs (take (length bs) l) ≡ starts_with bs l
unfolding starts_with
starts_same [] l = refl
starts_same (b ∷ bs) [] = refl
starts_same (b ∷ bs) (x ∷ l) = ap₂ (λ (t u : Bool). t && u) (eqb_turned b x) (starts_same bs l)

-- ---- the header at a place: its six tests, the places p and q after the two runs given

module _ (s : List ℕ) (at p q : ℕ) (ep : p ≡ at + 6 + length (digits_at s (at + 6))) (eq : q ≡ p + 1 + length (digits_at s (p + 1))) where
  -- the digits of the two numbers, at their places of the whole input
  first_run : digits_of (drop 6 (drop at s)) ≡ digits_at s (at + 6)
  first_run = ap digits_of (drop-drop 6 at s)

  second_run : digits_of (drop (7 + length (digits_at s (at + 6))) (drop at s)) ≡ digits_at s (p + 1)
  second_run =
      let e : at + (7 + length (digits_at s (at + 6))) ≡ p + 1 = omega arith in
      ap digits_of (drop-drop (7 + length (digits_at s (at + 6))) at s ∙ ap (λ (k : ℕ). drop k s) e)

  byte_at : (k j : ℕ) → at + k ≡ j → get_or (drop at s) k 0 ≡ get_or s j 0
  byte_at k j e = get_or-drop at s k 0 ∙ ap (λ (x : ℕ). get_or s x 0) e

  tests : head_from at (drop at s) ≡ pick (starts_with header_start (drop at s) && (proper (digits_at s (at + 6)) && (leb (value_from 0 (digits_at s (at + 6))) 4096
      && (eqb (get_or s p 0) 32 && (proper (digits_at s (p + 1)) && eqb (get_or s q 0) 10)))))
      (head (value_from 0 (digits_at s (at + 6))) (digits_at s (p + 1)) (q + 1)) no_head
  unfolding head_from
  tests =
      let b₁ = byte_at (6 + length (digits_at s (at + 6))) p (omega arith) in
      let b₂ = byte_at (7 + length (digits_at s (at + 6)) + length (digits_at s (p + 1))) q (omega arith) in
      let j : at + (8 + length (digits_at s (at + 6)) + length (digits_at s (p + 1))) ≡ q + 1 = omega arith in
      ap (λ (x : List ℕ). head_by at (drop at s) x (digits_of (drop (7 + length x) (drop at s)))) first_run
      ∙ ap (head_by at (drop at s) (digits_at s (at + 6))) second_run
      ∙ rw (b₁, b₂, j)

  -- a failed test: there is no header
  none_found : head_from at (drop at s) ≡ no_head → Headed (head_from at (drop at s)) None
  none_found e = rw e absent

  module _ (t₁ : starts_with header_start (drop at s) ≡ true) where
    pub no_first : proper (digits_at s (at + 6)) ≡ false → Headed (head_from at (drop at s)) None
    no_first e = none_found (tests ∙ rw (t₁, e))

    module _ (t₂ : proper (digits_at s (at + 6)) ≡ true) where
      pub too_large : leb (value_from 0 (digits_at s (at + 6))) 4096 ≡ false → Headed (head_from at (drop at s)) None
      too_large e = none_found (tests ∙ rw (t₁, t₂, e))

      module _ (t₃ : leb (value_from 0 (digits_at s (at + 6))) 4096 ≡ true) where
        pub no_blank : eqb (get_or s p 0) 32 ≡ false → Headed (head_from at (drop at s)) None
        no_blank e = none_found (tests ∙ rw (t₁, t₂, t₃, e))

        module _ (t₄ : eqb (get_or s p 0) 32 ≡ true) where
          pub no_second : proper (digits_at s (p + 1)) ≡ false → Headed (head_from at (drop at s)) None
          no_second e = none_found (tests ∙ rw (t₁, t₂, t₃, t₄, e))

          module _ (t₅ : proper (digits_at s (p + 1)) ≡ true) where
            pub no_feed : eqb (get_or s q 0) 10 ≡ false → Headed (head_from at (drop at s)) None
            no_feed e = none_found (tests ∙ rw (t₁, t₂, t₃, t₄, t₅, e))

            pub head_found : eqb (get_or s q 0) 10 ≡ true → (v k : ℕ) → value_from 0 (digits_at s (at + 6)) ≡ v → Capped k (value_from 0 (digits_at s (p + 1)))
                → Headed (head_from at (drop at s)) (Some (heading v k (q + 1)))
            head_found t₆ v k e c = rw (tests, t₁, t₂, t₃, t₄, t₅, t₆, e) (found (digits_at s (p + 1)) c)

pub no_opening : (s : List ℕ) (at : ℕ) → starts_with header_start (drop at s) ≡ false → Headed (head_from at (drop at s)) None
no_opening s at e =
    let p = at + 6 + length (digits_at s (at + 6)) in
    let q = p + 1 + length (digits_at s (p + 1)) in
    none_found s at p q refl refl (tests s at p q refl refl ∙ rw e)

-- Literals: what they are refused for, and their global names.
use Prim.Native.Nat.{ℕ, zero, suc, ◌+◌, ◌-◌, ◌/◌, ◌≤◌, ◌<◌}
use mathlib.Core.Path.{◌≡◌, refl, sym, ap, ap₂, ◌∙◌, subst}
use mathlib.Core.Bool.{Bool, true, false, ◌&&◌, ◌||◌, not, true≢false}
use mathlib.Core.Logic.{⊎_elim, ◌≢◌}
use mathlib.Core.List.{List, [], ◌∷◌, map}
use native.Mathlib.Omega.{arith}
use lib.Dec.{eqb, ltb, leb}
use lib.ListN.{length, get_or, take, length-map}
use lib.Seq.{sets, length-sets}
use borrow.Author.Tests.{ne_eqb, lt-ltb, le-ltb, ltb-false, eqb-false, leb-false}
use Rattle.base.specs.Bounded.{any_of}
use Rattle.base.proofs.Truth.{same}
use Rattle.base.proofs.MemberLaws.{any_none, or_left, or_right, or_none}
use Rattle.drat.specs.Grammar.{Codes}
use Rattle.scope.specs.declared.Counts.{Counts}
use Rattle.scope.specs.Table.{Table}
use Rattle.scope.specs.Sound.{soundb}
use Rattle.scope.specs.Literals.{index_of}
use Rattle.scope.specs.Marks.{not_held, unheld, lits_held_else}
use Rattle.scope.specs.Write.{rename_lit, rename_lits, outside}
use Rattle.scope.proofs.SoundLaws.{sound_of}
use Rattle.scope.proofs.PairLaws.{below_mark, pair_flip}
use Rattle.scope.proofs.ResultLaws.{past}
use Rattle.scope.proofs.MarkLaws.{lits_past, lits_else}
use Rattle.steps.specs.Names.{names_by, Nameable, Named, lacks, unnamed}
use Rattle.steps.specs.Refusals.{literal_refusal}
use Rattle.base.proofs.StoreLaws.{stored_part}

-- ---- refusals 3 and 8

pub refuse_many : (t : Table) (s : Bool) (lits : List ℕ) → 8192 < length lits → 3 ≡ literal_refusal t s lits
unfolding literal_refusal outside
refuse_many t s lits h = rw (lt-ltb 8192 (length lits) h)

pub refuse_beyond : (t : Table) (d : Counts) (s : Bool) (lits : List ℕ) → t.counts ≡ d → length lits ≤ 8192 → s ≡ false
    → any_of (λ c. leb d.capacity (index_of c)) lits ≡ true → 3 ≡ literal_refusal t s lits
unfolding literal_refusal outside
refuse_beyond t d s lits p h z e = rw (z, le-ltb 8192 (length lits) h, p, e)

pub pass_global : (t : Table) (d : Counts) (s : Bool) (lits : List ℕ) → t.counts ≡ d → length lits ≤ 8192 → s ≡ false
    → any_of (λ c. leb d.capacity (index_of c)) lits ≡ false → 0 ≡ literal_refusal t s lits
unfolding literal_refusal outside unheld
pass_global t d s lits p h z e =
    let inside = ap (λ (x : Counts). any_of (λ c. leb x.capacity (index_of c)) lits) p ∙ e in
    rw (z, le-ltb 8192 (length lits) h, inside) (sym (lits_else t false lits 0 refl))

pub refuse_unheld : (t : Table) (gs : List ℕ) (s : Bool) (lits : List ℕ) → t.global_from_solver ≡ gs → length lits ≤ 8192 → s ≡ true
    → any_of (λ c. eqb (get_or gs (index_of c) 0) 0) lits ≡ true → 8 ≡ literal_refusal t s lits
unfolding literal_refusal outside lits_held_else unheld not_held
refuse_unheld t gs s lits q h z e = rw (z, le-ltb 8192 (length lits) h, q, e)

pub pass_solver : (t : Table) (gs : List ℕ) (s : Bool) (lits : List ℕ) → t.global_from_solver ≡ gs → length lits ≤ 8192 → s ≡ true
    → any_of (λ c. eqb (get_or gs (index_of c) 0) 0) lits ≡ false → 0 ≡ literal_refusal t s lits
unfolding literal_refusal outside unheld not_held
pass_solver t gs s lits q h z e = rw (z, le-ltb 8192 (length lits) h) (sym (lits_else t true lits 0 (rw q e)))

-- where neither applies
pub record Clear (t : Table) (s : Bool) (lits : List ℕ) : Type 0 where
  pub inside : outside t s lits ≡ false
  pub held : unheld t s lits ≡ false

pub clear : (t : Table) (s : Bool) (lits : List ℕ) → literal_refusal t s lits ≡ 0 → Clear t s lits
unfolding literal_refusal
clear t s lits e =
    let p = past (outside t s lits) 3 (lits_held_else t s lits 0) (omega arith) e in
    record { inside = p.0; held = (lits_past t s lits 0 p.1).0 }

-- ---- names

pub word_filled : (w g : ℕ) → w ≡ g + 1 → eqb w 0 ≡ false
word_filled w g e = ne_eqb w 0 (λ z. omega arith)

any_same : (p q : ℕ → Bool) → ((c : ℕ) → p c ≡ q c) → (xs : List ℕ) → any_of p xs ≡ any_of q xs
unfolding any_of
any_same p q h [] = refl
any_same p q h (x ∷ xs) = ap₂ (λ (a b : Bool). a || b) (h x) (any_same p q h xs)

-- a map's word of a sound table is at most 4,096
word_small : (t : Table) → soundb t ≡ true → (s : ℕ) → get_or t.global_from_solver s 0 ≤ 4096
word_small t h s = ⊎_elim
    (λ (e : get_or t.global_from_solver s 0 ≡ 0). omega arith)
    (λ (n : get_or t.global_from_solver s 0 ≢ 0).
    let z = (sound_of t h).sizes in
    let p = (sound_of t h).solver in
    let w = get_or t.global_from_solver s 0 in
    let k = below_mark (w - 1) s (pair_flip p) ((p.inverse s (w - 1)).0 (omega arith)) in
    omega arith)
    (same (get_or t.global_from_solver s 0) 0)

-- on a sound table a literal has no name where its index has no holder
pub unnamed_sound : (t : Table) (gs lits : List ℕ) → soundb t ≡ true → t.global_from_solver ≡ gs
    → unnamed gs lits ≡ any_of (λ c. eqb (get_or gs (index_of c) 0) 0) lits
unnamed_sound t gs lits h e = any_same _ _ (λ c. plain (get_or gs (c / 2) 0) (subst (λ (l : List ℕ). get_or l (c / 2) 0 ≤ 4096) e (word_small t h (c / 2)))) lits
  where
    plain : (w : ℕ) → w ≤ 4096 → eqb w 0 || ltb 4096 w ≡ eqb w 0
    plain w l = rw (le-ltb 4096 w l) (or_none (eqb w 0))

-- the words of literals that have names
pub named : (gs lits : List ℕ) → unnamed gs lits ≡ false → Named gs true lits
named gs lits u i l =
    let w = get_or gs (get_or lits i 0 / 2) 0 in
    let n = any_none (lacks gs) lits i 0 u l in
    (ltb-false 4096 w (or_right (eqb w 0) (ltb 4096 w) n), λ q. eqb-false w 0 (or_left (eqb w 0) (ltb 4096 w) n))

pub nameable_named : (gs lits : List ℕ) (s : Bool) → Nameable gs s lits → Named gs s lits
nameable_named gs lits s n i l = (n.small (get_or lits i 0 / 2), λ e. n.held e i l)

-- the index of a held literal has a holder
held_at : (t : Table) (s : Bool) (lits : List ℕ) (i : ℕ) → unheld t s lits ≡ false → i < length lits → s ≡ true
    → get_or t.global_from_solver (get_or lits i 0 / 2) 0 ≢ 0
unfolding unheld not_held
held_at t s lits i u l e =
    eqb-false (get_or t.global_from_solver (get_or lits i 0 / 2) 0) 0
    (any_none (λ c. eqb (get_or t.global_from_solver (index_of c) 0) 0) lits i 0 (and_held s _ u e) l)
  where
    and_held : (a b : Bool) → a && b ≡ false → a ≡ true → b ≡ false
    and_held true b p q = p
    and_held false b p q = absurd (true≢false (sym q))

-- the literals of a sound table for which neither refusal applies
pub nameable : (t : Table) (s : Bool) (lits : List ℕ) → soundb t ≡ true → Clear t s lits → Nameable t.global_from_solver s lits
unfolding outside
nameable t s lits h c =
    record {
      few = ltb-false 8192 (length lits) (or_left (ltb 8192 (length lits)) _ c.inside);
      small = word_small t h;
      held = λ e i l. held_at t s lits i c.held l e;
      codes = λ e i l. go s e c.inside i l;
    }
  where
    z : t.counts.capacity ≤ 4096
    z = (sound_of t h).sizes.at_most

    go : (b : Bool) → b ≡ false → ltb 8192 (length lits) || (not b && any_of (λ x. leb t.counts.capacity (index_of x)) lits) ≡ false
        → (i : ℕ) → i < length lits → get_or lits i 0 < 8192
    go true e p i l = absurd (true≢false e)
    go false e p i l =
        let b = any_none (λ x. leb t.counts.capacity (index_of x)) lits i 0 (or_right (ltb 8192 (length lits)) _ p) l in
        let x = leb-false t.counts.capacity (get_or lits i 0 / 2) b in
        omega (arith, z)

get_d_map : (f : ℕ → ℕ) (xs : List ℕ) (i : ℕ) → i < length xs → get_or (map f xs) i 0 ≡ f (get_or xs i 0)
get_d_map f [] i h = absurd (omega arith)
get_d_map f (x ∷ xs) zero h = refl
get_d_map f (x ∷ xs) (suc i) h = get_d_map f xs i (omega arith)

-- ---- names are literals that can be written

pub names_length : (h : ℕ → ℕ) (s : Bool) (lits : List ℕ) → length (rename_lits h s lits) ≡ length lits
unfolding rename_lits
names_length h s lits = length-map lits (rename_lit h s)

pub names_codes : (gs : List ℕ) (s : Bool) (lits : List ℕ) → ((i : ℕ) → get_or gs i 0 ≤ 4096) → (s ≡ false → Codes lits) → Codes (names_by gs s lits)
unfolding rename_lits
names_codes gs s lits w g i l =
    let k : i < length lits = subst (λ (n : ℕ). i < n) (length-map lits (rename_lit (λ j. get_or gs j 0) s)) l in
    subst (λ (c : ℕ). c < 8192) (sym (get_d_map (rename_lit (λ j. get_or gs j 0) s) lits i k)) (go s g k)
  where
    go : (b : Bool) → (b ≡ false → Codes lits) → i < length lits → rename_lit (λ j. get_or gs j 0) b (get_or lits i 0) < 8192
    go true h k = let x = w (get_or lits i 0 / 2) in omega arith
    go false h k = h refl i k

-- ---- names in a buffer that has room for them

module _ (gs : List ℕ) (s : Bool) (lits zs m : List ℕ) (z : length lits ≤ length zs) (e : m ≡ sets zs 0 (names_by gs s lits)) where
  pub names_part : take (length lits) m ≡ names_by gs s lits
  names_part = stored_part zs m (names_by gs s lits) (length lits) e (sym (names_length (λ i. get_or gs i 0) s lits)) (omega arith)

  pub names_within : length lits ≤ length m
  names_within = let k = ap length e ∙ length-sets zs 0 (names_by gs s lits) in omega arith

  pub names_given : length lits ≤ 8192 → Codes (names_by gs s lits) → Codes (take (length lits) m) × (length (take (length lits) m) ≤ 8192)
  names_given h c =
      subst (λ (l : List ℕ). Codes l × (length l ≤ 8192)) (sym names_part)
      (c, subst (λ (n : ℕ). n ≤ 8192) (sym (names_length (λ i. get_or gs i 0) s lits)) h)

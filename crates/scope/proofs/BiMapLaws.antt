-- What an insertion leaves, from the tests that it passed.
use Rattle.std.specs.Prelude.{Ok, Err, Result}
use Prim.Native.Nat.{ℕ, ◌+◌, ◌<◌}
use mathlib.Core.Path.{◌≡◌, refl, sym, ap, ◌∙◌, subst}
use mathlib.Core.Bool.{Bool, true, false, ◌&&◌}
use mathlib.Core.List.{List}
use lib.Dec.{ltb}
use lib.ListN.{length, set}
use lib.Seq.{get_or-set_other}
use native.Mathlib.Omega.{arith}
use borrow.Author.Tests.{ltb-true, lt-ltb, eq-eqb, ne_eqb}
use Rattle.base.specs.Choice.{pick}
use Rattle.base.proofs.BelowLaws.{and_left, and_right, and_both}
use Rattle.scope.specs.declared.Counts.{Counts}
use Rattle.scope.specs.declared.Name.{Name}
use Rattle.scope.specs.declared.Refusal.{Refusal}
use Rattle.scope.specs.Refusals.{number, refused_by, or_counts}
use Rattle.scope.proofs.RefusedLaws.{number_above_0}
use Rattle.scope.specs.declared.Name.TheVariants.{User, Solver}
use Rattle.scope.specs.BiMap.{index_in, cover_name, insert_refusal, Inserts, Covered}

abbrev pub fits : Counts → List ℕ → List ℕ → ℕ → ℕ → Bool
fits c fwd bwd i g = ltb i c.capacity && ltb g c.capacity && ltb i (length fwd) && ltb g (length bwd)

pub record Fits (c : Counts) (fwd bwd : List ℕ) (i g : ℕ) : Type 0 where
  pub index : i < c.capacity
  pub global : g < c.capacity
  pub forward : i < length fwd
  pub backward : g < length bwd

pub fits_says : (c : Counts) (fwd bwd : List ℕ) (i g : ℕ) → fits c fwd bwd i g ≡ true → Fits c fwd bwd i g
fits_says c fwd bwd i g e =
    let a = and_left (ltb i c.capacity && ltb g c.capacity && ltb i (length fwd)) (ltb g (length bwd)) e in
    let b = and_left (ltb i c.capacity && ltb g c.capacity) (ltb i (length fwd)) a in
    record {
      index = ltb-true _ _ (and_left (ltb i c.capacity) (ltb g c.capacity) b);
      global = ltb-true _ _ (and_right (ltb i c.capacity) (ltb g c.capacity) b);
      forward = ltb-true _ _ (and_right (ltb i c.capacity && ltb g c.capacity) (ltb i (length fwd)) a);
      backward = ltb-true _ _ (and_right (ltb i c.capacity && ltb g c.capacity && ltb i (length fwd)) (ltb g (length bwd)) e);
    }

pub fits_test : (c : Counts) (fwd bwd : List ℕ) (i g : ℕ) → Fits c fwd bwd i g → fits c fwd bwd i g ≡ true
fits_test c fwd bwd i g f =
    and_both (and_both (and_both (lt-ltb _ _ f.index) (lt-ltb _ _ f.global)) (lt-ltb _ _ f.forward)) (lt-ltb _ _ f.backward)

pub put_refused : (c : Counts) (fwd bwd : List ℕ) (n : Name) (g i : ℕ) → i ≡ index_in n → fits c fwd bwd i g ≡ false → Inserts c fwd bwd n g 3 c fwd bwd
unfolding insert_refusal
put_refused c fwd bwd n g i e h =
    record {
      refusal = sym (ap (λ (b : Bool). pick b 0 3) (subst (λ (j : ℕ). fits c fwd bwd j g ≡ false) e h));
      counts = refl;
      forward = refl;
      backward = refl;
    }

pub put_done : (c r : Counts) (fwd bwd f b : List ℕ) (n : Name) (g i : ℕ) → i ≡ index_in n → fits c fwd bwd i g ≡ true
    → r ≡ cover_name n c g → f ≡ set fwd i (g + 1) → b ≡ set bwd g (i + 1) → Inserts c fwd bwd n g 0 r f b
unfolding insert_refusal
put_done c r fwd bwd f b n g i e h er ef eb =
    record {
      refusal = sym (ap (λ (b : Bool). pick b 0 3) (subst (λ (j : ℕ). fits c fwd bwd j g ≡ true) e h));
      counts = er;
      forward = ef ∙ ap (λ (j : ℕ). set fwd j (g + 1)) e;
      backward = eb ∙ ap (λ (j : ℕ). set bwd g (j + 1)) e;
    }

-- where it fits, nothing is refused
pub record Done (c : Counts) (fwd bwd : List ℕ) (n : Name) (g : ℕ) (r : Counts) (f b : List ℕ) : Type 0 where
  pub counts : r ≡ cover_name n c g
  pub forward : f ≡ set fwd (index_in n) (g + 1)
  pub backward : b ≡ set bwd g (index_in n + 1)

pub insert_done : (c r : Counts) (fwd bwd f b : List ℕ) (n : Name) (g k : ℕ) → Fits c fwd bwd (index_in n) g → Inserts c fwd bwd n g k r f b
    → Done c fwd bwd n g r f b
unfolding insert_refusal
insert_done c r fwd bwd f b n g k h p =
    let z : k ≡ 0 = p.refusal ∙ ap (λ (t : Bool). pick t 0 3) (fits_test c fwd bwd (index_in n) g h) in
    let q = eq-eqb k 0 z in
    record {
      counts = p.counts ∙ ap (λ (t : Bool). pick t (cover_name n c g) c) q;
      forward = p.forward ∙ ap (λ (t : Bool). pick t (set fwd (index_in n) (g + 1)) fwd) q;
      backward = p.backward ∙ ap (λ (t : Bool). pick t (set bwd g (index_in n + 1)) bwd) q;
    }

-- ---- no word is left at or above a watermark

covers : (n : Name) (c : Counts) (fwd bwd : List ℕ) (g : ℕ) → Fits c fwd bwd (index_in n) g → Covered n c fwd bwd
    → Covered n (cover_name n c g) (set fwd (index_in n) (g + 1)) (set bwd g (index_in n + 1))
covers (User u) c fwd bwd g h v =
    let a = h.index in
    let b = h.global in
    let m = v.mark in
    let k = v.global in
    record {
      forward = λ i l. rw (get_or-set_other fwd u.0 i (g + 1) 0 (omega arith)) (v.forward i (omega arith));
      backward = λ j l. rw (get_or-set_other bwd g j (u.0 + 1) 0 (omega arith)) (v.backward j (omega arith));
      mark = omega arith;
      global = omega arith;
    }
covers (Solver s) c fwd bwd g h v =
    let a = h.index in
    let b = h.global in
    let m = v.mark in
    let k = v.global in
    record {
      forward = λ i l. rw (get_or-set_other fwd s.0 i (g + 1) 0 (omega arith)) (v.forward i (omega arith));
      backward = λ j l. rw (get_or-set_other bwd g j (s.0 + 1) 0 (omega arith)) (v.backward j (omega arith));
      mark = omega arith;
      global = omega arith;
    }

-- An insertion, accepted or refused, leaves no word of the pair at or above its watermark where there was none before.
pub insert_covered : (c r : Counts) (fwd bwd f b : List ℕ) (n : Name) (g k : ℕ) → Inserts c fwd bwd n g k r f b → Covered n c fwd bwd → Covered n r f b
unfolding insert_refusal
insert_covered c r fwd bwd f b n g k p v = go (fits c fwd bwd (index_in n) g) refl
  where
    go : (t : Bool) → fits c fwd bwd (index_in n) g ≡ t → Covered n r f b
    go true e =
        let h = fits_says c fwd bwd (index_in n) g e in
        let d = insert_done c r fwd bwd f b n g k h p in
        rw (d.counts, d.forward, d.backward) (covers n c fwd bwd g h v)
    go false e =
        let z : k ≡ 3 = p.refusal ∙ ap (λ (t : Bool). pick t 0 3) e in
        let q = ne_eqb k 0 (λ y. omega arith) in
        rw (p.counts, p.forward, p.backward, q) v

-- an insertion that fits is accepted
pub accepted : (c : Counts) (fwd bwd f b : List ℕ) (n : Name) (g : ℕ) (r : Result Counts Refusal) → Fits c fwd bwd (index_in n) g
    → Inserts c fwd bwd n g (refused_by r) (or_counts c r) f b → r ≡ Ok (cover_name n c g)
unfolding insert_refusal
accepted c fwd bwd f b n g (Ok d) h p = ap Ok (insert_done c d fwd bwd f b n g 0 h p).counts
accepted c fwd bwd f b n g (Err e) h p =
    let z : number e ≡ 0 = p.refusal ∙ ap (λ (t : Bool). pick t 0 3) (fits_test c fwd bwd (index_in n) g h) in
    let k = number_above_0 e in absurd (omega arith)

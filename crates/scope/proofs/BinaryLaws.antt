-- Laws of the lists of binary clauses: the sections one at a time, what an entry's mirror shows, and that past 15 and 8 an index of both literals of
-- every clause is held.
use Prim.Native.Nat.{ℕ, zero, suc, ◌+◌, ◌<◌, ◌≤◌}
use mathlib.Core.Path.{◌≡◌, refl, sym, ap, ◌∙◌, subst}
use mathlib.Core.Bool.{Bool, true, false}
use mathlib.Core.Logic.{⊎_elim}
use mathlib.Core.List.{List, [], ◌∷◌, ◌++◌, map}
use native.Mathlib.Nat.{le_of_suc-le-suc, not-suc-le-zero}
use native.Mathlib.Numerals.{add-one}
use native.Mathlib.Omega.{arith}
use lib.Dec.{eqb, ltb}
use lib.ListN.{length, get_or, drop, length-append, drop_of_length-le, get_or-eq_default}
use lib.Seq.{drop-cons}
use borrow.Author.Tests.{ltb-true, eqb-true, eq-eqb, ne_eqb}
use Rattle.base.specs.Choice.{pick}
use Rattle.base.specs.Bounded.{every_of, any_of, keep_of}
use Rattle.base.proofs.BelowLaws.{and_left, and_right, all_at}
use Rattle.base.proofs.MemberLaws.{every_at, any_append, any_intro, or_left, or_right, or_neither}
use Rattle.base.proofs.Truth.{split}
use Rattle.drat.specs.Grammar.{step_of, Valid}
use Rattle.drat.specs.declared.Kind.TheVariants.{Delete}
use Rattle.drat.proofs.CodesLaws.{valid_append}
use Rattle.scope.specs.Literals.{index_of, not_lit}
use Rattle.scope.specs.Table.{Table}
use Rattle.scope.specs.Sound.{Sound}
use Rattle.scope.specs.Marks.{not_held, unheld}
use Rattle.scope.specs.Write.{rename_lits, holders}
use Rattle.scope.specs.Binary.{sections_of, section_at, section_words, each_section, times, has_mirror, mirrored, deletes_at}
use Rattle.scope.specs.Binary.{filled_codes}
use Rattle.scope.proofs.WriteLaws.{solver_codes, keep_none}

-- ---- sections

pub sections_length : (n : ℕ) (ws : List ℕ) → length (sections_of n ws) ≡ n
unfolding sections_of
sections_length zero ws = refl
sections_length (suc n) [] = ap suc (sections_length n [])
sections_length (suc n) (k ∷ ws) = ap suc (sections_length n (drop k ws))

-- a section with an entry is one of those there are
pub section_there : (ss : List (List ℕ)) (l i : ℕ) → i < length (section_at ss l) → l < length ss
section_there ss l i h = ⊎_elim (λ (k : l < length ss). k)
    (λ (k : length ss ≤ l). absurd (not-suc-le-zero (subst (λ (es : List ℕ). i < length es) (get_or-eq_default ss [] k) h)))
    (split l (length ss))

module _ {A : Type 0} (f : ℕ → List ℕ → List A) where
  -- one section more
  pub each_next : (ss : List (List ℕ)) (l : ℕ) → l < length ss
      → each_section f l (drop l ss) ≡ f l (section_at ss l) ++ each_section f (l + 1) (drop (l + 1) ss)
  unfolding each_section
  each_next ss l h = ap (each_section f l) (drop-cons ss l [] h) ∙ ap (λ (k : ℕ). f l (section_at ss l) ++ each_section f (l + 1) (drop k ss)) (sym (add-one l))

  pub each_end : (ss : List (List ℕ)) (l : ℕ) → length ss ≤ l → each_section f l (drop l ss) ≡ []
  unfolding each_section
  each_end ss l h = ap (each_section f l) (drop_of_length-le ss h)

-- each after its count: one word more for each section
pub each_words : (g : ℕ → List ℕ → List ℕ) (l : ℕ) (ss : List (List ℕ))
    → length (each_section (λ k es. section_words (g k es)) l ss) ≡ length ss + length (each_section g l ss)
unfolding each_section
each_words g l [] = refl
each_words g l (es ∷ ss) =
    let a = length-append (section_words (g l es)) (each_section (λ k es. section_words (g k es)) (l + 1) ss) in
    let b = length-append (g l es) (each_section g (l + 1) ss) in
    let c = each_words g (l + 1) ss in
    omega arith

-- ---- mirrors

pub not_not : (c : ℕ) → not_lit (not_lit c) ≡ c
not_not c = omega arith

pub not_index : (c : ℕ) → index_of (not_lit c) ≡ index_of c
not_index c = omega arith

pub times_none : (m : ℕ) → times m [] ≡ 0
unfolding times keep_of
times_none m = refl

-- an entry stands at least once
pub times_some : (es : List ℕ) (i : ℕ) → i < length es → 0 < times (get_or es i 0) es
unfolding times keep_of
times_some [] i h = absurd (not-suc-le-zero h)
times_some (x ∷ es) zero h = rw (eq-eqb x x refl) (omega arith)
times_some (x ∷ es) (suc i) h = go (eqb x (get_or es i 0)) (times_some es i (le_of_suc-le-suc h))
  where
    go : (b : Bool) → 0 < length (keep_of (λ y. eqb y (get_or es i 0)) es)
        → 0 < length (pick b (x ∷ keep_of (λ y. eqb y (get_or es i 0)) es) (keep_of (λ y. eqb y (get_or es i 0)) es))
    go true k = omega arith
    go false k = k

module _ (ss : List (List ℕ)) (h : mirrored ss ≡ true) where
  pub entry_mirrored : (l i : ℕ) → i < length (section_at ss l) → has_mirror ss l (get_or (section_at ss l) i 0) ≡ true
  unfolding mirrored
  entry_mirrored l i k =
      every_at (has_mirror ss l) (section_at ss l) i 0 (all_at (length ss) (λ j. every_of (has_mirror ss j) (section_at ss j)) h l (section_there ss l i k)) k

  -- an entry is the code of a section, and the section of its negation is not empty
  pub mirror_inside : (l i : ℕ) → i < length (section_at ss l) → get_or (section_at ss l) i 0 < length ss
  unfolding has_mirror
  mirror_inside l i k = ltb-true _ _ (and_left (ltb (get_or (section_at ss l) i 0) (length ss)) _ (entry_mirrored l i k))

  pub mirror_filled : (l i : ℕ) → i < length (section_at ss l) → 0 < length (section_at ss (not_lit (get_or (section_at ss l) i 0)))
  unfolding has_mirror
  mirror_filled l i k =
      let m = get_or (section_at ss l) i 0 in
      let e = eqb-true (times m (section_at ss l)) (times (not_lit l) (section_at ss (not_lit m)))
      (and_right (ltb m (length ss)) _ (entry_mirrored l i k)) in
      let a = times_some (section_at ss l) i k in
      some (not_lit l) (section_at ss (not_lit m)) (omega arith)
    where
      some : (x : ℕ) (es : List ℕ) → 0 < times x es → 0 < length es
      some x [] z = absurd (let q = times_none x in omega arith)
      some x (e ∷ es) z = omega arith

-- ---- held

-- the code of a section that is not empty
abbrev pub code_if : ℕ → List ℕ → List ℕ
code_if l es = pick (eqb (length es) 0) [] (l ∷ [])

filled_at : (p : ℕ → Bool) (ss : List (List ℕ)) (k : ℕ) → any_of p (each_section code_if k ss) ≡ false → (i : ℕ) → 0 < length (section_at ss i) → p (k + i) ≡ false
unfolding each_section any_of
filled_at p [] k e i h = absurd (omega arith)
filled_at p (es ∷ ss) k e zero h =
    let a : any_of p (code_if k es) ≡ false = or_left _ _ (sym (any_append p (code_if k es) (each_section code_if (k + 1) ss)) ∙ e) in
    let b : any_of p (k ∷ []) ≡ false = rw (ne_eqb (length es) 0 (omega arith)) at a in
    subst (λ (j : ℕ). p j ≡ false) (omega arith) (or_left (p k) false b)
filled_at p (es ∷ ss) k e (suc i) h =
    let a = or_right (any_of p (code_if k es)) _ (sym (any_append p (code_if k es) (each_section code_if (k + 1) ss)) ∙ e) in
    subst (λ (j : ℕ). p j ≡ false) (omega arith) (filled_at p ss (k + 1) a i h)

-- the index of a section that is not empty
pub filled_held : (t : Table) (ss : List (List ℕ)) → unheld t true (filled_codes ss) ≡ false → (l : ℕ) → 0 < length (section_at ss l)
    → not_held t (index_of l) ≡ false
unfolding unheld filled_codes
filled_held t ss e l h = subst (λ (c : ℕ). not_held t (index_of c) ≡ false) (omega arith) (filled_at (λ c. not_held t (index_of c)) ss 0 e l h)

-- some literal of the clause of the entry m under l is of an index that is not held
abbrev pub pair_unheld : Table → ℕ → ℕ → Bool
pair_unheld t l m = any_of (λ c. not_held t (index_of c)) (not_lit l ∷ m ∷ [])

-- past 15 and 8 both are held: the section of l has the entry, and the section of not m its mirror
pub pair_held : (t : Table) (ss : List (List ℕ)) → mirrored ss ≡ true → unheld t true (filled_codes ss) ≡ false → (l i : ℕ) → i < length (section_at ss l)
    → pair_unheld t l (get_or (section_at ss l) i 0) ≡ false
unfolding any_of
pair_held t ss h e l i k =
    let m = get_or (section_at ss l) i 0 in
    let a = filled_held t ss e l (omega arith) in
    let b = filled_held t ss e (not_lit m) (mirror_filled ss h l i k) in
    let c : not_held t (index_of (not_lit l)) ≡ false = rw (not_index l) a in
    let d : not_held t (index_of m) ≡ false = subst (λ (s : ℕ). not_held t s ≡ false) (not_index m) b in
    or_neither c (or_neither d refl)

pub all_held : (t : Table) (ss : List (List ℕ)) → mirrored ss ≡ true → unheld t true (filled_codes ss) ≡ false
    → (l : ℕ) → any_of (pair_unheld t (0 + l)) (section_at ss l) ≡ false
all_held t ss h e l =
    subst (λ (k : ℕ). any_of (pair_unheld t k) (section_at ss l) ≡ false) (omega arith)
    (any_intro (pair_unheld t l) (section_at ss l) 0 (λ i k. pair_held t ss h e l i k))

-- ---- the delete steps can be read

pairs_valid : (t : Table) (l : ℕ) (ms : List ℕ) → Sound t → any_of (pair_unheld t l) ms ≡ false
    → Valid (map (λ m. step_of Delete (rename_lits (holders t) true (not_lit l ∷ m ∷ []))) ms)
unfolding any_of Valid
pairs_valid t l [] p e = tt
pairs_valid t l (m ∷ ms) p e =
    (solver_codes t (not_lit l ∷ m ∷ []) p (or_left (pair_unheld t l m) _ e), pairs_valid t l ms p (or_right (pair_unheld t l m) _ e))

pub deletes_valid : (t : Table) (l : ℕ) (ss : List (List ℕ)) → Sound t → ((i : ℕ) → any_of (pair_unheld t (l + i)) (section_at ss i) ≡ false)
    → Valid (each_section (deletes_at t) l ss)
unfolding each_section deletes_at Valid
deletes_valid t l [] p e = tt
deletes_valid t l (es ∷ ss) p e =
    valid_append (deletes_at t l es) (each_section (deletes_at t) (l + 1) ss)
    (pairs_valid t l _ p (keep_none (pair_unheld t l) _ es (subst (λ (k : ℕ). any_of (pair_unheld t k) es ≡ false) (omega arith) (e 0))))
    (deletes_valid t (l + 1) ss p (λ i. subst (λ (k : ℕ). any_of (pair_unheld t k) (section_at ss i) ≡ false) (omega arith) (e (suc i))))

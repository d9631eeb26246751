-- The lists that Simplify binary answers are lists that it takes: cut from their words they are the sections with what stays, every entry has its
-- mirror, and no section is filled that was empty.
use Prim.Native.Nat.{ℕ, zero, suc, ◌+◌, ◌/◌, ◌<◌, ◌≤◌}
use mathlib.Core.Path.{◌≡◌, refl, sym, ap, ap₂, ◌∙◌, subst}
use mathlib.Core.Bool.{Bool, true, false, ◌&&◌, not, true≢false}
use mathlib.Core.List.{List, [], ◌∷◌, ◌++◌, map}
use native.Mathlib.Nat.{le_of_suc-le-suc, not-suc-le-zero}
use native.Mathlib.Omega.{arith}
use lib.Dec.{eqb, ltb}
use lib.ListN.{length, get_or, length-append}
use lib.Seq.{take-append_seam, drop-append_seam}
use borrow.Author.Tests.{eqb-true, eq-eqb, ne_eqb, le-leb, le-ltb, not-false}
use Rattle.base.specs.Choice.{pick}
use Rattle.base.specs.Bounded.{any_of, keep_of}
use Rattle.base.proofs.BelowLaws.{and_left, and_right, and_both, all_intro}
use Rattle.base.proofs.MemberLaws.{every_intro, keep_length, or_neither, or_left, or_right, any_append}
use Rattle.base.specs.Answer.{accepted}
use Rattle.drat.specs.Grammar.{Step, step_of, encode}
use Rattle.drat.specs.declared.Format.{Format}
use Rattle.drat.specs.declared.Kind.TheVariants.{Delete}
use Rattle.scope.specs.Literals.{index_of, not_lit}
use Rattle.scope.specs.Table.{Table}
use Rattle.scope.specs.Sound.{soundb}
use Rattle.scope.specs.Marks.{not_held, unheld}
use Rattle.scope.specs.Write.{rename_lits, holders}
use Rattle.scope.specs.Binary.{cutsb, sections_of, section_at, section_words, each_section, times, has_mirror, mirrored, is_unknown, stays, kept_at}
use Rattle.scope.specs.Binary.{deletes_at, section_count, sections_for, filled_codes, kept_words, kept_count, delete_bytes, binary_refusal, binary_of}
use Rattle.scope.proofs.ResultLaws.{past, unless_none}
use Rattle.scope.proofs.MarkLaws.{lits_past, lits_else}
use Rattle.scope.proofs.BinaryLaws.{sections_length, not_index, entry_mirrored, code_if}

-- the sections with what stays, the first that of l
unfoldable pub kept_from : Table → ℕ → List (List ℕ) → List (List ℕ)
kept_from t l [] = []
kept_from t l (es ∷ ss) = kept_at t l es ∷ kept_from t (l + 1) ss

pub kept_length : (t : Table) (l : ℕ) (ss : List (List ℕ)) → length (kept_from t l ss) ≡ length ss
unfolding kept_from
kept_length t l [] = refl
kept_length t l (es ∷ ss) = ap suc (kept_length t (l + 1) ss)

pub kept_section : (t : Table) (l : ℕ) (ss : List (List ℕ)) (i : ℕ) → section_at (kept_from t l ss) i ≡ kept_at t (l + i) (section_at ss i)
unfolding kept_from kept_at keep_of
kept_section t l [] i = refl
kept_section t l (es ∷ ss) zero = ap (λ (k : ℕ). keep_of (stays t k) es) (omega arith)
kept_section t l (es ∷ ss) (suc i) = kept_section t (l + 1) ss i ∙ ap (λ (k : ℕ). keep_of (stays t k) (section_at ss i)) (omega arith)

-- ---- in words

pub kept_cut : (t : Table) (l : ℕ) (ss : List (List ℕ)) → cutsb (length ss) (each_section (λ j es. section_words (kept_at t j es)) l ss) ≡ true
unfolding cutsb each_section
kept_cut t l [] = refl
kept_cut t l (es ∷ ss) =
    let ks = kept_at t l es in
    let rest = each_section (λ j es. section_words (kept_at t j es)) (l + 1) ss in
    let a = length-append ks rest in
    and_both (le-leb (length ks) (length (ks ++ rest)) (omega arith)) (ap (cutsb (length ss)) (drop-append_seam ks rest) ∙ kept_cut t (l + 1) ss)

pub kept_sections : (t : Table) (l : ℕ) (ss : List (List ℕ))
    → sections_of (length ss) (each_section (λ j es. section_words (kept_at t j es)) l ss) ≡ kept_from t l ss
unfolding sections_of each_section kept_from
kept_sections t l [] = refl
kept_sections t l (es ∷ ss) =
    let ks = kept_at t l es in
    let rest = each_section (λ j es. section_words (kept_at t j es)) (l + 1) ss in
    ap₂ (λ (a b : List ℕ). a ∷ sections_of (length ss) b) (take-append_seam ks rest) (drop-append_seam ks rest)
    ∙ ap (λ (r : List (List ℕ)). ks ∷ r) (kept_sections t (l + 1) ss)

-- ---- mirrors

-- how often a member that passes is kept
times_kept : (q : ℕ → Bool) (m : ℕ) (es : List ℕ) → q m ≡ true → times m (keep_of q es) ≡ times m es
unfolding times keep_of
times_kept q m [] e = refl
times_kept q m (x ∷ es) e = go (q x) refl (eqb x m) refl (times_kept q m es e)
  where
    go : (b : Bool) → q x ≡ b → (d : Bool) → eqb x m ≡ d → length (keep_of (λ y. eqb y m) (keep_of q es)) ≡ length (keep_of (λ y. eqb y m) es)
        → length (keep_of (λ y. eqb y m) (pick b (x ∷ keep_of q es) (keep_of q es)))
        ≡ length (pick d (x ∷ keep_of (λ y. eqb y m) es) (keep_of (λ y. eqb y m) es))
    go true a true c k = rw c (ap suc k)
    go true a false c k = rw c k
    go false a true c k = absurd (true≢false (sym e ∙ sym (ap q (eqb-true x m c)) ∙ a))
    go false a false c k = k

-- a member that is kept passes, and is a member
kept_passes : (q : ℕ → Bool) (es : List ℕ) (i : ℕ) → i < length (keep_of q es) → q (get_or (keep_of q es) i 0) ≡ true
unfolding keep_of
kept_passes q [] i h = absurd (not-suc-le-zero h)
kept_passes q (x ∷ es) i h = go (q x) refl i h (λ j k. kept_passes q es j k)
  where
    go : (b : Bool) → q x ≡ b → (i : ℕ) → i < length (pick b (x ∷ keep_of q es) (keep_of q es))
        → ((j : ℕ) → j < length (keep_of q es) → q (get_or (keep_of q es) j 0) ≡ true) → q (get_or (pick b (x ∷ keep_of q es) (keep_of q es)) i 0) ≡ true
    go true a zero k f = a
    go true a (suc i) k f = f i (le_of_suc-le-suc k)
    go false a i k f = f i k

kept_member : (q : ℕ → Bool) (es : List ℕ) (i : ℕ) → i < length (keep_of q es) → (j : ℕ) × (j < length es) × (get_or es j 0 ≡ get_or (keep_of q es) i 0)
unfolding keep_of
kept_member q [] i h = absurd (not-suc-le-zero h)
kept_member q (x ∷ es) i h = go (q x) i h (λ j k. kept_member q es j k)
  where
    go : (b : Bool) (i : ℕ) → i < length (pick b (x ∷ keep_of q es) (keep_of q es))
        → ((k : ℕ) → k < length (keep_of q es) → (j : ℕ) × (j < length es) × (get_or es j 0 ≡ get_or (keep_of q es) k 0))
        → (j : ℕ) × (j < length (x ∷ es)) × (get_or (x ∷ es) j 0 ≡ get_or (pick b (x ∷ keep_of q es) (keep_of q es)) i 0)
    go true zero k f = (0, omega arith, refl)
    go true (suc i) k f = let (j, a, b) = f i (le_of_suc-le-suc k) in (suc j, omega arith, b)
    go false i k f = let (j, a, b) = f i k in (suc j, omega arith, b)

and_swap : (a b : Bool) → a && b ≡ b && a
and_swap true true = refl
and_swap true false = refl
and_swap false true = refl
and_swap false false = refl

-- an entry stays exactly if its mirror does
stays_mirror : (t : Table) (l m : ℕ) → stays t l m ≡ stays t (not_lit m) (not_lit l)
stays_mirror t l m = and_swap (is_unknown t l) (is_unknown t m) ∙ rw (not_index m, not_index l)

pub kept_mirrored : (t : Table) (ss : List (List ℕ)) → mirrored ss ≡ true → mirrored (kept_from t 0 ss) ≡ true
unfolding mirrored has_mirror kept_at
kept_mirrored t ss h = all_intro (length (kept_from t 0 ss)) _ (λ l a. every_intro (has_mirror (kept_from t 0 ss) l) (section_at (kept_from t 0 ss) l) 0 (each l))
  where
    at : (l : ℕ) → section_at (kept_from t 0 ss) l ≡ keep_of (stays t l) (section_at ss l)
    at l = kept_section t 0 ss l ∙ ap (λ (k : ℕ). keep_of (stays t k) (section_at ss l)) (omega arith)

    both : (l m : ℕ) → stays t l m ≡ true → has_mirror ss l m ≡ true → has_mirror (kept_from t 0 ss) l m ≡ true
    both l m s e =
        let a = and_left (ltb m (length ss)) _ e in
        let b = eqb-true (times m (section_at ss l)) (times (not_lit l) (section_at ss (not_lit m))) (and_right (ltb m (length ss)) _ e) in
        let c : times m (section_at (kept_from t 0 ss) l) ≡ times m (section_at ss l) = ap (times m) (at l) ∙ times_kept (stays t l) m (section_at ss l) s in
        let d : times (not_lit l) (section_at (kept_from t 0 ss) (not_lit m)) ≡ times (not_lit l) (section_at ss (not_lit m))
        = ap (times (not_lit l)) (at (not_lit m))
        ∙ times_kept (stays t (not_lit m)) (not_lit l) (section_at ss (not_lit m)) (sym (stays_mirror t l m) ∙ s) in
        and_both (ap (ltb m) (kept_length t 0 ss) ∙ a) (eq-eqb _ _ (c ∙ b ∙ sym d))

    each : (l i : ℕ) → i < length (section_at (kept_from t 0 ss) l) → has_mirror (kept_from t 0 ss) l (get_or (section_at (kept_from t 0 ss) l) i 0) ≡ true
    each l i k =
        let k2 : i < length (keep_of (stays t l) (section_at ss l)) = subst (λ (es : List ℕ). i < length es) (at l) k in
        let (j, a, b) = kept_member (stays t l) (section_at ss l) i k2 in
        let m = get_or (keep_of (stays t l) (section_at ss l)) i 0 in
        let e : has_mirror ss l m ≡ true = subst (λ (x : ℕ). has_mirror ss l x ≡ true) b (entry_mirrored ss h l j a) in
        subst (λ (es : List ℕ). has_mirror (kept_from t 0 ss) l (get_or es i 0) ≡ true) (sym (at l)) (both l m (kept_passes (stays t l) (section_at ss l) i k2) e)

-- ---- held

-- a section that is filled afterwards was filled before
kept_codes : (p : ℕ → Bool) (t : Table) (l : ℕ) (ss : List (List ℕ)) → any_of p (each_section code_if l ss) ≡ false
    → any_of p (each_section code_if l (kept_from t l ss)) ≡ false
unfolding each_section kept_from kept_at any_of
kept_codes p t l [] e = e
kept_codes p t l (es ∷ ss) e =
    let ks = keep_of (stays t l) es in
    let a : any_of p (code_if l es) ≡ false = or_left _ _ (sym (any_append p (code_if l es) (each_section code_if (l + 1) ss)) ∙ e) in
    let b = or_right (any_of p (code_if l es)) _ (sym (any_append p (code_if l es) (each_section code_if (l + 1) ss)) ∙ e) in
    let c : any_of p (code_if l ks) ≡ false = code_kept es ks (keep_length (stays t l) es) a in
    any_append p (code_if l ks) (each_section code_if (l + 1) (kept_from t (l + 1) ss)) ∙ or_neither c (kept_codes p t (l + 1) ss b)
  where
    code_kept : (xs ys : List ℕ) → length ys ≤ length xs → any_of p (code_if l xs) ≡ false → any_of p (code_if l ys) ≡ false
    code_kept xs [] k f = refl
    code_kept [] (y ∷ ys) k f = absurd (not-suc-le-zero k)
    code_kept (x ∷ xs) (y ∷ ys) k f =
        rw (ne_eqb (suc (length ys)) 0 (omega arith)) (rw (ne_eqb (suc (length xs)) 0 (omega arith)) at f)

-- ---- nothing more goes

keep_again : (q : ℕ → Bool) (es : List ℕ) → keep_of q (keep_of q es) ≡ keep_of q es
unfolding keep_of
keep_again q [] = refl
keep_again q (x ∷ es) = go (q x) refl (keep_again q es)
  where
    go : (b : Bool) → q x ≡ b → keep_of q (keep_of q es) ≡ keep_of q es
        → keep_of q (pick b (x ∷ keep_of q es) (keep_of q es)) ≡ pick b (x ∷ keep_of q es) (keep_of q es)
    go true e k = rw e (ap (λ (ys : List ℕ). x ∷ ys) k)
    go false e k = k

keep_gone : (q r : ℕ → Bool) (es : List ℕ) → keep_of (λ m. not (q m) && r m) (keep_of q es) ≡ []
unfolding keep_of
keep_gone q r [] = refl
keep_gone q r (x ∷ es) = go (q x) refl (keep_gone q r es)
  where
    go : (b : Bool) → q x ≡ b → keep_of (λ m. not (q m) && r m) (keep_of q es) ≡ []
        → keep_of (λ m. not (q m) && r m) (pick b (x ∷ keep_of q es) (keep_of q es)) ≡ []
    go true e k = rw e k
    go false e k = k

again_words : (t : Table) (l : ℕ) (ss : List (List ℕ))
    → each_section (λ j es. section_words (kept_at t j es)) l (kept_from t l ss) ≡ each_section (λ j es. section_words (kept_at t j es)) l ss
unfolding each_section kept_from kept_at
again_words t l [] = refl
again_words t l (es ∷ ss) =
    ap₂ (λ (a b : List ℕ). section_words a ++ b) (keep_again (stays t l) es) (again_words t (l + 1) ss)

again_entries : (t : Table) (l : ℕ) (ss : List (List ℕ)) → each_section (kept_at t) l (kept_from t l ss) ≡ each_section (kept_at t) l ss
unfolding each_section kept_from kept_at
again_entries t l [] = refl
again_entries t l (es ∷ ss) = ap₂ (λ (a b : List ℕ). a ++ b) (keep_again (stays t l) es) (again_entries t (l + 1) ss)

again_deletes : (t : Table) (l : ℕ) (ss : List (List ℕ)) → each_section (deletes_at t) l (kept_from t l ss) ≡ []
unfolding each_section kept_from kept_at deletes_at
again_deletes t l [] = refl
again_deletes t l (es ∷ ss) =
    ap₂ (λ (a : List ℕ) (b : List Step). map (λ m. step_of Delete (rename_lits (holders t) true (not_lit l ∷ m ∷ []))) a ++ b)
    (keep_gone (stays t l) (ltb (not_lit l)) es) (again_deletes t (l + 1) ss)

-- ---- the call

codes_held : (t : Table) (ss : List (List ℕ)) → unheld t true (each_section code_if 0 ss) ≡ false → unheld t true (each_section code_if 0 (kept_from t 0 ss)) ≡ false
unfolding unheld
codes_held t ss h = kept_codes (λ c. not_held t (index_of c)) t 0 ss h

module _ (f : Format) (t : Table) (lists : List ℕ) (outs room : ℕ) (e : binary_refusal f t lists outs room ≡ 0) where
  abbrev given : List (List ℕ)
  given = sections_of (section_count t) lists

  -- the words answered
  abbrev pub answered : List ℕ
  answered = kept_words t (sections_for t lists)

  again_listed : sections_for t answered ≡ kept_from t 0 given
  unfolding sections_for kept_words
  again_listed = subst (λ (k : ℕ). sections_of k answered ≡ kept_from t 0 given) (sections_length (section_count t) lists) (kept_sections t 0 given)

  again_cut : cutsb (section_count t) answered ≡ true
  unfolding sections_for kept_words
  again_cut = subst (λ (k : ℕ). cutsb k answered ≡ true) (sections_length (section_count t) lists) (kept_cut t 0 given)

  -- the words, the entries and the delete steps of the lists answered
  same_words : kept_words t (kept_from t 0 given) ≡ answered
  unfolding sections_for kept_words
  same_words = again_words t 0 given

  same_count : kept_count t (kept_from t 0 given) ≡ kept_count t (sections_for t lists)
  unfolding sections_for kept_count
  same_count = ap length (again_entries t 0 given)

  no_bytes : delete_bytes f t (kept_from t 0 given) ≡ []
  unfolding delete_bytes encode
  no_bytes = ap (encode f) (again_deletes t 0 given)

  again_refusal : (words bytes : ℕ) → length answered ≤ words → binary_refusal f t answered words bytes ≡ 0
  unfolding binary_refusal sections_for filled_codes
  again_refusal words bytes w =
      let (s, e1) = past (not (soundb t)) 1 _ (omega arith) e in
      let (c, e2) = past (not (cutsb (section_count t) lists && mirrored given)) 15 _ (omega arith) e1 in
      let (h, e3) = lits_past t true (each_section code_if 0 given) _ e2 in
      let m = and_right (cutsb (section_count t) lists) _ (not-false (cutsb (section_count t) lists && mirrored given) c) in
      rw (s, again_cut, again_listed, kept_mirrored t given m)
      (lits_else t true (each_section code_if 0 (kept_from t 0 given)) _ (codes_held t given h)
      ∙ rw (same_words, no_bytes, le-ltb words (length answered) w, le-ltb bytes 0 (omega arith)))

  -- What an accepted call answers is accepted again: nothing changes, and nothing is written.
  pub binary_again : (words bytes : ℕ) → length answered ≤ words
      → binary_of f t answered words bytes
      ≡ record {
        answer = accepted (length answered ∷ kept_count t (sections_for t lists) / 2 ∷ 0 ∷ []);
        table = t;
        notes = [];
        words = answered;
        more = [];
        bytes = [];
      }
  unfolding binary_of
  binary_again words bytes w = rw (again_refusal words bytes w, again_listed, same_words, same_count, no_bytes) (unless_none 0 t _ refl)

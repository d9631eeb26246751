-- Simplify binary: the lines that the ledger makes of the lists given and answered enter as the delete steps that are written.
use Prim.Native.Nat.{ℕ, zero, suc, ◌+◌, ◌-◌, ◌%◌, ◌<◌, ◌≤◌}
use mathlib.Core.Path.{◌≡◌, refl, sym, ap, ap₂, ◌∙◌, subst}
use mathlib.Core.Bool.{Bool, true, false, ◌&&◌, not, true≢false}
use mathlib.Core.List.{List, [], ◌∷◌, map}
use native.Mathlib.Nat.{le_of_suc-le-suc, not-suc-le-zero}
use native.Mathlib.Omega.{arith}
use lib.Dec.{eqb, ltb, leb}
use lib.ListN.{length, get_or, take, drop, length-drop}
use lib.Seq.{take-append_seam, drop-append_seam}
use borrow.Author.Tests.{eqb-true, eq-eqb}
use Rattle.base.specs.Choice.{pick}
use Rattle.base.specs.Bounded.{any_of, keep_of}
use Rattle.base.proofs.BelowLaws.{and_right}
use Rattle.base.proofs.MemberLaws.{or_left, or_right, or_neither, or_first, or_second}
use Rattle.drat.specs.Grammar.{step_of}
use Rattle.drat.specs.declared.Kind.TheVariants.{Delete}
use Rattle.scope.specs.Literals.{not_lit}
use Rattle.scope.specs.Table.{Table}
use Rattle.scope.specs.Notes.{Note}
use Rattle.scope.specs.Marks.{unheld}
use Rattle.scope.specs.Write.{rename_lits, holders}
use Rattle.scope.specs.Binary.{cutsb, sections_of, section_at, section_words, each_section, mirrored, stays, kept_at, deletes_at, filled_codes, kept_words}
use Rattle.scope.proofs.WriteLaws.{keep_none}
use Rattle.scope.proofs.BinaryLaws.{each_words, pair_unheld, all_held}
use Rattle.scope.proofs.BinaryAgain.{kept_from}
use Rattle.session.specs.Ledger.{Line, line, nil, cons, Enters}
use Rattle.session.specs.Entered.{sections_in, opposite, gone_lines, binary_lines}
use Rattle.session.proofs.EnterLaws.{Tell, solver_lits, enters_append}

opposite_is : (c : ℕ) → opposite c ≡ not_lit c
opposite_is c = go (c % 2) refl
  where
    go : (b : ℕ) → c % 2 ≡ b → pick (eqb b 0) (c + 1) (c - 1) ≡ not_lit c
    go zero e = omega arith
    go (suc zero) e = omega arith
    go (suc (suc b)) e = absurd (omega arith)

-- ---- the lists in words

-- those given, past 15
pub given_sections : (n k : ℕ) (ws : List ℕ) → cutsb n ws ≡ true → n ≤ k → sections_in k ws ≡ sections_of n ws
unfolding cutsb sections_of sections_in
given_sections zero k ws e h = go k ws (eqb-true (length ws) 0 e)
  where
    go : (k : ℕ) (ws : List ℕ) → length ws ≡ 0 → sections_in k ws ≡ []
    go zero ws e = refl
    go (suc k) [] e = refl
    go (suc k) (w ∷ ws) e = absurd (omega arith)
given_sections (suc n) zero ws e h = absurd (not-suc-le-zero h)
given_sections (suc n) (suc k) [] e h = absurd (true≢false (sym e))
given_sections (suc n) (suc k) (w ∷ ws) e h =
    ap (λ (ss : List (List ℕ)). take w ws ∷ ss) (given_sections n k (drop w ws) (and_right (leb w (length ws)) _ e) (le_of_suc-le-suc h))

pub given_words : (n : ℕ) (ws : List ℕ) → cutsb n ws ≡ true → n ≤ length ws
unfolding cutsb
given_words zero ws e = omega arith
given_words (suc n) [] e = absurd (true≢false (sym e))
given_words (suc n) (w ∷ ws) e =
    let a = given_words n (drop w ws) (and_right (leb w (length ws)) _ e) in
    let b = length-drop w ws in
    omega arith

-- those answered
left_sections : (t : Table) (k l : ℕ) (ss : List (List ℕ)) → length ss ≤ k
    → sections_in k (each_section (λ j es. section_words (kept_at t j es)) l ss) ≡ kept_from t l ss
unfolding each_section sections_in kept_from
left_sections t zero l [] h = refl
left_sections t (suc k) l [] h = refl
left_sections t zero l (es ∷ ss) h = absurd (not-suc-le-zero h)
left_sections t (suc k) l (es ∷ ss) h =
    let ks = kept_at t l es in
    let rest = each_section (λ j es. section_words (kept_at t j es)) (l + 1) ss in
    ap₂ (λ (a : List ℕ) (b : List ℕ). a ∷ sections_in k b) (take-append_seam ks rest) (drop-append_seam ks rest)
    ∙ ap (λ (r : List (List ℕ)). ks ∷ r) (left_sections t k (l + 1) ss (le_of_suc-le-suc h))

-- ---- what went

-- an entry is still there exactly if it passes
kept_not : (q : ℕ → Bool) (m : ℕ) (es : List ℕ) → q m ≡ false → any_of (λ x. eqb x m) (keep_of q es) ≡ false
unfolding any_of keep_of
kept_not q m [] e = refl
kept_not q m (x ∷ es) e = go (q x) refl (eqb x m) refl (kept_not q m es e)
  where
    go : (b : Bool) → q x ≡ b → (d : Bool) → eqb x m ≡ d → any_of (λ y. eqb y m) (keep_of q es) ≡ false
        → any_of (λ y. eqb y m) (pick b (x ∷ keep_of q es) (keep_of q es)) ≡ false
    go true a true c k = absurd (true≢false (sym a ∙ ap q (eqb-true x m c) ∙ e))
    go true a false c k = or_neither c k
    go false a d c k = k

kept_there : (q : ℕ → Bool) (m : ℕ) (es : List ℕ) (i : ℕ) → i < length es → get_or es i 0 ≡ m → q m ≡ true → any_of (λ x. eqb x m) (keep_of q es) ≡ true
unfolding any_of keep_of
kept_there q m [] i h g e = absurd (not-suc-le-zero h)
kept_there q m (x ∷ es) zero h g e = rw (ap q g ∙ e) (or_first (eqb x m) _ (eq-eqb x m g))
kept_there q m (x ∷ es) (suc i) h g e = go (q x) (kept_there q m es i (le_of_suc-le-suc h) g e)
  where
    go : (b : Bool) → any_of (λ y. eqb y m) (keep_of q es) ≡ true → any_of (λ y. eqb y m) (pick b (x ∷ keep_of q es) (keep_of q es)) ≡ true
    go true k = or_second (eqb x m) _ k
    go false k = k

kept_says : (q : ℕ → Bool) (es : List ℕ) (i : ℕ) → i < length es → any_of (λ x. eqb x (get_or es i 0)) (keep_of q es) ≡ q (get_or es i 0)
kept_says q es i h = go (q (get_or es i 0)) refl
  where
    go : (b : Bool) → q (get_or es i 0) ≡ b → any_of (λ x. eqb x (get_or es i 0)) (keep_of q es) ≡ b
    go true e = kept_there q (get_or es i 0) es i h refl e
    go false e = kept_not q (get_or es i 0) es e

-- tests that agree on the members keep the same
keep_agree : (p q : ℕ → Bool) (es : List ℕ) → ((i : ℕ) → i < length es → p (get_or es i 0) ≡ q (get_or es i 0)) → keep_of p es ≡ keep_of q es
unfolding keep_of
keep_agree p q [] h = refl
keep_agree p q (x ∷ es) h =
    let e = keep_agree p q es (λ i k. h (suc i) (omega arith)) in
    ap₂ (λ (b : Bool) (ys : List ℕ). pick b (x ∷ ys) ys) (h 0 (omega arith)) e

gone_same : (t : Table) (l : ℕ) (es : List ℕ)
    → keep_of (λ m. not (any_of (λ x. eqb x m) (kept_at t l es)) && ltb (opposite l) m) es ≡ keep_of (λ m. not (stays t l m) && ltb (not_lit l) m) es
unfolding kept_at
gone_same t l es = keep_agree _ _ es (λ i h.
    ap₂ (λ (a b : Bool). not a && b) (kept_says (stays t l) es i h) (ap (λ (c : ℕ). ltb c (get_or es i 0)) (opposite_is l)))

-- ---- the lines of one section, and of all

module _ (t : Table) (notes : List Note) (h : Tell notes t) where
  pairs_enter : (l : ℕ) (ms : List ℕ) → any_of (pair_unheld t l) ms ≡ false
      → Enters (map (λ m. line Delete true (not_lit l ∷ m ∷ []) notes) ms) (map (λ m. step_of Delete (rename_lits (holders t) true (not_lit l ∷ m ∷ []))) ms)
  unfolding any_of
  pairs_enter l [] e = nil
  pairs_enter l (m ∷ ms) e =
      cons (record { kind = refl; lits = solver_lits t notes h (not_lit l ∷ m ∷ []) (or_left (pair_unheld t l m) _ e) })
      (pairs_enter l ms (or_right (pair_unheld t l m) _ e))

  section_enters : (l : ℕ) (es : List ℕ) → any_of (pair_unheld t l) es ≡ false → Enters (gone_lines l es (kept_at t l es) notes) (deletes_at t l es)
  unfolding gone_lines deletes_at
  section_enters l es e =
      subst (λ (ls : List Line). Enters ls (map (λ m. step_of Delete (rename_lits (holders t) true (not_lit l ∷ m ∷ []))) gone)) same
      (pairs_enter l gone (keep_none (pair_unheld t l) _ es e))
    where
      gone : List ℕ
      gone = keep_of (λ m. not (stays t l m) && ltb (not_lit l) m) es

      same : map (λ m. line Delete true (not_lit l ∷ m ∷ []) notes) gone
          ≡ map (λ m. line Delete true (opposite l ∷ m ∷ []) notes) (keep_of (λ m. not (any_of (λ x. eqb x m) (kept_at t l es)) && ltb (opposite l) m) es)
      same = sym (ap (λ (c : ℕ). map (λ m. line Delete true (c ∷ m ∷ []) notes) gone) (opposite_is l))
          ∙ sym (ap (map (λ m. line Delete true (opposite l ∷ m ∷ []) notes)) (gone_same t l es))

  all_enter : (l : ℕ) (ss : List (List ℕ)) → ((i : ℕ) → any_of (pair_unheld t (l + i)) (section_at ss i) ≡ false)
      → Enters (binary_lines l ss (kept_from t l ss) notes) (each_section (deletes_at t) l ss)
  unfolding binary_lines each_section kept_from
  all_enter l [] e = nil
  all_enter l (es ∷ ss) e =
      enters_append (section_enters l es (subst (λ (k : ℕ). any_of (pair_unheld t k) es ≡ false) (omega arith) (e 0)))
      (all_enter (l + 1) ss (λ i. subst (λ (k : ℕ). any_of (pair_unheld t k) (section_at ss i) ≡ false) (omega arith) (e (suc i))))

-- ---- the call, past 15 and 8

module _ (t : Table) (n : ℕ) (lists : List ℕ) (m : mirrored (sections_of n lists) ≡ true) (u : unheld t true (filled_codes (sections_of n lists)) ≡ false) where
  abbrev answered : List ℕ
  answered = kept_words t (sections_of n lists)

  pub binary_enters : cutsb n lists ≡ true → (notes : List Note) → Tell notes t
      → Enters (binary_lines 0 (sections_in (length lists) lists) (sections_in (length answered) answered) notes)
      (each_section (deletes_at t) 0 (sections_of n lists))
  unfolding kept_words
  binary_enters c notes h =
      let ss = sections_of n lists in
      let k : length ss ≤ length answered = let z = each_words (kept_at t) 0 ss in omega arith in
      rw (given_sections n (length lists) lists c (given_words n lists c), left_sections t (length answered) 0 ss k)
      (all_enter t notes h 0 ss (all_held t ss m u))

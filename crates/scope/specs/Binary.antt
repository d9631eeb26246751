-- Binary clauses before the sweep (document 02, order 1; `simplify_binary` of src/binary.rs).
use Rattle.std.specs.Prelude.{ℕ, zero, suc, ◌+◌, ◌*◌, ◌/◌, Bool, true, false, ◌&&◌, ◌||◌, not, List, [], ◌∷◌, ◌++◌, map, eqb, ltb, leb, length, get_or, take, drop}
use Rattle.base.specs.Choice.{pick}
use Rattle.base.specs.Bounded.{all_below, every_of, keep_of}
use Rattle.base.specs.Answer.{accepted}
use Rattle.drat.specs.Grammar.{Step, step_of, encode}
use Rattle.drat.specs.declared.Format.{Format}
use Rattle.drat.specs.declared.Kind.TheVariants.{Delete}
use Rattle.scope.specs.Literals.{index_of, not_lit}
use Rattle.scope.specs.Table.{Table}
use Rattle.scope.specs.Sound.{soundb}
use Rattle.scope.specs.Outcome.{Outcome, unless}
use Rattle.scope.specs.Marks.{lits_held_else}
use Rattle.scope.specs.Write.{rename_lits, holders}

-- ---- the lists as words

-- The words are n times a count and as many entries, and there they end.
unfoldable pub cutsb : ℕ → List ℕ → Bool
cutsb zero ws = eqb (length ws) 0
cutsb (suc n) [] = false
cutsb (suc n) (k ∷ ws) = leb k (length ws) && cutsb n (drop k ws)

-- the entries of these sections; one that is missing has none
unfoldable pub sections_of : ℕ → List ℕ → List (List ℕ)
sections_of zero ws = []
sections_of (suc n) [] = [] ∷ sections_of n []
sections_of (suc n) (k ∷ ws) = take k ws ∷ sections_of n (drop k ws)

abbrev pub section_at : List (List ℕ) → ℕ → List ℕ
section_at ss l = get_or ss l []

-- a section in words
abbrev pub section_words : List ℕ → List ℕ
section_words es = length es ∷ es

-- what f gives of each section's literal and entries, in a row; the first section is that of l
unfoldable pub each_section : {A : Type 0} → (ℕ → List ℕ → List A) → ℕ → List (List ℕ) → List A
each_section f l [] = []
each_section f l (es ∷ ss) = f l es ++ each_section f (l + 1) ss

-- ---- mirrors

-- how often m stands in a section
unfoldable pub times : ℕ → List ℕ → ℕ
times m es = length (keep_of (λ x. eqb x m) es)

-- As often as the entry m stands in the section of l, the negation of l stands in that of the negation of m: its mirror. A code without a section has
-- none.
unfoldable pub has_mirror : List (List ℕ) → ℕ → ℕ → Bool
has_mirror ss l m = ltb m (length ss) && eqb (times m (section_at ss l)) (times (not_lit l) (section_at ss (not_lit m)))

unfoldable pub mirrored : List (List ℕ) → Bool
mirrored ss = all_below (length ss) (λ l. every_of (has_mirror ss l) (section_at ss l))

-- ---- what stays and what goes

-- the literal has no value
abbrev pub is_unknown : Table → ℕ → Bool
is_unknown t c = eqb (get_or t.assignment (index_of c) 0) 0

-- The entry m in the section of l is the clause of not l and m. It stays where neither literal has a value.
abbrev pub stays : Table → ℕ → ℕ → Bool
stays t l m = is_unknown t l && is_unknown t m

unfoldable pub kept_at : Table → ℕ → List ℕ → List ℕ
kept_at t l es = keep_of (stays t l) es

-- A clause that goes has a delete step at one of its two entries, the one where not l is the smaller code; a clause of one literal twice has none.
unfoldable pub deletes_at : Table → ℕ → List ℕ → List Step
deletes_at t l es =
    map (λ m. step_of Delete (rename_lits (holders t) true (not_lit l ∷ m ∷ [])))
    (keep_of (λ m. not (stays t l m) && ltb (not_lit l) m) es)

-- ---- the call

-- two sections for each solver index below the watermark: of its positive and of its negative literal
abbrev pub section_count : Table → ℕ
section_count t = 2 * t.counts.solver

unfoldable pub sections_for : Table → List ℕ → List (List ℕ)
sections_for t lists = sections_of (section_count t) lists

-- the codes of the sections that are not empty
unfoldable pub filled_codes : List (List ℕ) → List ℕ
filled_codes ss = each_section (λ l es. pick (eqb (length es) 0) [] (l ∷ [])) 0 ss

-- the lists after it, in words; how many entries they have; the delete steps' bytes
unfoldable pub kept_words : Table → List (List ℕ) → List ℕ
kept_words t ss = each_section (λ l es. section_words (kept_at t l es)) 0 ss

unfoldable pub kept_count : Table → List (List ℕ) → ℕ
kept_count t ss = length (each_section (kept_at t) 0 ss)

unfoldable pub delete_bytes : Format → Table → List (List ℕ) → List ℕ
delete_bytes f t ss = encode f (each_section (deletes_at t) 0 ss)

-- 1; 15 for words that are not these sections, or an entry whose mirror is not there as often; 8 for the index of a section with an entry; 2.
unfoldable pub binary_refusal : Format → Table → List ℕ → ℕ → ℕ → ℕ
binary_refusal f t lists outs room =
    let ss = sections_for t lists in
    pick (not (soundb t)) 1
    (pick (not (cutsb (section_count t) lists && mirrored ss)) 15
    (lits_held_else t true (filled_codes ss)
    (pick (ltb outs (length (kept_words t ss)) || ltb room (length (delete_bytes f t ss))) 2 0)))

-- The lists and the bytes are filled; the answer is the number of words, half the number of entries, rounded down, and the number of bytes.
unfoldable pub binary_of : Format → Table → List ℕ → ℕ → ℕ → Outcome
binary_of f t lists outs room =
    let ss = sections_for t lists in
    let ws = kept_words t ss in
    let bs = delete_bytes f t ss in
    unless (binary_refusal f t lists outs room) t
    (record {
      answer = accepted (length ws ∷ kept_count t ss / 2 ∷ length bs ∷ []);
      table = t;
      notes = [];
      words = ws;
      more = [];
      bytes = bs;
    })

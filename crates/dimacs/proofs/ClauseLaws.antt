-- Laws of the clauses that two lists hold: the lists are had back, the clauses' lines and how many bytes these take; and of the largest magnitude.
use Prim.Native.Nat.{ℕ, zero, suc, ◌+◌, ◌*◌, ◌/◌, ◌≤◌, ◌<◌}
use mathlib.Core.Path.{◌≡◌, refl, sym, ap, ◌∙◌, subst}
use mathlib.Core.Logic.{⊎_elim}
use mathlib.Core.List.{List, [], ◌∷◌, ◌++◌}
use mathlib.Core.Bool.{Bool, true, false}
use native.Mathlib.Omega.{arith}
use lib.Dec.{ltb}
use lib.ListN.{length, get_or, drop, replicate, length-append, length-replicate, drop_of_length-le}
use lib.Seq.{sets}
use borrow.Author.Tests.{ltb-true, ltb-false}
use Rattle.base.specs.Choice.{pick}
use Rattle.base.proofs.Truth.{same}
use Rattle.base.proofs.SetsLaws.{sets_append}
use Rattle.drat.specs.Grammar.{Step, step_of, numbers, encode_step, encode, Codes}
use Rattle.drat.specs.Writing.{part}
use Rattle.drat.specs.Filled.{codes_of, ends_from}
use Rattle.drat.specs.Listed.{listed, rises_to}
use Rattle.drat.specs.declared.Kind.TheVariants.{Add}
use Rattle.drat.specs.declared.Format.TheVariants.{Text}
use Rattle.drat.proofs.Steps.{next}
use Rattle.drat.proofs.ListedLaws.{listed_codes, listed_ends, frames, listed_length}
use Rattle.dimacs.specs.Cnf.{magnitude, largest, clause_line, clause_lines}
use Rattle.dimacs.specs.Calls.{clauses_by, adds, all_codes, all_ends}

-- ---- the clauses as steps of a proof, all of them adds

-- a 0 for each end: the kinds of adds
abbrev noughts : List ℕ → List ℕ
noughts es = replicate (length es) 0

noughts_paired : (es : List ℕ) → length es ≡ length (noughts es)
noughts_paired es = sym (length-replicate (length es) 0)

pub adds_listed : (codes : List ℕ) (n : ℕ) (es : List ℕ) → adds (clauses_by codes n es) ≡ listed codes n es (replicate (length es) 0)
unfolding adds clauses_by listed
adds_listed codes n [] = refl
adds_listed codes n (e ∷ es) = ap (λ (ss : List Step). step_of Add (part n e codes) ∷ ss) (adds_listed codes e es)

pub step_line : (cs : List ℕ) → encode_step Text (step_of Add cs) ≡ clause_line cs
unfolding encode_step
step_line cs = refl

pub lines_encode : (cls : List (List ℕ)) → clause_lines cls ≡ encode Text (adds cls)
unfolding clause_lines encode encode_step adds
lines_encode [] = refl
lines_encode (cs ∷ cls) = ap (λ (l : List ℕ). clause_line cs ++ l) (lines_encode cls)

pub clauses_count : (codes : List ℕ) (n : ℕ) (es : List ℕ) → length (clauses_by codes n es) ≡ length es
unfolding clauses_by
clauses_count codes n [] = refl
clauses_count codes n (e ∷ es) = ap suc (clauses_count codes e es)

frames_noughts : (n : ℕ) → frames Text (replicate n 0) ≡ 2 * n
unfolding frames
frames_noughts zero = refl
frames_noughts (suc n) = omega (arith, frames_noughts n)

-- ends that lead through all codes: the clauses hold the codes and the ends, and their lines are the numbers and two bytes each
module _ (codes es : List ℕ) (h : rises_to (length codes) 0 es ≡ true) where
  pub codes_back : all_codes (clauses_by codes 0 es) ≡ codes
  codes_back = ap codes_of (adds_listed codes 0 es) ∙ listed_codes codes 0 es (noughts es) (noughts_paired es) h

  pub ends_back : all_ends (clauses_by codes 0 es) ≡ es
  ends_back = ap (ends_from 0) (adds_listed codes 0 es) ∙ listed_ends codes 0 es (noughts es) (noughts_paired es) h

  pub lines_length : length (clause_lines (clauses_by codes 0 es)) ≡ length (numbers Text codes) + 2 * length es
  lines_length =
      ap length (lines_encode (clauses_by codes 0 es)) ∙ ap (λ (ss : List Step). length (encode Text ss)) (adds_listed codes 0 es)
      ∙ listed_length Text codes 0 es (noughts es) (noughts_paired es) h
      ∙ ap (λ (n : ℕ). length (numbers Text codes) + n) (frames_noughts (length es))

-- ---- one line more

module _ (codes : List ℕ) (n : ℕ) (es : List ℕ) (i : ℕ) where
  pub lines_done : length es ≤ i → clause_lines (clauses_by codes n (drop i es)) ≡ []
  unfolding clause_lines clauses_by
  lines_done h = ap (λ (l : List ℕ). clause_lines (clauses_by codes n l)) (drop_of_length-le es h)

  module _ (h : i < length es) where
    abbrev this : List ℕ
    this = encode_step Text (step_of Add (part n (get_or es i 0) codes))

    abbrev rest : List ℕ
    rest = clause_lines (clauses_by codes (get_or es i 0) (drop (i + 1) es))

    lines_next : clause_lines (clauses_by codes n (drop i es)) ≡ this ++ rest
    unfolding clause_lines clauses_by encode_step
    lines_next = ap (λ (l : List ℕ). clause_lines (clauses_by codes n l)) (next es i h)

    pub lines_step : length (clause_lines (clauses_by codes n (drop i es))) ≡ length this + length rest
    lines_step = ap length lines_next ∙ length-append this rest

    pub lines_sets : (o : List ℕ) (p : ℕ) → sets (sets o p this) (p + length this) rest ≡ sets o p (clause_lines (clauses_by codes n (drop i es)))
    lines_sets o p = sym (ap (sets o p) lines_next ∙ sets_append this rest o p)

-- ---- the largest magnitude

-- the larger of two numbers is at least each of them, and at most what both are
larger_least : (a b : ℕ) → (a ≤ pick (ltb a b) b a) × (b ≤ pick (ltb a b) b a)
larger_least a b = go (ltb a b) refl
  where
    go : (t : Bool) → ltb a b ≡ t → (a ≤ pick t b a) × (b ≤ pick t b a)
    go true e = (omega (arith, ltb-true a b e), omega arith)
    go false e = (omega arith, omega (arith, ltb-false a b e))

larger_most : (a b n : ℕ) → a ≤ n → b ≤ n → pick (ltb a b) b a ≤ n
larger_most a b n h k = go (ltb a b)
  where
    go : (t : Bool) → pick t b a ≤ n
    go true = k
    go false = h

-- no magnitude is above the largest, and it is at most what bounds all
pub largest_at : (cs : List ℕ) (i : ℕ) → i < length cs → magnitude (get_or cs i 0) ≤ largest cs
unfolding largest
largest_at [] i h = absurd (omega arith)
largest_at (c ∷ cs) zero h = (larger_least (largest cs) (magnitude c)).1
largest_at (c ∷ cs) (suc i) h = omega (arith, largest_at cs i (omega arith), (larger_least (largest cs) (magnitude c)).0)

pub largest_most : (cs : List ℕ) (n : ℕ) → ((i : ℕ) → i < length cs → magnitude (get_or cs i 0) ≤ n) → largest cs ≤ n
unfolding largest
largest_most [] n h = omega arith
largest_most (c ∷ cs) n h = larger_most (largest cs) (magnitude c) n (largest_most cs n (λ i l. h (suc i) (omega arith))) (h 0 (omega arith))

pub largest_le : (cs : List ℕ) → Codes cs → largest cs ≤ 4096
largest_le cs h = largest_most cs 4096 (λ i l. omega (arith, h i l))

-- half of m is at least every magnitude before place i: so is half of r up to place i, where r is at least m and the code there + 2
pub magnitudes_turn : (cs : List ℕ) (m r i : ℕ) → m ≤ r → get_or cs i 0 + 2 ≤ r → ((j : ℕ) → j < i → magnitude (get_or cs j 0) ≤ m / 2)
    → (j : ℕ) → j < i + 1 → magnitude (get_or cs j 0) ≤ r / 2
magnitudes_turn cs m r i h k f j l =
    ⊎_elim
    (λ (q : j ≡ i). subst (λ (x : ℕ). magnitude (get_or cs x 0) ≤ r / 2) (sym q) (omega arith))
    (λ (q : j ≡ i → ⊥). omega (arith, f j (omega arith)))
    (same j i)

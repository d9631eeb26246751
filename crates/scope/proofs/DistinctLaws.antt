-- Laws of the counts of distinct users: each grows by one where a literal has a user that passes and that no earlier literal has. So they are equal.
use Prim.Native.Nat.{ℕ, zero, suc, ◌+◌, ◌≤◌, ◌<◌, max}
use mathlib.Core.Path.{◌≡◌, refl, sym, ap, ◌∙◌}
use mathlib.Core.Bool.{Bool, true, false, ◌&&◌, ◌||◌, not, true≢false}
use mathlib.Core.List.{List, [], ◌∷◌, ◌++◌}
use native.Mathlib.Numerals.{add-one}
use native.Mathlib.Omega.{arith}
use lib.Dec.{eqb}
use lib.ListN.{length, get_or, take, length-take}
use lib.Seq.{take-suc, take_all, get_or-take}
use borrow.Author.Tests.{eq-eqb, ne_eqb}
use Rattle.base.specs.Choice.{pick}
use Rattle.base.specs.Bounded.{count}
use Rattle.base.proofs.CountLaws.{count_most, count_never}
use Rattle.base.proofs.MemberLaws.{any_start, any_more, any_some, or_neither}
use Rattle.scope.specs.Literals.{index_of}
use Rattle.scope.proofs.WantedLaws.{count_either, count_point}
use Rattle.scope.specs.Distinct.{named, count_named, is_first, plain_count, top_of, Within}

-- ---- the users named by a prefix

pub named_start : (lits : List ℕ) (v : ℕ) → named (take 0 lits) v ≡ false
named_start lits v = any_start (λ c. eqb (index_of c) v) lits

pub named_more : (lits : List ℕ) (i v : ℕ) → i < length lits → named (take (i + 1) lits) v ≡ named (take i lits) v || eqb (index_of (get_or lits i 0)) v
named_more lits i v l = any_more (λ c. eqb (index_of c) v) lits i 0 l

-- a loop that looks for v among the first i literals: one that names it, and one that does not
pub named_hit : (lits : List ℕ) (i j v : ℕ) → j < i → i ≤ length lits → index_of (get_or lits j 0) ≡ v → named (take i lits) v ≡ true
named_hit lits i j v k l e =
    any_some (λ c. eqb (index_of c) v) (take i lits) j 0 (omega (arith, length-take i lits))
    (ap (λ (c : ℕ). eqb (index_of c) v) (get_or-take i lits j 0 k) ∙ eq-eqb _ v e)

pub named_miss : (lits : List ℕ) (j v : ℕ) → j < length lits → named (take j lits) v ≡ false → (index_of (get_or lits j 0) ≡ v → ⊥)
    → named (take (j + 1) lits) v ≡ false
named_miss lits j v l e n = named_more lits j v l ∙ or_neither e (ne_eqb _ v n)

pub named_none : (lits : List ℕ) (i j v : ℕ) → j ≤ i → i ≤ j → named (take j lits) v ≡ false → false ≡ named (take i lits) v
named_none lits i j v k l e =
    let q : j ≡ i = omega arith in
    sym (ap (λ (n : ℕ). named (take n lits) v) (sym q) ∙ e)

-- ---- by the users

named_or : (N E p : Bool) → (N || E) && p ≡ (N && p) || (E && (not N && p))
named_or true true true = refl
named_or true true false = refl
named_or true false true = refl
named_or true false false = refl
named_or false true p = refl
named_or false false p = refl

named_apart : (N E p : Bool) → N && p ≡ true → E && (not N && p) ≡ false
named_apart true true p e = refl
named_apart true false p e = refl
named_apart false E p e = absurd (true≢false (sym e))

pub named_count_start : (lits : List ℕ) (p : ℕ → Bool) → count_named 4096 p (take 0 lits) ≡ 0
unfolding count_named
named_count_start lits p = count_never 4096 (λ v. named (take 0 lits) v && p v) (λ v. rw (named_start lits v))

pub named_count_more : (lits : List ℕ) (i : ℕ) (p : ℕ → Bool) → i < length lits → index_of (get_or lits i 0) < 4096
    → count_named 4096 p (take (i + 1) lits) ≡ count_named 4096 p (take i lits) + pick (is_first p lits i) 1 0
unfolding count_named is_first
named_count_more lits i p l h =
    let u = index_of (get_or lits i 0) in
    let a =
    count_either 4096 (λ v. named (take i lits) v && p v) (λ v. eqb u v && (not (named (take i lits) v) && p v)) (λ v. named (take (i + 1) lits) v && p v)
    (λ v. rw (named_more lits i v l) (named_or (named (take i lits) v) (eqb u v) (p v)))
    (λ v e. named_apart (named (take i lits) v) (eqb u v) (p v) e) in
    let b = count_point 4096 u (λ v. not (named (take i lits) v) && p v) h in
    omega arith

pub named_most : (n : ℕ) (p : ℕ → Bool) (lits : List ℕ) → count_named n p lits ≤ n
unfolding count_named
named_most n p lits = count_most n (λ v. named lits v && p v)

-- ---- by the literals

one_more : (b : Bool) (n : ℕ) → pick b (suc n) n ≡ n + pick b 1 0
one_more true n = omega arith
one_more false n = omega arith

pub first_count_more : (lits : List ℕ) (i : ℕ) (p : ℕ → Bool) → count (i + 1) (is_first p lits) ≡ count i (is_first p lits) + pick (is_first p lits i) 1 0
unfolding count
first_count_more lits i p = rw add-one (one_more (is_first p lits i) (count i (is_first p lits)))

-- the first n literals count as the users that they name
prefix_count : (p : ℕ → Bool) (lits : List ℕ) (n : ℕ) → n ≤ length lits → Within lits 4096 → count n (is_first p lits) ≡ count_named 4096 p (take n lits)
unfolding count
prefix_count p lits zero l w = sym (named_count_start lits p)
prefix_count p lits (suc n) l w =
    one_more (is_first p lits n) (count n (is_first p lits))
    ∙ ap (λ (m : ℕ). m + pick (is_first p lits n) 1 0) (prefix_count p lits n (omega arith) w)
    ∙ sym (named_count_more lits n p l (w.at n l))
    ∙ ap (λ (m : ℕ). count_named 4096 p (take m lits)) (add-one n)

-- The plain count is the count of distinct users.
pub plain_count_lem : (p : ℕ → Bool) (lits : List ℕ) → Within lits 4096 → plain_count p lits ≡ count_named 4096 p lits
unfolding plain_count
plain_count_lem p lits w = prefix_count p lits (length lits) (omega arith) w ∙ ap (count_named 4096 p) (take_all (length lits) lits (omega arith))

-- ---- the watermark after

top_append : (mark : ℕ) (xs : List ℕ) (c : ℕ) → top_of mark (xs ++ (c ∷ [])) ≡ max (top_of mark xs) (index_of c + 1)
unfolding top_of
top_append mark [] c = refl
top_append mark (x ∷ xs) c = let e = top_append mark xs c in omega arith

pub top_more : (mark : ℕ) (lits : List ℕ) (i : ℕ) → i < length lits
    → top_of mark (take (i + 1) lits) ≡ max (top_of mark (take i lits)) (index_of (get_or lits i 0) + 1)
top_more mark lits i l = rw (add-one, take-suc lits i 0 l) (top_append mark (take i lits) (get_or lits i 0))

pub top_start : (mark : ℕ) (lits : List ℕ) → mark ≡ top_of mark (take 0 lits)
unfolding top_of
top_start mark [] = refl
top_start mark (c ∷ cs) = refl

pub top_low : (mark : ℕ) (lits : List ℕ) → mark ≤ top_of mark lits
unfolding top_of
top_low mark [] = omega arith
top_low mark (c ∷ cs) = let e = top_low mark cs in omega arith

pub top_over : (mark : ℕ) (lits : List ℕ) (i : ℕ) → i < length lits → index_of (get_or lits i 0) < top_of mark lits
unfolding top_of
top_over mark [] i l = absurd (omega arith)
top_over mark (c ∷ cs) zero l = omega arith
top_over mark (c ∷ cs) (suc i) l = let e = top_over mark cs i (omega arith) in omega arith

pub top_tight : (mark : ℕ) (lits : List ℕ) (n : ℕ) → mark ≤ n → ((i : ℕ) → i < length lits → index_of (get_or lits i 0) < n) → top_of mark lits ≤ n
unfolding top_of
top_tight mark [] n l h = l
top_tight mark (c ∷ cs) n l h = let a = h 0 (omega arith) in let e = top_tight mark cs n l (λ i k. h (suc i) (omega arith)) in omega arith

-- Laws by which the loops of src/ are the tests of crates/scope/specs/Sound.antt. A loop gathers `all_below i p`; where the tails
-- are as they should be, p holds at or above the mark, so that the loop can stop there.
use Rattle.std.specs.Prelude.{Result, Ok, Err}
use Prim.Native.Nat.{ℕ, zero, suc, ◌+◌, ◌-◌, ◌≤◌, ◌<◌}
use mathlib.Core.Path.{◌≡◌, refl, sym, ap, ap₂, ◌∙◌}
use mathlib.Core.Bool.{Bool, true, false, ◌&&◌, ◌||◌, not, true≢false}
use mathlib.Core.Logic.{⊎_elim}
use mathlib.Core.List.{List}
use native.Mathlib.Nat.{eq-or-lt_of_le, add-zero}
use native.Mathlib.Numerals.{add-one}
use native.Mathlib.Omega.{arith}
use mir.Val.{bool_byte}
use lib.Dec.{eqb, ltb, leb}
use lib.ListN.{length, get_or, take}
use lib.Seq.{take_all}
use borrow.Author.Tests.{lt-ltb, le-ltb, le-leb, leb-true, eq-eqb, ne_eqb, not-true}
use Rattle.base.specs.Choice.{pick}
use Rattle.base.specs.Bounded.{all_below, count, any_of}
use Rattle.base.proofs.CountLaws.{count_past, count_same}
use Rattle.base.proofs.BelowLaws.{all_at, all_intro, and_true}
use Rattle.base.proofs.Truth.{and_iff}
use Rattle.base.proofs.MemberLaws.{get_d_default, any_more}
use Rattle.scope.specs.Table.{Table, is_shown, is_undeleted, least_free, next_solver, undeleted}
use Rattle.scope.specs.Sound.{sizesb, marksb, at_mostb, tailb, backb, namedb, deletedb, tailsb, pairsb, listsb, storedb, soundb}
use Rattle.scope.specs.Cursor.{AllMapped}
use Rattle.scope.proofs.SoundLaws.{tail_of}
use Rattle.scope.proofs.PairLaws.{free_most, free_before, free_word}
use Rattle.scope.proofs.CursorLaws.{free_found, free_end}
use Rattle.scope.specs.declared.Refusal.{Refusal}
use Rattle.scope.specs.declared.Refusal.TheVariants.{Unsound}
use Rattle.scope.proofs.RefusedLaws.{ok_err, same_err}
use Rattle.table.specs.Checks.{is_filled, rowb}
use Rattle.table.specs.Lists.{tested}
use Rattle.table.proofs.PairCounts.{back_has, back_low, pair_counts}

-- a test that a branch found true, or not
pub yes_of : {b x : Bool} → b ≡ x → b ≡ true → x ≡ true
yes_of {b} e n = sym e ∙ n

pub no_of : {b x : Bool} → b ≡ x → b ≡ false → x ≡ false
no_of {b} e n = sym e ∙ n

false_is : (x : Bool) → (x ≡ true → ⊥) → false ≡ x
false_is true h = absurd (h refl)
false_is false h = refl

-- ---- all_below

pub all_start : (p : ℕ → Bool) → true ≡ all_below 0 p
unfolding all_below
all_start p = refl

pub all_step : (n : ℕ) (p : ℕ → Bool) (ok b : Bool) → ok ≡ all_below n p → b ≡ p n → (ok && b) ≡ all_below (n + 1) p
unfolding all_below
all_step n p ok b e h = rw (add-one, e, h) refl

-- tests that agree below n
pub all_same : (n : ℕ) (p q : ℕ → Bool) → ((i : ℕ) → i < n → p i ≡ q i) → all_below n p ≡ all_below n q
unfolding all_below
all_same zero p q h = refl
all_same (suc n) p q h = rw (all_same n p q (λ i l. h i (omega arith)), h n (omega arith))

-- a test that holds from the mark up is done at the mark
pub all_mark : (n mark : ℕ) (p : ℕ → Bool) → mark ≤ n → ((i : ℕ) → mark ≤ i → p i ≡ true) → all_below mark p ≡ all_below n p
unfolding all_below
all_mark zero mark p l h =
    let e : mark ≡ zero = omega arith in
    ap (λ (k : ℕ). all_below k p) e
all_mark (suc n) mark p l h = ⊎_elim
    (λ (e : mark ≡ suc n). ap (λ (k : ℕ). all_below k p) e)
    (λ (e : mark < suc n). all_mark n mark p (omega arith) h ∙ sym (and_true (all_below n p)) ∙ ap (λ (b : Bool). all_below n p && b) (sym (h n (omega arith))))
    (eq-or-lt_of_le l)

and_swap : (a b c d : Bool) → a && b && (c && d) ≡ a && c && (b && d)
and_swap false b c d = refl
and_swap true true true d = refl
and_swap true true false d = refl
and_swap true false true d = refl
and_swap true false false d = refl

-- two tests in one pass
pub all_and : (n : ℕ) (p q : ℕ → Bool) → all_below n (λ i. p i && q i) ≡ all_below n p && all_below n q
unfolding all_below
all_and zero p q = refl
all_and (suc n) p q = ap (λ (b : Bool). b && (p n && q n)) (all_and n p q) ∙ and_swap (all_below n p) (all_below n q) (p n) (q n)

-- ---- any_of, gathered by a loop

pub any_on : (p : ℕ → Bool) (lits : List ℕ) (i : ℕ) (b : Bool) → i < length lits → b ≡ any_of p (take i lits)
    → b || p (get_or lits i 0) ≡ any_of p (take (i + 1) lits)
any_on p lits i b l e = ap (λ (x : Bool). x || p (get_or lits i 0)) e ∙ sym (any_more p lits i 0 l)

pub any_all : (p : ℕ → Bool) (lits : List ℕ) (i : ℕ) (b : Bool) → length lits ≤ i → b ≡ any_of p (take i lits) → b ≡ any_of p lits
any_all p lits i b l e = e ∙ ap (any_of p) (take_all i lits l)

-- ---- the tail of a list

unfoldable pub tail_at : ℕ → ℕ → List ℕ → ℕ → Bool
tail_at mark blank xs i = ltb i mark || eqb (get_or xs i blank) blank

pub tail_start : (mark blank : ℕ) (xs : List ℕ) → true ≡ all_below mark (tail_at mark blank xs)
unfolding tail_at
tail_start mark blank xs = sym (all_intro mark (tail_at mark blank xs) (λ i l. rw (lt-ltb i mark l) refl))

pub tail_step : (mark blank : ℕ) (xs : List ℕ) (i : ℕ) (ok : Bool) → mark ≤ i → i < length xs → ok ≡ all_below i (tail_at mark blank xs)
    → (ok && eqb (get_or xs i 0) blank) ≡ all_below (i + 1) (tail_at mark blank xs)
unfolding tail_at
tail_step mark blank xs i ok l m e =
    all_step i (tail_at mark blank xs) ok _ e (rw (le-ltb i mark l, get_d_default xs i 0 blank m) refl)

pub tail_end : (mark blank : ℕ) (xs : List ℕ) (i : ℕ) (ok : Bool) → ok ≡ all_below i (tail_at mark blank xs) → i ≡ length xs → ok ≡ tailb mark blank xs
unfolding tailb tail_at
tail_end mark blank xs i ok e q = e ∙ ap (λ (k : ℕ). all_below k (tail_at mark blank xs)) q

-- two lists, word by word
pub two_step : (mark : ℕ) (xs ys : List ℕ) (i : ℕ) (ok : Bool) → mark ≤ i → i < length xs → length ys ≡ length xs
    → ok ≡ (all_below i (tail_at mark 0 xs) && all_below i (tail_at mark 0 ys))
    → (ok && (eqb (get_or xs i 0) 0 && eqb (get_or ys i 0) 0)) ≡ (all_below (i + 1) (tail_at mark 0 xs) && all_below (i + 1) (tail_at mark 0 ys))
two_step mark xs ys i ok l m q e =
    ap (λ (b : Bool). b && (eqb (get_or xs i 0) 0 && eqb (get_or ys i 0) 0)) e
    ∙ turned (all_below i (tail_at mark 0 xs)) (all_below i (tail_at mark 0 ys)) (eqb (get_or xs i 0) 0) (eqb (get_or ys i 0) 0)
    ∙ ap₂ ◌&&◌ (tail_step mark 0 xs i _ l m refl) (tail_step mark 0 ys i _ l (omega arith) refl)
  where
    turned : (a b x y : Bool) → ((a && b) && (x && y)) ≡ ((a && x) && (b && y))
    turned true true x y = refl
    turned true false true y = refl
    turned true false false y = refl
    turned false b x y = refl

pub two_end : (mark : ℕ) (xs ys : List ℕ) (i : ℕ) (ok : Bool) → ok ≡ (all_below i (tail_at mark 0 xs) && all_below i (tail_at mark 0 ys))
    → i ≡ length xs → length ys ≡ length xs → ok ≡ (tailb mark 0 xs && tailb mark 0 ys)
two_end mark xs ys i ok e q k = e ∙ ap₂ ◌&&◌ (tail_end mark 0 xs i _ refl q) (tail_end mark 0 ys i _ refl (omega arith))

-- the six tests, of which two are of two lists
pub tails_by : (t : Table) (a b d e : Bool) → a ≡ tailb t.counts.user 0 t.global_from_user
    → b ≡ (tailb t.counts.global 0 t.user_from_global && tailb t.counts.global 0 t.solver_from_global)
    → d ≡ (tailb t.counts.solver 0 t.global_from_solver && tailb t.counts.solver 0 t.assignment)
    → e ≡ tailb t.counts.global 47 t.records → (a && b && d && e) ≡ tailsb t
unfolding tailsb
tails_by t a b d e p q r s =
    ap₂ ◌&&◌ (ap₂ ◌&&◌ (ap₂ ◌&&◌ p q) r) s
    ∙ turned (tailb t.counts.user 0 t.global_from_user)
    (tailb t.counts.global 0 t.user_from_global)
    (tailb t.counts.global 0 t.solver_from_global)
    (tailb t.counts.solver 0 t.global_from_solver)
    (tailb t.counts.solver 0 t.assignment)
    (tailb t.counts.global 47 t.records)
  where
    turned : (u g k x y z : Bool) → (u && (g && k) && (x && y) && z) ≡ (u && g && k && x && y && z)
    turned true true true true y z = refl
    turned true true true false y z = refl
    turned true true false x y z = refl
    turned true false k x y z = refl
    turned false g k x y z = refl

-- ---- every word at most m

abbrev pub most_at : ℕ → List ℕ → ℕ → Bool
most_at m xs i = leb (get_or xs i 0) m

pub most_end : (m mark : ℕ) (xs : List ℕ) (i : ℕ) (ok : Bool) → mark ≤ length xs → tailb mark 0 xs ≡ true
    → ok ≡ all_below i (most_at m xs) → i ≡ mark → ok ≡ at_mostb m xs
unfolding at_mostb
most_end m mark xs i ok l h e q =
    e ∙ ap (λ (k : ℕ). all_below k (most_at m xs)) q
    ∙ all_mark (length xs) mark (most_at m xs) l (λ j k. rw (tail_of mark 0 xs h j k) (le-leb 0 m (omega arith)))

pub most_has : (m : ℕ) (xs : List ℕ) (b : Bool) → b ≡ at_mostb m xs → b ≡ true → (i : ℕ) → i < length xs → get_or xs i 0 ≤ m
unfolding at_mostb
most_has m xs b e n i l = leb-true _ _ (all_at (length xs) (most_at m xs) (yes_of e n) i l)

-- ---- one map and the other

abbrev pub back_at : List ℕ → List ℕ → ℕ → Bool
back_at a b i = eqb (get_or a i 0) 0 || eqb (get_or b (get_or a i 0 - 1) 0) (i + 1)

-- a word of the first map that is past the end of the second is not taken back
pub back_past : (a b : List ℕ) (ok : Bool) → ok ≡ at_mostb (length b) a → ok ≡ false → false ≡ backb a b
unfolding at_mostb
back_past a b ok e n =
    false_is (backb a b) (λ h. true≢false (sym (all_intro (length a) (most_at (length b) a) (λ i l. le-leb _ _ (back_low a b (back_has a b h) i))) ∙ no_of e n))

pub back_step : (a b : List ℕ) (i x y : ℕ) (ok : Bool) → ok ≡ all_below i (back_at a b) → x ≡ get_or a i 0 → y ≡ x - 1
    → (ok && (eqb x 0 || eqb (get_or b y 0) (i + 1))) ≡ all_below (i + 1) (back_at a b)
back_step a b i x y ok e p q = all_step i (back_at a b) ok _ e (rw (q, p))

pub back_end : (a b : List ℕ) (mark i : ℕ) (ok : Bool) → mark ≤ length a → tailb mark 0 a ≡ true → ok ≡ all_below i (back_at a b) → i ≡ mark → ok ≡ backb a b
unfolding backb
back_end a b mark i ok l h e q =
    e ∙ ap (λ (k : ℕ). all_below k (back_at a b)) q
    ∙ all_mark (length a) mark (back_at a b) l (λ j k. rw (tail_of mark 0 a h j k) refl)

pub no_pair : (a b : List ℕ) (ok : Bool) → ok ≡ backb a b → ok ≡ false → false ≡ backb a b && backb b a
no_pair a b ok e n = rw (no_of e n)

pub pair_is : (a b : List ℕ) (ok : Bool) (x y : ℕ) → ok ≡ backb a b → ok ≡ true → x ≡ count (length a) (is_filled a) → y ≡ count (length b) (is_filled b)
    → eqb x y ≡ backb a b && backb b a
pair_is a b ok x y e n p q =
    let k : backb a b ≡ true = yes_of e n in
    rw (p, q, k) (pair_counts a b k)

-- ---- how many words are not 0, and how many globals undeleted

-- a truth value as a number
pub byte_most : (x : ℕ) (b : Bool) → x ≡ bool_byte b → x ≤ 1
byte_most x true e = rw e (omega arith)
byte_most x false e = rw e (omega arith)

pub byte_pick : (x : ℕ) (b : Bool) → x ≡ bool_byte b → (q : Bool) → b ≡ q → x ≡ pick q 1 0
byte_pick x true e q h = e ∙ ap (λ (b : Bool). pick b 1 0) h
byte_pick x false e q h = e ∙ ap (λ (b : Bool). pick b 1 0) h

pub tally_step : (p : ℕ → Bool) (i k x : ℕ) → k ≡ count i p → x ≡ pick (p i) 1 0 → k + x ≡ count (i + 1) p
unfolding count
tally_step p i k x e h = rw (add-one, e, h) (go (p i) (count i p))
  where
    go : (b : Bool) (n : ℕ) → n + pick b 1 0 ≡ pick b (suc n) n
    go true n = add-one n
    go false n = add-zero n

pub filled_all : (xs : List ℕ) (mark k : ℕ) → mark ≤ length xs → tailb mark 0 xs ≡ true → k ≡ count mark (is_filled xs) → k ≡ count (length xs) (is_filled xs)
filled_all xs mark k l h e = e ∙ sym (count_past (is_filled xs) mark (length xs) l (λ j m. rw (tail_of mark 0 xs h j m) refl))

pub undeleted_all : (records : List ℕ) (mark k : ℕ) → mark ≤ length records → tailb mark 47 records ≡ true
    → k ≡ count mark (λ i. ltb (get_or records i 0) 36) → k ≡ count (length records) (is_undeleted records)
undeleted_all records mark k l h e =
    e ∙ count_same mark (λ i. ltb (get_or records i 0) 36) (is_undeleted records)
    (λ i m. ap (λ (w : ℕ). ltb w 36) (get_d_default records i 0 47 (omega arith)))
    ∙ sym (count_past (is_undeleted records) mark (length records) l (λ j m. rw (tail_of mark 47 records h j m) refl))

-- ---- the least free index, tested

-- it is not above the mark
pub next_past : (xs : List ℕ) (mark next : ℕ) → mark < next → false ≡ eqb next (least_free xs mark)
next_past xs mark next l = sym (ne_eqb _ _ (λ (e : next ≡ least_free xs mark). let m = free_most xs mark in omega arith))

-- below it all is filled
pub next_gap : (xs : List ℕ) (mark next : ℕ) (ok : Bool) → ok ≡ all_below next (is_filled xs) → ok ≡ false → false ≡ eqb next (least_free xs mark)
next_gap xs mark next ok e n =
    sym (ne_eqb _ _ (λ (q : next ≡ least_free xs mark). true≢false
    (sym (all_intro next (is_filled xs) (λ i l. ap not (ne_eqb _ 0 (free_before xs mark i (omega arith))))) ∙ no_of e n)))

next_cursor : (xs : List ℕ) (mark next : ℕ) (ok : Bool) → next ≤ mark → ok ≡ all_below next (is_filled xs) → ok ≡ true → AllMapped xs mark next
next_cursor xs mark next ok l e n =
    record { within = l; below = λ k m. not-true _ (all_at next (is_filled xs) (yes_of e n) k m) }

-- and it is the mark, or free
pub next_mark : (xs : List ℕ) (mark next : ℕ) (ok : Bool) → next ≤ mark → ok ≡ all_below next (is_filled xs) → ok ≡ true → next ≡ mark
    → true ≡ eqb next (least_free xs mark)
next_mark xs mark next ok l e n q = sym (eq-eqb _ _ (free_end xs mark next (next_cursor xs mark next ok l e n) (omega arith)))

pub next_here : (xs : List ℕ) (mark next : ℕ) (ok : Bool) → next ≤ mark → ok ≡ all_below next (is_filled xs) → ok ≡ true → (next ≡ mark → ⊥)
    → (b : Bool) → (b ≡ true → get_or xs next 0 ≡ 0) → (get_or xs next 0 ≡ 0 → b ≡ true) → b ≡ eqb next (least_free xs mark)
next_here xs mark next ok l e n q b to from = go b refl
  where
    h : AllMapped xs mark next
    h = next_cursor xs mark next ok l e n

    go : (t : Bool) → b ≡ t → t ≡ eqb next (least_free xs mark)
    go true z = sym (eq-eqb _ _ (free_found xs mark next h (to z)))
    go false z = sym (ne_eqb _ _ (λ (w : next ≡ least_free xs mark). true≢false (sym (from (free_word xs mark next w (omega arith))) ∙ z)))

-- ---- the rows of the globals

abbrev pub row_at : List ℕ → List ℕ → List ℕ → ℕ → Bool
row_at records users solvers g = rowb (get_or records g 47) (get_or users g 0) (get_or solvers g 0)

pub row_step : (records users solvers : List ℕ) (i : ℕ) (ok b : Bool) → ok ≡ all_below i (row_at records users solvers)
    → b ≡ rowb (get_or records i 0) (get_or users i 0) (get_or solvers i 0) → i < length records → (ok && b) ≡ all_below (i + 1) (row_at records users solvers)
row_step records users solvers i ok b e h l =
    all_step i (row_at records users solvers) ok b e (h ∙ ap (λ (r : ℕ). rowb r (get_or users i 0) (get_or solvers i 0)) (get_d_default records i 0 47 l))

rows_split : (records users solvers : List ℕ)
    → all_below (length records) (row_at records users solvers) ≡ at_mostb 71 records && namedb records users && deletedb records solvers
unfolding rowb at_mostb namedb deletedb
rows_split records users solvers =
    all_and (length records) _ _
    ∙ ap (λ (b : Bool). b && deletedb records solvers)
    (all_and (length records) _ _
    ∙ ap (λ (b : Bool). b && namedb records users) (all_same (length records) _ _ (λ i l. ap (λ (r : ℕ). leb r 71) (get_d_default records i 47 0 l))))

pub rows_end : (records users solvers : List ℕ) (mark i : ℕ) (ok : Bool) → mark ≤ length records
    → tailb mark 47 records ≡ true → tailb mark 0 users ≡ true → tailb mark 0 solvers ≡ true
    → ok ≡ all_below i (row_at records users solvers) → i ≡ mark
    → ok ≡ at_mostb 71 records && namedb records users && deletedb records solvers
unfolding rowb is_shown
rows_end records users solvers mark i ok l h hu hs e q =
    e ∙ ap (λ (k : ℕ). all_below k (row_at records users solvers)) q
    ∙ all_mark (length records) mark (row_at records users solvers) l
    (λ j k. rw (tail_of mark 47 records h j k, tail_of mark 0 users hu j k, tail_of mark 0 solvers hs j k) refl)
    ∙ rows_split records users solvers

-- ---- the table

pub record Tails (t : Table) : Type 0 where
  pub gu : tailb t.counts.user 0 t.global_from_user ≡ true
  pub ug : tailb t.counts.global 0 t.user_from_global ≡ true
  pub sg : tailb t.counts.global 0 t.solver_from_global ≡ true
  pub gs : tailb t.counts.solver 0 t.global_from_solver ≡ true
  pub assignment : tailb t.counts.solver 0 t.assignment ≡ true
  pub records : tailb t.counts.global 47 t.records ≡ true

pub tails_is : (t : Table) → tailsb t ≡ true → Tails t
unfolding tailsb
tails_is t h = let k = simp and_iff at h in search

pub no_sizes : (t : Table) (b : Bool) → b ≡ sizesb t → b ≡ false → false ≡ soundb t
unfolding soundb listsb
no_sizes t b e n =
    let x = no_of e n in
    false_is (soundb t) (λ h. let k = simp and_iff at h in true≢false (cc))

pub no_marks : (t : Table) (b : Bool) → b ≡ marksb t.counts → b ≡ false → false ≡ soundb t
unfolding soundb listsb
no_marks t b e n =
    let x = no_of e n in
    false_is (soundb t) (λ h. let k = simp and_iff at h in true≢false (cc))

pub no_tails : (t : Table) (b : Bool) → b ≡ tailsb t → b ≡ false → false ≡ soundb t
unfolding soundb listsb
no_tails t b e n =
    let x = no_of e n in
    false_is (soundb t) (λ h. let k = simp and_iff at h in true≢false (cc))

pub no_pairs : (t : Table) (b : Bool) → b ≡ pairsb t → b ≡ false → false ≡ soundb t
unfolding soundb listsb
no_pairs t b e n =
    let x = no_of e n in
    false_is (soundb t) (λ h. let k = simp and_iff at h in true≢false (cc))

-- two pairs, the second the other way round
pub pairs_is : (t : Table) (p q : Bool) → p ≡ backb t.global_from_user t.user_from_global && backb t.user_from_global t.global_from_user
    → q ≡ backb t.global_from_solver t.solver_from_global && backb t.solver_from_global t.global_from_solver → (p && q) ≡ pairsb t
unfolding pairsb
pairs_is t p q e f = rw (e, f) (turn (backb t.global_from_user t.user_from_global && backb t.user_from_global t.global_from_user) _ _)
  where
    turn : (a b c : Bool) → a && (b && c) ≡ a && c && b
    turn true true true = refl
    turn true true false = refl
    turn true false true = refl
    turn true false false = refl
    turn false b c = refl

reorder : (a b c d : Bool) → b && (a && c && d) ≡ true && true && a && b && true && true && c && d
reorder true true c d = refl
reorder true false c d = refl
reorder false true c d = refl
reorder false false c d = refl

pub sound_is : (t : Table) (a b d : Bool) → sizesb t ≡ true → marksb t.counts ≡ true → tailsb t ≡ true → pairsb t ≡ true
    → a ≡ at_mostb 2 t.assignment
    → b ≡ at_mostb 71 t.records && namedb t.records t.user_from_global && deletedb t.records t.solver_from_global
    → d ≡ eqb t.counts.used (count (length t.records) (is_undeleted t.records))
    && eqb t.counts.next (least_free t.global_from_solver t.counts.solver)
    → length t.records ≡ t.counts.capacity
    → (a && b && d) ≡ soundb t
unfolding soundb listsb storedb undeleted next_solver
sound_is t a b d s m h p e q k l =
    rw (e, q, k, l, s, m, h, p)
    (ap (λ (x : Bool). x && storedb t) (reorder (at_mostb 71 t.records) (at_mostb 2 t.assignment) _ _))

-- what refusal 1 says
tested_no : (t : Table) → soundb t ≡ false → tested t ≡ Err Unsound
tested_no t k = ap (λ (b : Bool). pick b (Ok tt) (Err Unsound)) k

tested_yes : (t : Table) → soundb t ≡ true → tested t ≡ Ok tt
tested_yes t k = ap (λ (b : Bool). pick b (Ok tt) (Err Unsound)) k

pub refuses_1 : (t : Table) (r : Result (Unit {0}) Refusal) (e : Refusal) → r ≡ tested t → r ≡ Err e → (soundb t ≡ false) × (e ≡ Unsound)
refuses_1 t r e q h = go (soundb t) refl
  where
    go : (b : Bool) → soundb t ≡ b → (soundb t ≡ false) × (e ≡ Unsound)
    go true k = absurd (ok_err tt e (sym (q ∙ tested_yes t k) ∙ h))
    go false k = (k, same_err e Unsound (sym h ∙ q ∙ tested_no t k))

pub passes_1 : (t : Table) (r : Result (Unit {0}) Refusal) (u : Unit {0}) → r ≡ tested t → r ≡ Ok u → soundb t ≡ true
passes_1 t r u q h = go (soundb t) refl
  where
    go : (b : Bool) → soundb t ≡ b → soundb t ≡ true
    go true k = k
    go false k = absurd (ok_err u Unsound (sym h ∙ q ∙ tested_no t k))

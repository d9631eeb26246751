-- The rows of the model, for a loop that has passed the first i globals or users.
use Prim.Native.Nat.{ℕ, zero, suc, ◌+◌, ◌-◌, ◌≤◌, ◌<◌}
use mathlib.Core.Path.{◌≡◌, refl, sym, ap, ◌∙◌, subst}
use mathlib.Core.Bool.{Bool, true, false}
use mathlib.Core.Logic.{⊎_elim}
use mathlib.Core.List.{List, [], ◌∷◌, ◌++◌, append-nil}
use native.Mathlib.Nat.{eq-or-lt_of_le, le_of_suc-le-suc}
use native.Mathlib.Numerals.{add-one}
use native.Mathlib.Omega.{arith}
use lib.Dec.{eqb}
use lib.ListN.{length, get_or, set, length-append}
use lib.Seq.{sets, length-sets}
use borrow.Author.Tests.{eq-eqb, ne_eqb}
use Rattle.base.specs.Choice.{pick}
use Rattle.base.proofs.SetsLaws.{store_next}
use Rattle.scope.specs.Literals.{code_of}
use Rattle.scope.specs.Table.{Table, word}
use Rattle.scope.specs.Models.{global_value, row_of, global_model, user_literal, user_model}
use Rattle.model.specs.Values.{user_value}

-- ---- any row

row_zero : (f : ℕ → List ℕ) → row_of 0 f ≡ []
unfolding row_of
row_zero f = refl

row_suc : (f : ℕ → List ℕ) (i : ℕ) → row_of (i + 1) f ≡ row_of i f ++ f i
unfolding row_of
row_suc f i = rw add-one

row_grows : (f : ℕ → List ℕ) (i n : ℕ) → i ≤ n → length (row_of i f) ≤ length (row_of n f)
unfolding row_of
row_grows f i zero l = let e : i ≡ 0 = omega arith in subst (λ (k : ℕ). length (row_of i f) ≤ length (row_of k f)) e (omega arith)
row_grows f i (suc n) l = ⊎_elim
    (λ (e : i ≡ suc n). subst (λ (k : ℕ). length (row_of i f) ≤ length (row_of k f)) e (omega arith))
    (λ (k : i < suc n). let x = row_grows f i n (le_of_suc-le-suc k) in omega (arith, length-append (row_of n f) (f n)))
    (eq-or-lt_of_le l)

row_small : (f : ℕ → List ℕ) → ((i : ℕ) → length (f i) ≤ 1) → (n : ℕ) → length (row_of n f) ≤ n
unfolding row_of
row_small f h zero = omega arith
row_small f h (suc n) = let x = row_small f h n in let y = h n in omega (arith, length-append (row_of n f) (f n))

-- stores change no length
stored_length : (l m xs : List ℕ) → m ≡ sets l 0 xs → length m ≡ length l
stored_length l m xs e = ap length e ∙ length-sets l 0 xs

stored_there : (l m xs : List ℕ) (i n : ℕ) → i < n → n ≤ length l → m ≡ sets l 0 xs → i < length m
stored_there l m xs i n a b e = let z = stored_length l m xs e in omega arith

-- ---- globals

-- the words of the first i globals
abbrev pub globals_to : Table → ℕ → List ℕ
globals_to t i = row_of i (λ g. global_value t g ∷ [])

pub globals_length : (t : Table) (i : ℕ) → length (globals_to t i) ≡ i
unfolding row_of
globals_length t zero = refl
globals_length t (suc i) = length-append (globals_to t i) (global_value t i ∷ []) ∙ (let x = globals_length t i in omega arith)

pub globals_start : (t : Table) (l : List ℕ) → l ≡ sets l 0 (globals_to t 0)
globals_start t l = rw (row_zero (λ g. global_value t g ∷ []))

pub globals_next : (t : Table) (l m : List ℕ) (i v : ℕ) → m ≡ sets l 0 (globals_to t i) → v ≡ global_value t i → set m i v ≡ sets l 0 (globals_to t (i + 1))
globals_next t l m i v e q =
    rw (e, q, store_next l _ (globals_to t i) 0 i (global_value t i) refl (omega (arith, globals_length t i)), row_suc (λ g. global_value t g ∷ []) i)

pub globals_end : (t : Table) (l m : List ℕ) (i : ℕ) → m ≡ sets l 0 (globals_to t i) → i ≤ t.counts.global → t.counts.global ≤ i
    → m ≡ sets l 0 (global_model t)
unfolding global_model
globals_end t l m i e a b = e ∙ ap (λ (k : ℕ). sets l 0 (globals_to t k)) (omega arith)

pub globals_count : (t : Table) → length (global_model t) ≡ t.counts.global
unfolding global_model
globals_count t = globals_length t t.counts.global

-- ---- users

-- what user u adds
abbrev user_row : Table → ℕ → List ℕ
user_row t u = word [] (λ g. user_literal u (global_value t g)) (get_or t.global_from_user u 0)

-- the literals of the first i users
abbrev pub users_to : Table → ℕ → List ℕ
users_to t i = row_of i (user_row t)

row_literal : (t : Table) (u : ℕ) → user_row t u ≡ user_literal u (user_value t u)
unfolding user_value word user_literal
row_literal t u = go (get_or t.global_from_user u 0)
  where
    go : (w : ℕ) → word [] (λ g. user_literal u (global_value t g)) w ≡ user_literal u (word 0 (global_value t) w)
    go zero = refl
    go (suc g) = refl

literal_small : (u v : ℕ) → length (user_literal u v) ≤ 1
unfolding user_literal
literal_small u v = go (eqb v 0)
  where
    go : (b : Bool) → length (pick b [] (code_of u (2 - v) ∷ [])) ≤ 1
    go true = omega arith
    go false = omega arith

pub users_start : (t : Table) → users_to t 0 ≡ []
users_start t = row_zero (user_row t)

pub users_none : (t : Table) (u v : ℕ) → v ≡ user_value t u → v ≡ 0 → users_to t (u + 1) ≡ users_to t u
unfolding user_literal
users_none t u v e z =
    row_suc (user_row t) u ∙ ap (λ (l : List ℕ). users_to t u ++ l) (row_literal t u ∙ rw (eq-eqb (user_value t u) 0 (sym e ∙ z))) ∙ append-nil (users_to t u)

pub users_some : (t : Table) (u v : ℕ) → v ≡ user_value t u → (v ≡ 0 → ⊥) → users_to t (u + 1) ≡ users_to t u ++ code_of u (2 - v) ∷ []
unfolding user_literal
users_some t u v e n =
    row_suc (user_row t) u
    ∙ ap (λ (l : List ℕ). users_to t u ++ l) (row_literal t u ∙ rw (ne_eqb (user_value t u) 0 (λ z. n (e ∙ z)), e))

-- a user with a value is one literal more
pub users_count_some : (t : Table) (u v k : ℕ) → v ≡ user_value t u → (v ≡ 0 → ⊥) → k ≡ length (users_to t u) → k + 1 ≡ length (users_to t (u + 1))
users_count_some t u v k e n q = let x = ap length (users_some t u v e n) in omega (arith, length-append (users_to t u) (code_of u (2 - v) ∷ []))

pub users_count_none : (t : Table) (u v k : ℕ) → v ≡ user_value t u → v ≡ 0 → k ≡ length (users_to t u) → k ≡ length (users_to t (u + 1))
users_count_none t u v k e z q = q ∙ sym (ap length (users_none t u v e z))

pub users_count_end : (t : Table) (u k : ℕ) → k ≡ length (users_to t u) → u ≤ t.counts.user → t.counts.user ≤ u → k ≡ length (user_model t)
unfolding user_model
users_count_end t u k q a b = q ∙ ap (λ (i : ℕ). length (users_to t i)) (omega arith)

-- no more literals than users
users_count_small : (t : Table) (u : ℕ) → length (users_to t u) ≤ u
users_count_small t u = row_small (user_row t) (λ i. subst (λ (l : List ℕ). length l ≤ 1) (sym (row_literal t i)) (literal_small i (user_value t i))) u

pub users_count_bound : (t : Table) (u k : ℕ) → k ≡ length (users_to t u) → k ≤ u
users_count_bound t u k e = let x = users_count_small t u in omega arith

pub users_most : (t : Table) → length (user_model t) ≤ t.counts.user
unfolding user_model
users_most t = users_count_small t t.counts.user

-- so there is room for it
pub users_count_room : (t : Table) (u v k : ℕ) → u < t.counts.user → v ≡ user_value t u → (v ≡ 0 → ⊥) → k ≡ length (users_to t u) → k < length (user_model t)
unfolding user_model
users_count_room t u v k l e z q =
    let x = users_count_some t u v k e z q in
    let y = row_grows (user_row t) (u + 1) t.counts.user (omega arith) in
    omega arith

-- ---- the literals in the lent slice

pub users_fill_start : (t : Table) (l : List ℕ) → l ≡ sets l 0 (users_to t 0)
users_fill_start t l = rw (users_start t)

users_fill_code : (t : Table) (l m : List ℕ) (u v k : ℕ) → m ≡ sets l 0 (users_to t u) → k ≡ length (users_to t u) → v ≡ user_value t u → (v ≡ 0 → ⊥)
    → set m k (code_of u (2 - v)) ≡ sets l 0 (users_to t (u + 1))
users_fill_code t l m u v k e q p n = rw (e, users_some t u v p n) (store_next l _ (users_to t u) 0 k (code_of u (2 - v)) refl (omega arith))

pub users_fill_some : (t : Table) (l m : List ℕ) (u v k w : ℕ) → m ≡ sets l 0 (users_to t u) → k ≡ length (users_to t u) → v ≡ user_value t u → (v ≡ 0 → ⊥)
    → w ≡ code_of u (2 - v) → set m k w ≡ sets l 0 (users_to t (u + 1))
users_fill_some t l m u v k w e q p n h = ap (λ (x : ℕ). set m k x) h ∙ users_fill_code t l m u v k e q p n

pub users_fill_none : (t : Table) (l m : List ℕ) (u v : ℕ) → m ≡ sets l 0 (users_to t u) → v ≡ user_value t u → v ≡ 0 → m ≡ sets l 0 (users_to t (u + 1))
users_fill_none t l m u v e p z = e ∙ sym (ap (sets l 0) (users_none t u v p z))

pub users_fill_there : (t : Table) (l m : List ℕ) (u k : ℕ) → k < length (user_model t) → length (user_model t) ≤ length l → m ≡ sets l 0 (users_to t u)
    → k < length m
users_fill_there t l m u k a b e = stored_there l m (users_to t u) k (length (user_model t)) a b e

pub users_fill_end : (t : Table) (l m : List ℕ) (u : ℕ) → m ≡ sets l 0 (users_to t u) → u ≤ t.counts.user → t.counts.user ≤ u → m ≡ sets l 0 (user_model t)
unfolding user_model
users_fill_end t l m u e a b = e ∙ ap (λ (k : ℕ). sets l 0 (users_to t k)) (omega arith)

-- Laws of results: of choices, of one operation after another, of one for each index. An operation is `Good` if it is a path of allowed
-- moves of which a ledger enters its notes: it then keeps a table sound.
use Prim.Native.Nat.{ℕ, zero, suc, ◌+◌, ◌<◌, ◌≤◌}
use mathlib.Core.Path.{◌≡◌, refl, ap}
use mathlib.Core.Bool.{Bool, true, false}
use mathlib.Core.List.{List, [], ◌∷◌, ◌++◌, map}
use native.Mathlib.Omega.{arith}
use native.Mathlib.Numerals.{add-one}
use Rattle.base.specs.Choice.{pick}
use Rattle.scope.specs.Table.{Table, word}
use Rattle.scope.specs.Sound.{Sound}
use Rattle.scope.specs.Notes.{Note}
use Rattle.scope.specs.Outcome.{Result, stay, choose, joined, each, Outcome, refusal, unless}
use Rattle.scope.specs.Entries.{Entry, noted}
use Rattle.scope.proofs.MoveLaws.{Reach, stop, reach_then, reach_sound}

-- ---- by cases

pub by_pick {ℓ κ} : {A : Type ℓ} (P : A → Type κ) (b : Bool) {x y : A} → (b ≡ true → P x) → (b ≡ false → P y) → P (pick b x y)
by_pick P true f g = f refl
by_pick P false f g = g refl

pub by_choose {κ} : {A : Type 0} (P : Result A → Type κ) (b : Bool) {x y : Result A} → (b ≡ true → P x) → (b ≡ false → P y) → P (choose b x y)
unfolding choose
by_choose P true f g = f refl
by_choose P false f g = g refl

pub by_word {ℓ κ} : {A : Type ℓ} (P : A → Type κ) (w : ℕ) {z : A} {f : ℕ → A} → (w ≡ 0 → P z) → ((i : ℕ) → w ≡ i + 1 → P (f i)) → P (word z f w)
unfolding word
by_word P zero a b = a refl
by_word P (suc i) a b = b i (omega arith)

-- the choice that a test makes
pub choose_then : {A : Type 0} (b : Bool) (x y : Result A) → b ≡ true → choose b x y ≡ x
unfolding choose
choose_then b x y e = rw e

pub choose_else : {A : Type 0} (b : Bool) (x y : Result A) → b ≡ false → choose b x y ≡ y
unfolding choose
choose_else b x y e = rw e

pub word_none {ℓ} : {A : Type ℓ} (z : A) (f : ℕ → A) (w : ℕ) → w ≡ 0 → word z f w ≡ z
unfolding word
word_none z f w e = rw e

pub word_some {ℓ} : {A : Type ℓ} (z : A) (f : ℕ → A) (w i : ℕ) → w ≡ i + 1 → word z f w ≡ f i
unfolding word
word_some z f w i e = rw (e, add-one)

-- a call that is refused, and one that is accepted
pub unless_some : (n m : ℕ) (t : Table) (o : Outcome) → n ≡ m → (n ≡ 0 → ⊥) → unless m t o ≡ refusal n t
unfolding unless
unless_some zero m t o e h = absurd (h refl)
unless_some (suc n) m t o e h = rw (← e)

pub unless_none : (n : ℕ) (t : Table) (o : Outcome) → n ≡ 0 → unless n t o ≡ o
unfolding unless
unless_none n t o e = rw e

-- ---- good operations

abbrev pub entered : List Note → List Entry
entered ns = map noted ns

pub entered_append : (ns ms : List Note) → entered (ns ++ ms) ≡ entered ns ++ entered ms
entered_append [] ms = refl
entered_append (n ∷ ns) ms = ap (λ (es : List Entry). noted n ∷ es) (entered_append ns ms)

abbrev pub Good : {A : Type 0} → Table → Result A → Type 0
Good t x = Reach t (entered x.notes) x.table

pub good_sound : {A : Type 0} (t : Table) (x : Result A) → Good t x → Sound t → Sound x.table
good_sound t x g p = reach_sound g p

-- one path after another, by the notes
pub good_more : {t s r : Table} (ns ms : List Note) → Reach t (entered ns) s → Reach s (entered ms) r → Reach t (entered (ns ++ ms)) r
good_more ns ms p q = rw (entered_append ns ms) (reach_then p q)

-- ---- f 0, .., f (n - 1) in turn

module _ (f : ℕ → Table → Result (List ℕ)) (t : Table) where
  pub each_zero : each 0 f t ≡ stay [] t
  unfolding each
  each_zero = refl

  pub each_suc : (n : ℕ) → each (n + 1) f t ≡ joined (each n f t) (f n)
  unfolding each
  each_suc n = rw add-one

  pub each_table : (n : ℕ) → (each (n + 1) f t).table ≡ (f n (each n f t).table).table
  each_table n = ap (λ (x : Result (List ℕ)). x.table) (each_suc n)

  pub each_notes : (n : ℕ) → (each (n + 1) f t).notes ≡ (each n f t).notes ++ (f n (each n f t).table).notes
  each_notes n = ap (λ (x : Result (List ℕ)). x.notes) (each_suc n)

  pub each_value : (n : ℕ) → (each (n + 1) f t).value ≡ (each n f t).value ++ (f n (each n f t).table).value
  each_value n = ap (λ (x : Result (List ℕ)). x.value) (each_suc n)

  -- what holds at first and is kept by each turn holds of every turn
  pub each_keeps : (P : ℕ → Table → Type 0) (n : ℕ) → P 0 t → ((i : ℕ) (s : Table) → i < n → P i s → P (i + 1) (f i s).table)
      → (i : ℕ) → i ≤ n → P i (each i f t).table
  unfolding each
  each_keeps P n a b zero l = a
  each_keeps P n a b (suc i) l = rw add-one at (b i (each i f t).table l (each_keeps P n a b i (omega arith)))

  -- turns that are good make a good whole
  pub each_good : (P : ℕ → Table → Type 0) (n : ℕ) → ((i : ℕ) → i ≤ n → P i (each i f t).table)
      → ((i : ℕ) (s : Table) → i < n → P i s → Good s (f i s))
      → (i : ℕ) → i ≤ n → Good t (each i f t)
  unfolding each
  each_good P n a b zero l = stop
  each_good P n a b (suc i) l =
      good_more (each i f t).notes (f i (each i f t).table).notes
      (each_good P n a b i (omega arith))
      (b i (each i f t).table l (a i (omega arith)))

-- f keeps to allowed moves at every sound table
abbrev pub Safe : (ℕ → Table → Result (List ℕ)) → Type 0
Safe f = (i : ℕ) (t : Table) → Sound t → Good t (f i t)

pub safe_each : (f : ℕ → Table → Result (List ℕ)) → Safe f → (n : ℕ) (t : Table) → Sound t → Good t (each n f t)
unfolding each
safe_each f h zero t p = stop
safe_each f h (suc n) t p =
    let g = safe_each f h n t p in
    good_more (each n f t).notes (f n (each n f t).table).notes g (h n (each n f t).table (reach_sound g p))

-- ---- refusals

-- a refusal that does not apply, where none does
pub past : (b : Bool) (n rest : ℕ) → 0 < n → pick b n rest ≡ 0 → (b ≡ false) × (rest ≡ 0)
past true n rest l e = absurd (omega arith)
past false n rest l e = (refl, e)

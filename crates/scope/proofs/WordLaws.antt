-- What a word says: none where it is 0, else the index below it.
use Rattle.std.specs.Prelude.{Option, Some, None}
use Rattle.std.specs.Option.{SomeIff}
use Rattle.std.proofs.lemmas.Option.{none-some, same_Some}
use Prim.Native.Nat.{ℕ, zero, suc, ◌+◌, ◌-◌, ◌≤◌}
use mathlib.Core.Path.{◌≡◌, sym, ap, ◌∙◌}
use native.Mathlib.Omega.{arith}
use native.Mathlib.Numerals.{add-one}
use Rattle.scope.specs.Table.{word}

pub found_none : {A : Type 0} (none : A) (some : ℕ → A) (w v : ℕ) → w ≡ v → w ≡ 0 → none ≡ word none some v
unfolding word
found_none none some w v e z = rw (← e, z)

pub found_some : {A : Type 0} (none : A) (some : ℕ → A) (w v : ℕ) → w ≡ v → (w ≡ 0 → ⊥) → some (w - 1) ≡ word none some v
unfolding word
found_some none some w zero e n = absurd (n e)
found_some none some w (suc i) e n =
    let q : w - 1 ≡ i = omega arith in
    ap some q

-- the word of an index says the index
pub found_index : {A : Type 0} (none : A) (some : ℕ → A) (i : ℕ) → word none some (i + 1) ≡ some i
unfolding word
found_index none some i = ap (word none some) (add-one i)

-- What is read of what a word says is the word, if `read` gives 0 for none and index + 1 for an index.
pub word_read : {A : Type 0} (read : A → ℕ) (none : A) (some : ℕ → A) → read none ≡ 0 → ((i : ℕ) → read (some i) ≡ i + 1)
    → (w : ℕ) (f : A) → f ≡ word none some w → w ≡ read f
unfolding word
word_read read none some z s zero f e = sym (ap read e ∙ z)
word_read read none some z s (suc i) f e = sym (ap read e ∙ s i ∙ add-one i)

-- ---- an index, and the same in its sort

pub index_of_word : (o : Option ℕ) (v w : ℕ) → v ≡ w → SomeIff o (1 ≤ v) (v - 1) → o ≡ word None Some w
index_of_word None v w e s = found_none None Some v w e (omega (arith, λ (h : 1 ≤ v). s h))
index_of_word (Some i) v w e s = ap Some s.1 ∙ found_some None Some v w e (λ z. let l = s.0 in omega arith)

pub sorted_none : {B : Type 0} (f : ℕ → B) (o : Option ℕ) (r : Option B) (w : ℕ) → o ≡ word None Some w → o ≡ None → r ≡ None → r ≡ word None (λ i. Some (f i)) w
unfolding word
sorted_none f o r zero e n h = h
sorted_none f o r (suc i) e n h = absurd (none-some i (sym n ∙ e))

pub sorted_some : {B : Type 0} (f : ℕ → B) (o : Option ℕ) (w i : ℕ) → o ≡ word None Some w → o ≡ Some i → Some (f i) ≡ word None (λ k. Some (f k)) w
unfolding word
sorted_some f o zero i e n = absurd (none-some i (sym e ∙ n))
sorted_some f o (suc k) i e n = ap (λ (j : ℕ). Some (f j)) (same_Some i k (sym n ∙ e))

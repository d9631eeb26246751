-- Laws of what an operation leaves: nothing done, another value, one operation after another, and how many words and notes there are.
use Prim.Native.Nat.{ℕ, ◌+◌, ◌/◌, ◌^◌, ◌<◌}
use mathlib.Core.Path.{◌≡◌, refl, sym, ap, ◌∙◌, subst}
use mathlib.Core.List.{List, ◌++◌}
use native.Mathlib.Omega.{arith}
use lib.ListN.{length, length-append}
use lib.Seq.{sets, length-sets}
use Rattle.base.proofs.SetsLaws.{sets_append}
use Rattle.scope.specs.Table.{Table}
use Rattle.scope.specs.Sound.{Sizes}
use Rattle.scope.specs.Notes.{notes_words}
use Rattle.scope.specs.Outcome.{Result, stay}
use Rattle.scope.proofs.NoteWords.{words_length, words_append}
use Rattle.changes.specs.Leaves.{Leaves}

-- nothing is done
pub leaves_stay : {A : Type 0} {v : A} (t : Table) (at : ℕ) (words : List ℕ) → Leaves (stay v t) at at t words words
unfolding notes_words
leaves_stay t at words = record { table = refl; noted = refl; moved = omega arith }

-- the same with another value
pub leaves_giving : {A B : Type 0} {x : Result A} {v : B} {at next : ℕ} {left : Table} {words words' : List ℕ}
    → Leaves x at next left words words' → Leaves (record { value = v; table = x.table; notes = x.notes }) at next left words words'
leaves_giving h = record { table = h.table; noted = h.noted; moved = h.moved }

-- one after another, whatever the value: the second is done on the table that the first leaves
module _ {A B C : Type 0} {x : Result A} (f : Table → Result B) {v : C} {at mid next : ℕ} {left left2 : Table} {words words2 words3 : List ℕ} where
  pub leaves_then : Leaves x at mid left words words2 → Leaves (f left) mid next left2 words2 words3
      → Leaves (record { value = v; table = (f x.table).table; notes = x.notes ++ (f x.table).notes }) at next left2 words words3
  leaves_then h k =
      let k2 = subst (λ (t : Table). Leaves (f t) mid next left2 words2 words3) h.table k in
      let n = length-append x.notes (f x.table).notes in
      let a = h.moved in
      let b = k2.moved in
      let w = words_length x.notes in
      let m : mid ≡ at + length (notes_words x.notes) = omega arith in
      record {
        table = k2.table;
        noted = k2.noted
            ∙ ap (λ (l : List ℕ). sets l mid (notes_words (f x.table).notes)) h.noted
            ∙ ap (λ (i : ℕ). sets (sets words at (notes_words x.notes)) i (notes_words (f x.table).notes)) m
            ∙ sym (sets_append (notes_words x.notes) (notes_words (f x.table).notes) words at)
            ∙ ap (λ (l : List ℕ). sets words at l) (sym (words_append x.notes (f x.table).notes));
        moved = omega arith;
      }

-- what is written keeps its length
pub leaves_length : {A : Type 0} (x : Result A) (at next : ℕ) (left : Table) (words words' : List ℕ)
    → Leaves x at next left words words' → length words' ≡ length words
leaves_length x at next left words words' h = ap length h.noted ∙ length-sets words at (notes_words x.notes)

-- the count of notes, and that it fits its word
module _ {A : Type 0} {x : Result A} {next : ℕ} {left : Table} {words words' : List ℕ} (h : Leaves x 0 next left words words') where
  pub notes_told : next / 3 ≡ length x.notes
  notes_told = let m = h.moved in omega arith

  pub notes_fit : length x.notes < 2 ^ 32 → next / 3 < 2 ^ 32
  notes_fit l = let m = h.moved in omega arith

-- ---- lengths

-- the lists of two tables, and the words lent for notes, have the same lengths
pub record SameSizes (t s : Table) (words words' : List ℕ) : Type 0 where
  pub global_from_user : length s.global_from_user ≡ length t.global_from_user
  pub user_from_global : length s.user_from_global ≡ length t.user_from_global
  pub solver_from_global : length s.solver_from_global ≡ length t.solver_from_global
  pub global_from_solver : length s.global_from_solver ≡ length t.global_from_solver
  pub assignment : length s.assignment ≡ length t.assignment
  pub records : length s.records ≡ length t.records
  pub notes : length words' ≡ length words

-- as those of two sound tables of one capacity
pub same_sizes : (t s : Table) (words words' : List ℕ) → Sizes t → Sizes s → s.counts.capacity ≡ t.counts.capacity → length words' ≡ length words
    → SameSizes t s words words'
same_sizes t s words words' a b c n =
    record {
      global_from_user = omega arith;
      user_from_global = omega arith;
      solver_from_global = omega arith;
      global_from_solver = omega arith;
      assignment = omega arith;
      records = omega arith;
      notes = n;
    }

-- How the contracts of operations inside a call read: with their notes from a place on.
use Rattle.std.specs.Prelude.{ℕ, ◌+◌, ◌*◌, ◌≤◌, ◌≡◌, List, length}
use Rattle.std.proofs.lemmas.List.Edits.{sets}
use Rattle.scope.specs.Table.{Table}
use Rattle.scope.specs.Notes.{notes_words}
use Rattle.scope.specs.Outcome.{Result}

-- The table left is that of x. Its notes stand from the place `at` on, words elsewhere are as they were, and the next place is past them.
pub record Leaves {A : Type 0} (x : Result A) (at next : ℕ) (left : Table) (words words' : List ℕ) : Type 0 where
  pub table : left ≡ x.table
  pub noted : words' ≡ sets words at (notes_words x.notes)
  pub moved : next ≡ at + 3 * length x.notes

-- There is room for the notes of x from the place `at` on.
pub record Room {A : Type 0} (x : Result A) (at room : ℕ) : Type 0 where
  pub words : at + 3 * length x.notes ≤ room

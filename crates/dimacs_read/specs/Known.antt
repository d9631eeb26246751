-- What the fill is told of lines that are right.
use Rattle.std.specs.Prelude.{ℕ, ◌≤◌, ◌≡◌, List, length}
use Rattle.dimacs.specs.Reading.{clauses, clauses_at}
use Rattle.dimacs.specs.Calls.{all_codes}

-- All lines from a place on are right, and slices of a and b words hold them.
pub record LinesFit (s : List ℕ) (v from a b : ℕ) : Type 0 where
  pub cls : List (List ℕ)
  pub inside : from ≤ length s
  pub reads : clauses_at s v from ≡ clauses cls
  pub codes_fit : length (all_codes cls) ≤ a
  pub ends_fit : length cls ≤ b

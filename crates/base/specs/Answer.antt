-- The answer of a call, as document 01 numbers it.
use Rattle.std.specs.Prelude.{ℕ, List}

-- Accepted, with the values answered, in document 01's order; or refused, with the number of the refusal and the values that go with it.
pub data Answer : Type 0 where
  accepted : List ℕ → Answer
  refused : ℕ → List ℕ → Answer

-- the number, 0 if accepted, and the values
abbrev pub number_of : Answer → ℕ
number_of (accepted vs) = 0
number_of (refused n vs) = n

abbrev pub values_of : Answer → List ℕ
values_of (accepted vs) = vs
values_of (refused n vs) = vs

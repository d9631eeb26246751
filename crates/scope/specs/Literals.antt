-- Literals (document 01, "Words used").
use Rattle.std.specs.Prelude.{ℕ, ◌+◌, ◌-◌, ◌*◌, ◌/◌, ◌%◌, Bool, eqb}

-- A literal as a number: twice its index, and one more where it is negated.
abbrev pub code_of : ℕ → ℕ → ℕ
code_of index sign = 2 * index + sign

abbrev pub index_of : ℕ → ℕ
index_of c = c / 2

-- 1 if negative, else 0
abbrev pub sign_of : ℕ → ℕ
sign_of c = c % 2

-- the literal of the same index and the other sign
abbrev pub not_lit : ℕ → ℕ
not_lit c = code_of (index_of c) (1 - sign_of c)

-- A literal in DIMACS: its index counted from 1, with a minus where it is negative.
pub record Dimacs : Type 0 where
  pub negative : Bool
  pub magnitude : ℕ

abbrev pub dimacs_of : ℕ → Dimacs
dimacs_of c = record { negative = eqb (sign_of c) 1; magnitude = index_of c + 1 }

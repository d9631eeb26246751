-- What the functions of the header give, in the words of dimacs/specs/Reading.antt.
use Rattle.std.specs.Prelude.{ℕ, ◌≤◌, ◌≡◌, List, Option, Some, None, drop}
use Rattle.dimacs_read.specs.declared.heading.Heading.{Heading}
use Rattle.dimacs.specs.Reading.{digits_of, value_from, Head, head, no_head}

-- k is the number n, or both are 9,223,372,036,854,775,800 or more: no file has as many clauses.
pub data Capped (k n : ℕ) : Type 0 where
  same : k ≡ n → Capped k n
  past : 9223372036854775800 ≤ k → 9223372036854775800 ≤ n → Capped k n

-- the digits from a place on
abbrev pub digits_at : List ℕ → ℕ → List ℕ
digits_at s i = digits_of (drop i s)

-- a header's first number, its second one capped, and the place after it
abbrev pub heading : ℕ → ℕ → ℕ → Heading
heading v k j = record { variables = v; clauses = k; next = j }

-- a header was read; or there is none
pub data Headed : Head → Option Heading → Type 0 where
  found : {v k j : ℕ} (ks : List ℕ) → Capped k (value_from 0 ks) → Headed (head v ks j) (Some (heading v k j))
  absent : Headed no_head None

-- A lent slice: its words when a call begins and when it ends.
use Rattle.std.specs.Prelude.{ℕ, ◌≡◌, List}
use Rattle.std.proofs.lemmas.List.Edits.{sets}

pub record Lent : Type 0 where
  pub first : List ℕ
  pub last : List ℕ

-- A slice that is lent by a `&` keeps its words; one that is lent by a `&mut` may get others.
abbrev pub constant : List ℕ → Lent
constant xs = record { first = xs; last = xs }

abbrev pub change : List ℕ → List ℕ → Lent
change xs ys = record { first = xs; last = ys }

-- its words when the call begins, and when it ends
abbrev pub old : Lent → List ℕ
old x = x.first

abbrev pub new : Lent → List ℕ
new x = x.last

-- From the place `at` on the slice has these words, and everywhere else what it had.
abbrev pub Fills : Lent → ℕ → List ℕ → Type 0
Fills x at words = new x ≡ sets (old x) at words

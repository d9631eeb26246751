-- The cursor of a search: below it nothing is free, so that the least free index is found from there on.
use Rattle.std.specs.Prelude.{ℕ, ◌≤◌, ◌<◌, ◌≡◌, Bool, false, List, eqb, get_or}

-- The cursor is at most the mark, and below it nothing passes the test.
pub record NoneFree (free : ℕ → Bool) (mark from : ℕ) : Type 0 where
  pub within : from ≤ mark
  pub below : (k : ℕ) → k < from → free k ≡ false

-- The same of a map: below the cursor every index is mapped.
abbrev pub AllMapped : List ℕ → ℕ → ℕ → Type 0
AllMapped xs mark from = NoneFree (λ i. eqb (get_or xs i 0) 0) mark from

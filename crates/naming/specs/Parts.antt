-- Parts of Map over the lists that they read.
use Rattle.std.specs.Prelude.{ℕ, ◌≤◌, Bool, false, not, List, eqb, get_or}
use Rattle.scope.specs.Table.{word, mode_of}

-- `unsampled`, from the map and the records
unfoldable pub is_unsampled : List ℕ → List ℕ → ℕ → Bool
is_unsampled gu records u = word false (λ g. not (eqb (mode_of (get_or records g 47)) 0)) (get_or gu u 0)

-- every global of the map is below n
pub record MapBelow (gu : List ℕ) (n : ℕ) : Type 0 where
  pub at : (i : ℕ) → get_or gu i 0 ≤ n

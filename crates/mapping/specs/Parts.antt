-- Which global a user gets, over the lists that it is read from.
use Rattle.std.specs.Prelude.{ℕ, Bool, ◌||◌, List, eqb, get_or}
use Rattle.base.specs.Choice.{pick}
use Rattle.base.specs.Bounded.{least}
use Rattle.scope.specs.Table.{is_deleted}

-- the test by which a global is free
unfoldable pub free : List ℕ → ℕ → Bool
free records g = is_deleted (get_or records g 47)

-- `global_for`, from the records and the global watermark
unfoldable pub free_for : List ℕ → ℕ → ℕ → ℕ
free_for records mark u = pick (eqb u mark || free records u) u (least mark (free records))

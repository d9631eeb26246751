-- What the deletion of a global asks of it.
use Rattle.std.specs.Prelude.{ℕ, ◌<◌, ◌≤◌, List, length, get_or}
use Rattle.scope.specs.declared.Counts.{Counts}
use Rattle.scope.specs.Table.{fresh_record}

-- The global g is there in the maps that start from it and in the records, and it is not deleted; so at least one is counted.
pub record Live (c : Counts) (ug sg records : List ℕ) (g : ℕ) : Type 0 where
  pub user : g < length ug
  pub solver : g < length sg
  pub words : g < length records
  pub small : g < 4096
  pub undeleted : get_or records g fresh_record < 36
  pub used : 1 ≤ c.used

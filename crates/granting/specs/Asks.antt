-- What the grant inside a call asks.
use Rattle.std.specs.Prelude.{ℕ, ◌+◌, ◌*◌, ◌≤◌, ◌<◌, ◌≡◌, true, List, length}
use Rattle.scope.specs.declared.Counts.{Counts}
use Rattle.scope.specs.Table.{Table, table_of, record_of}
use Rattle.scope.specs.Sound.{soundb}
use Rattle.scope.specs.Grant.{grant}

-- The table is sound, the global below its watermark and not deleted, and from `at` on there is room for the notes.
pub record GrantAsks (t : Table) (g at room : ℕ) : Type 0 where
  pub sound : soundb t ≡ true
  pub below : g < t.counts.global
  pub alive : record_of t g < 36
  pub words : at + 3 * length (grant g t).notes ≤ room

-- The same of the lists that are lent, with some maps of users.
pub record IndexAsks (c : Counts) (sg gs a records : List ℕ) (g at room : ℕ) : Type 0 where
  pub gu : List ℕ
  pub ug : List ℕ
  pub asks : GrantAsks (table_of c gu ug sg gs a records) g at room

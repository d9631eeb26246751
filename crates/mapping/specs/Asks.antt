-- What the mapping inside a call asks, and what it leaves.
use Rattle.std.specs.Prelude.{ℕ, ◌+◌, ◌*◌, ◌≤◌, ◌<◌, ◌≡◌, true, List, length}
use Rattle.scope.specs.declared.Counts.{Counts}
use Rattle.scope.specs.Table.{Table, undeleted}
use Rattle.scope.specs.Sound.{soundb}
use Rattle.scope.specs.Map.{map_user, to_map}
use Rattle.changes.specs.Leaves.{Leaves}
use Rattle.changes.specs.Solvers.{Solvers, solvers_of, table_with}
use Rattle.mapping.specs.declared.Mapped.{Mapped}

-- The table is sound, the user below the capacity, there are globals for the users to map, and from `at` on there is room for their notes.
pub record MapAsks (t : Table) (u at room : ℕ) : Type 0 where
  pub sound : soundb t ≡ true
  pub within : u < t.counts.capacity
  pub enough : undeleted t + to_map t u ≤ t.counts.capacity
  pub words : at + 3 * to_map t u ≤ room

-- ---- the mapping inside a call reads and writes only the maps of users, the records and four of the counts

-- what a table has besides: the lists of solver indices, their watermark and the least of them that is unmapped
pub record Rest : Type 0 where
  pub solvers : Solvers
  pub solver : ℕ
  pub next : ℕ

abbrev pub rest_of : Table → Rest
rest_of t = record { solvers = solvers_of t; solver = t.counts.solver; next = t.counts.next }

-- the counts with these four
abbrev pub counts_with : ℕ → ℕ → ℕ → ℕ → Rest → Counts
counts_with capacity users globals used x =
    record { capacity = capacity; user = users; global = globals; solver = x.solver; used = used; next = x.next }

-- the counts after a mapping
abbrev pub counts_after : Counts → Mapped → Counts
counts_after c m = record { capacity = c.capacity; user = m.users; global = m.globals; solver = c.solver; used = m.used; next = c.next }

-- the table with these four counts and three lists
abbrev pub table_beside : ℕ → ℕ → ℕ → ℕ → List ℕ → List ℕ → List ℕ → Rest → Table
table_beside capacity users globals used gu ug records x = table_with (counts_with capacity users globals used x) gu ug records x.solvers

-- what it asks, with some rest
pub record UpAsks (capacity users globals used : ℕ) (gu ug records : List ℕ) (u at room : ℕ) : Type 0 where
  pub rest : Rest
  pub asks : MapAsks (table_beside capacity users globals used gu ug records rest) u at room

-- and what it leaves, with any
pub record UpLeaves (capacity users globals used : ℕ) (gu ug records : List ℕ) (u at : ℕ) (m : Mapped) (gu' ug' records' words words' : List ℕ) : Type 0 where
  pub with : (x : Rest) → MapAsks (table_beside capacity users globals used gu ug records x) u at (length words)
      → (m.global.0 ≡ (map_user u (table_beside capacity users globals used gu ug records x)).value)
      × Leaves (map_user u (table_beside capacity users globals used gu ug records x)) at m.at
      (table_beside capacity m.users m.globals m.used gu' ug' records' x) words words'

-- Open (document 01): an empty table, in which every record is fresh and all else is 0.
use Rattle.std.specs.Prelude.{ℕ, not, replicate}
use Rattle.scope.specs.declared.Counts.{Counts}
use Rattle.scope.specs.Table.{Table, table_of, fresh_record}
use Rattle.scope.specs.Sound.{sizesb}
use Rattle.base.specs.Choice.{pick}
use Rattle.scope.specs.Outcome.{Outcome, unless, changing}

-- the counts of a freshly opened table
abbrev pub open_counts : ℕ → Counts
open_counts capacity = record { capacity = capacity; user = 0; global = 0; solver = 0; used = 0; next = 0 }

-- a freshly opened, empty table
unfoldable pub empty_table : ℕ → Table
empty_table n =
    table_of (open_counts n) (replicate n 0) (replicate n 0) (replicate n 0) (replicate n 0) (replicate n 0) (replicate n fresh_record)

-- Open of the lent lists, which with the capacity asked for make up t. 10 where the capacity is 0 or above 4,096, or a list is not as long.
unfoldable pub open_of : Table → Outcome
open_of t = unless (pick (not (sizesb t)) 10 0) t (changing (empty_table t.counts.capacity))

use mathlib.Core.Path.{◌≡◌}
use lib.ListN.{length}
use Rattle.table.specs.Lists.{seen}
use Rattle.model.proofs.RowLaws.{users_to}
use Rattle.model.proofs.count_users.Given as goal

abbrev pub invariant-loop-u : goal.invariant-loop-u
invariant-loop-u l =
    l.k ≡ length (users_to (seen l.t) l.u)

use mathlib.Core.Path.{◌≡◌}
use lib.ListN.{length}
use Rattle.scope.specs.Outcome.{each}
use Rattle.scope.specs.Remove.{sweep_one}
use Rattle.table.specs.Lists.{seen}
use Rattle.removal.proofs.count_notes.Given as goal

abbrev pub invariant-loop-s : goal.invariant-loop-s
invariant-loop-s l = l.n ≡ length (each l.s sweep_one (seen l.t)).notes

use Rattle.model.proofs.RowLaws.{globals_to}
use lib.Seq.{sets}
use mathlib.Core.Path.{◌≡◌}
use Rattle.table.specs.Lists.{seen}
use Rattle.model.proofs.reconstruct_global_model.Given as goal

abbrev pub invariant-loop-g : goal.invariant-loop-g
invariant-loop-g l =
    l.globals ≡ sets l.initial.globals 0 (globals_to (seen l.t) l.g)

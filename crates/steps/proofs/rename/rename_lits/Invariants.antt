use Rattle.scope.specs.Write.{rename_lit}
use lib.ListN.{get_or}
use mathlib.Core.Path.{◌≡◌}
use Rattle.base.proofs.StoreLaws.{copied}
use Rattle.steps.proofs.rename.rename_lits.Given as goal

abbrev pub invariant-loop-i : goal.invariant-loop-i
invariant-loop-i l = l.out ≡ copied (rename_lit (λ s. get_or l.gs s 0) l.solvervars) l.initial.out l.lits l.i

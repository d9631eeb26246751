use Rattle.std.specs.List.{count_by}
use mathlib.Core.Path.{◌≡◌}
use mathlib.Core.Bool.{not}
use lib.ListN.{take}
use Rattle.simplify.specs.Values.{false_by}
use Rattle.simplify.proofs.clause.count_unfalse.Given as goal

abbrev pub invariant-loop-lit : goal.invariant-loop-lit
invariant-loop-lit l = l.k ≡ count_by (λ c. not (false_by l.assignment c)) (take l.lit-index l.lits)

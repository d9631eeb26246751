use mathlib.Core.Path.{◌≡◌}
use mathlib.Core.Bool.{◌&&◌}
use lib.ListN.{drop}
use Rattle.drat.specs.Listed.{rises_to}
use Rattle.drat_write.proofs.proof.ends_rise.Given as goal

abbrev pub invariant-loop-end : goal.invariant-loop-end
invariant-loop-end l = l.ok && rises_to l.last l.a (drop l.end-index l.ends) ≡ rises_to l.last 0 l.ends

use Rattle.modes.proofs.HiddenLaws.{fine}
use mathlib.Core.Path.{◌≡◌}
use Rattle.base.specs.Bounded.{all_below}
use Rattle.modes.proofs.none_assumed.Given as goal

abbrev pub invariant-loop-g : goal.invariant-loop-g
invariant-loop-g l = l.ok ≡ all_below l.g (fine l.records)

use Rattle.sections.proofs.InsideLaws.{mirror_at}
use Rattle.sections.specs.Tally.{Tallied}
use Rattle.base.specs.Bounded.{all_below}
use mathlib.Core.List.{[]}
use mathlib.Core.Bool.{true}
use mathlib.Core.Path.{◌≡◌}
use Rattle.sections.proofs.exact.exactly_mirrored.Given as goal

abbrev pub invariant-loop-l : goal.invariant-loop-l
invariant-loop-l l = (all_below l.l (mirror_at l.s.lists.now l.s.n) ≡ true) × Tallied [] l.tally

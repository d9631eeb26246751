use mathlib.Core.Path.{sym, ap}
use native.Mathlib.Omega.{arith}
use Rattle.scope.specs.declared.Mark.TheVariants.{Used, Assumed, Released}
use Rattle.numbers.specs.Numbers.{of_three}
use Rattle.numbers.proofs.NumberLaws.{three_beyond}
use Rattle.numbers.proofs.mark_in.Goals as goal

pub returns-in-0 : goal.returns-in-0
unfolding of_three
returns-in-0 c = sym (ap (of_three Used Assumed Released) c.in-0.is)

pub returns-in-1 : goal.returns-in-1
unfolding of_three
returns-in-1 c = sym (ap (of_three Used Assumed Released) c.in-1.is)

pub returns-in-2 : goal.returns-in-2
unfolding of_three
returns-in-2 c = sym (ap (of_three Used Assumed Released) c.in-2.is)

pub returns-in_default : goal.returns-in_default
returns-in_default c = sym (three_beyond _ _ _ _ (omega arith))

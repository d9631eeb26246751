use mathlib.Core.Path.{sym, ap}
use native.Mathlib.Omega.{arith}
use Rattle.drat.specs.declared.Kind.TheVariants.{Add, Delete}
use Rattle.numbers.specs.Numbers.{of_two}
use Rattle.numbers.proofs.NumberLaws.{two_beyond}
use Rattle.numbers.proofs.kind_in.Goals as goal

pub returns-in-0 : goal.returns-in-0
unfolding of_two
returns-in-0 c = sym (ap (of_two Add Delete) c.in-0.is)

pub returns-in-1 : goal.returns-in-1
unfolding of_two
returns-in-1 c = sym (ap (of_two Add Delete) c.in-1.is)

pub returns-in_default : goal.returns-in_default
returns-in_default c = sym (two_beyond _ _ _ (omega arith))

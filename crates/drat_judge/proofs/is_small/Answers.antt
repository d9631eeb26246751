use lib.Dec.{eqb}
use mathlib.Core.Bool.{◌&&◌, ◌||◌}
use Rattle.drat_judge.proofs.RunsLaws.{as_byte}
use Rattle.drat_judge.specs.Local.{small}
use Rattle.drat_judge.proofs.is_small.Goals as goal

pub returns : goal.returns
unfolding small
returns c = cc (as_byte (c.in_range.result || (eqb c.args.p 57 && c.in_range-2.result)))

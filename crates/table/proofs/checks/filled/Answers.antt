use mathlib.Core.Bool.{not}
use lib.Dec.{eqb}
use borrow.Author.Rules.{rules}
use Rattle.table.proofs.CheckLaws.{filled_all}
use Rattle.table.proofs.checks.filled.Goals as goal

pub returns : goal.returns
returns c = filled_all _ _ _ c.requires.mark_in_bounds c.requires.xs_value (c.count_words.ensures (λ w. not (eqb w 0)) (λ x b h. search rules))

use lib.Dec.{ltb}
use borrow.Author.Rules.{rules}
use Rattle.table.proofs.CheckLaws.{undeleted_all}
use Rattle.table.proofs.checks.undeleted.Goals as goal

pub returns : goal.returns
returns c = undeleted_all _ _ _ c.requires.mark_in_bounds c.requires.records_value (c.count_words.ensures (λ w. ltb w 36) (λ x b h. search rules))

use Rattle.scope.proofs.WordLaws.{index_of_word}
use Rattle.table.proofs.index_at.Goals as goal

pub returns : goal.returns
returns c = index_of_word _ _ _ c.word_at.ensures c.checked_sub.ensures

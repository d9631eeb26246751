use Rattle.distinct.proofs.NeedLaws.{plainly_counted}
use Rattle.distinct.proofs.needs_of.Goals as goal

pub returns-then-lits-le12 : goal.returns-then-lits-le12
returns-then-lits-le12 c = plainly_counted _ _ _ _ _ c.requires.within c.count_needs_plain.ensures

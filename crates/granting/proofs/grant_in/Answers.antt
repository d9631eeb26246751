use Rattle.granting.proofs.GrantLaws.{grant_at_once}
use Rattle.granting.proofs.grant_in.Goals as goal

pub returns : goal.returns
returns c = grant_at_once _ _ _ c.solver_of.ensures

use Rattle.modes.proofs.HiddenLaws.{hidden_read}
use Rattle.modes.proofs.is_hidden.Goals as goal

pub returns : goal.returns
returns c = hidden_read _

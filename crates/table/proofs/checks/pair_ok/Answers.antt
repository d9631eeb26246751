use Rattle.table.proofs.CheckLaws.{pair_is}
use Rattle.table.proofs.checks.pair_ok.Goals as goal

pub returns : goal.returns
returns c =
    pair_is _ _ _ _ _ c.back_ok.ensures c.if-not-back_ok.false c.filled.ensures c.filled-2.ensures

use native.Mathlib.Omega.{arith}
use Rattle.held.proofs.RunLaws.{tried_some, tried_all}
use Rattle.held.proofs.fill_held.Goals as goal

pub returns-then-n-lits : goal.returns-then-n-lits
returns-then-n-lits c =
    tried_some _ _ _ _ _ _ _ _ _ c.held_lits-n.ensures

pub returns-then-unsampled : goal.returns-then-unsampled
returns-then-unsampled c =
    tried_some _ _ _ _ _ _ _ _ _ c.held_lits-n.ensures

pub returns : goal.returns
returns c =
    let l = c.if-n-lits.false in
    tried_all _ _ _ _ _ _ _ _ _ _ _ c.requires.lits_len_bound c.requires.lits_in_bounds c.requires.lits_in_bounds_2 (omega arith) c.held_lits-n.ensures
    c.any_unsampled-unsampled.ensures c.if-unsampled.false c.copy_lits.ensures

use Rattle.drat_read.proofs.LitLaws.{gap_end, gap_more}
use Rattle.drat_read.proofs.fill.past_gap.Goals as goal

pub loop-i-preserved : goal.loop-i-preserved
loop-i-preserved c =
    let a = c.args in
    let l = c.loop-i in
    gap_more a.s.now a.at l.i c.requires l.invariant c.loop-i-test.true

pub returns : goal.returns
returns c =
    let a = c.args in
    let l = c.loop-i in
    gap_end a.s.now a.at l.i c.requires l.invariant c.loop-i-test.false

use native.Mathlib.Omega.{arith}
use Rattle.mapping.proofs.FreeLaws.{deleted_found, deleted_more, deleted_end}
use Rattle.mapping.proofs.least_deleted.Goals as goal

pub returns-then-records-i-ge36 : goal.returns-then-records-i-ge36
returns-then-records-i-ge36 c = deleted_found _ _ _ c.requires.mark_in_bounds c.loop-i-test.true c.loop-i.invariant
    c.if-records-i-ge36.true

pub loop-i-preserved : goal.loop-i-preserved
loop-i-preserved c = deleted_more _ _ _ c.requires.mark_in_bounds c.loop-i-test.true c.loop-i.invariant
    c.if-records-i-ge36.false

pub returns : goal.returns
returns c = let l = c.loop-i.invariant in omega (arith, deleted_end _ _ _ l c.loop-i-test.false)

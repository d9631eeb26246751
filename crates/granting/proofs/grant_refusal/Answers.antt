use Rattle.granting.proofs.GrantLaws.{grant_3, below_records, grant_6, below_solvers, grant_2, grant_0}
use Rattle.granting.proofs.grant_refusal.Goals as goal

pub returns-then-t-global : goal.returns-then-t-global
returns-then-t-global c = grant_3 _ _ _ c.requires c.if-t-global.true

pub bounds-t-g : goal.bounds-t-g
bounds-t-g c = below_records _ _ 0 c.requires c.if-t-global.false

pub returns-then-w-ge36 : goal.returns-then-w-ge36
returns-then-w-ge36 c = grant_6 _ _ _ c.requires c.if-t-global.false c.if-w-ge36.true

pub bounds-t-g-2 : goal.bounds-t-g-2
bounds-t-g-2 c = below_solvers _ _ 0 c.requires c.if-t-global.false

pub returns-then-t-g : goal.returns-then-t-g
returns-then-t-g c = grant_2 _ _ _ c.requires c.if-t-global.false c.if-w-ge36.false c.if-t-g.true

pub returns : goal.returns
returns c = grant_0 _ _ _ c.requires c.if-t-global.false c.if-w-ge36.false c.if-t-g.false

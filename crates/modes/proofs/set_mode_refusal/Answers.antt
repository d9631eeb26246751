use Rattle.modes.proofs.SetModeLaws.{below_words, set_3, set_6, set_7, set_2, set_0}
use Rattle.modes.proofs.set_mode_refusal.Goals as goal

pub returns-then-t-global : goal.returns-then-t-global
returns-then-t-global c =
    set_3 _ _ _ _ c.requires c.if-t-global.true

pub bounds-t-g : goal.bounds-t-g
bounds-t-g c =
    (below_words _ _ c.requires c.if-t-global.false).0

pub returns-then-w-ge36 : goal.returns-then-w-ge36
returns-then-w-ge36 c =
    set_6 _ _ _ _ c.requires c.if-t-global.false c.if-w-ge36.true

pub returns-then-w-eq1 : goal.returns-then-w-eq1
returns-then-w-eq1 c =
    set_7 _ _ _ _ c.requires c.if-t-global.false c.if-w-ge36.false c.if-w-eq1.true

pub bounds-t-g-2 : goal.bounds-t-g-2
bounds-t-g-2 c =
    (below_words _ _ c.requires c.if-t-global.false).1

pub returns-then-room-n : goal.returns-then-room-n
returns-then-room-n c =
    set_2 _ _ _ _ c.requires c.if-t-global.false c.if-w-ge36.false
    c.if-w-eq1.false _ c.mode_notes-n.ensures c.if-room-n.true

pub returns : goal.returns
returns c =
    set_0 _ _ _ _ c.requires c.if-t-global.false c.if-w-ge36.false
    c.if-w-eq1.false _ c.mode_notes-n.ensures c.if-room-n.false

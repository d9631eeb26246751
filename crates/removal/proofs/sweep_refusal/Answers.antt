use Rattle.removal.proofs.SweepCallLaws.{sweep_2, sweep_0}
use Rattle.removal.proofs.sweep_refusal.Goals as goal

pub returns-then-room-count_notes : goal.returns-then-room-count_notes
returns-then-room-count_notes c = sweep_2 _ _ c.requires _ c.count_notes.ensures c.if-room-count_notes.true

pub returns : goal.returns
returns c = sweep_0 _ _ c.requires _ c.count_notes.ensures c.if-room-count_notes.false

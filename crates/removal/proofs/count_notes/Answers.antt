use native.Mathlib.Omega.{arith}
use Rattle.scope.proofs.SoundLaws.{sound_of}
use Rattle.removal.proofs.SweepLaws.{swept_none, swept_more, swept_end, count_fits}
use Rattle.removal.proofs.count_notes.Goals as goal

pub loop-s-init : goal.loop-s-init
loop-s-init c = swept_none _

pub overflow_add-n : goal.overflow_add-n
overflow_add-n c =
    record { fits = count_fits _ c.requires _ _ _ c.loop-s-test.true c.loop-s.invariant c.notes_at-n.ensures }

pub loop-s-preserved : goal.loop-s-preserved
loop-s-preserved c = swept_more _ (sound_of _ c.requires) _ _ _ c.loop-s.invariant c.notes_at-n.ensures

pub returns : goal.returns
returns c = swept_end _ _ _ (omega arith) c.loop-s.invariant

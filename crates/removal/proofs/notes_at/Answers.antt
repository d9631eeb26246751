use Rattle.scope.proofs.SoundLaws.{sound_of}
use Rattle.removal.proofs.HeldLaws.{holding_of}
use Rattle.removal.proofs.SweepOneLaws.{learn_asks, notes_none, notes_kept, notes_removed}
use Rattle.table.proofs.FoundLaws.{global_word_lem}
use mathlib.Core.Path.{sym, ◌∙◌}
use Rattle.removal.proofs.notes_at.Goals as goal

pub returns-in_default : goal.returns-in_default
returns-in_default c = notes_none _ _ _ _ _ (sym c.in_default.is ∙ c.holder.ensures)

pub bounds-t-g : goal.bounds-t-g
bounds-t-g c =
    (holding_of _ (sound_of _ c.requires) _ _ (global_word_lem _ _ (sym c.in-Some.is ∙ c.holder.ensures))).held.live.words

pub bounds-t-solver : goal.bounds-t-solver
bounds-t-solver c =
    (holding_of _ (sound_of _ c.requires) _ _ (global_word_lem _ _ (sym c.in-Some.is ∙ c.holder.ensures))).value

pub learnt_record-w-requires : goal.learnt_record-w-requires
learnt_record-w-requires c =
    let h = holding_of _ (sound_of _ c.requires) _ _ (global_word_lem _ _ (sym c.in-Some.is ∙ c.holder.ensures)) in
    let l = learn_asks _ _ _ _ _ _ _ _ h in
    record { w_bound = l.0; v_bound = l.1 }

pub bounds-t-g-then-is_loose : goal.bounds-t-g-then-is_loose
bounds-t-g-then-is_loose c =
    (holding_of _ (sound_of _ c.requires) _ _ (global_word_lem _ _ (sym c.in-Some.is ∙ c.holder.ensures))).held.live.user

pub returns-then-is_loose : goal.returns-then-is_loose
returns-then-is_loose c =
    let h = holding_of _ (sound_of _ c.requires) _ _ (global_word_lem _ _ (sym c.in-Some.is ∙ c.holder.ensures)) in
    notes_removed _ _ _ _ _ _ (sym c.in-Some.is ∙ c.holder.ensures) h.held.live.words _
    c.learnt_record-w.ensures.value (sym c.is_loose.ensures ∙ c.if-is_loose.true) _ c.removal_notes.ensures

pub returns-else-is_loose : goal.returns-else-is_loose
returns-else-is_loose c =
    let h = holding_of _ (sound_of _ c.requires) _ _ (global_word_lem _ _ (sym c.in-Some.is ∙ c.holder.ensures)) in
    notes_kept _ _ _ _ _ _ (sym c.in-Some.is ∙ c.holder.ensures) h.held.live.words _
    c.learnt_record-w.ensures.value (sym c.is_loose.ensures ∙ c.if-is_loose.false)

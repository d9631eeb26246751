use Rattle.modes.proofs.ChangeLaws.{hide_fits, hide_room, hide_delete, hide_leaves}
use Rattle.modes.proofs.NotesLaws.{there_live}
use Rattle.modes.proofs.hide.Goals as goal

pub unmap-counts-requires-clause-user_in_bounds : goal.unmap-counts-requires-clause-user_in_bounds
unmap-counts-requires-clause-user_in_bounds c =
    (hide_fits _ _ c.requires.hides).0

pub put_note-requires-clause-at_in_bounds : goal.put_note-requires-clause-at_in_bounds
put_note-requires-clause-at_in_bounds c =
    hide_room _ _ _ _ c.requires.words

pub delete_global_if_unused-requires-clause-live : goal.delete_global_if_unused-requires-clause-live
delete_global_if_unused-requires-clause-live c =
    (hide_delete _ _ (there_live _ _ c.requires.hides.there).words _ _ _ (c.unmap-counts.ensures.value, (c.unmap-counts.ensures.gu_value, c.unmap-counts.ensures.ug_value)) _ _ _ c.requires.hides.there c.requires.words
    c.put_note.auto.notes).0

pub delete_global_if_unused-requires-clause-by_index : goal.delete_global_if_unused-requires-clause-by_index
delete_global_if_unused-requires-clause-by_index c =
    (hide_delete _ _ (there_live _ _ c.requires.hides.there).words _ _ _ (c.unmap-counts.ensures.value, (c.unmap-counts.ensures.gu_value, c.unmap-counts.ensures.ug_value)) _ _ _ c.requires.hides.there c.requires.words
    c.put_note.auto.notes).1

pub returns : goal.returns
returns c =
    λ gs a. hide_leaves _ _ (there_live _ _ c.requires.hides.there).words _ _ _ (c.unmap-counts.ensures.value, (c.unmap-counts.ensures.gu_value, c.unmap-counts.ensures.ug_value)) _ _ _ _ _ _ c.put_note.ensures
    (c.delete_global_if_unused.ensures _ _ _)

use Rattle.removal.proofs.RemoveLaws.{remove_room, remove_asks, remove_leaves}
use native.Mathlib.Omega.{arith}
use mathlib.Core.List.{[]}
use Rattle.scope.specs.Table.{table_of}
use Rattle.removal.proofs.remove_held.Goals as goal

pub put_note-requires-clause-at_in_bounds : goal.put_note-requires-clause-at_in_bounds
put_note-requires-clause-at_in_bounds c =
    remove_room _ _ _ _ _ _ _ _ _ c.requires

pub delete_global_if_unused-requires-clause-by_index : goal.delete_global_if_unused-requires-clause-by_index
delete_global_if_unused-requires-clause-by_index c =
    (remove_asks (table_of _ [] _ _ _ [] _) _ _ _ _ _ (c.remove-counts.ensures.value, (c.remove-counts.ensures.sg_value, c.remove-counts.ensures.gs_value)) _ _ _ c.requires
    c.put_note.auto.notes).1

pub returns : goal.returns
returns c =
    λ gu a. remove_leaves _ _ _ _ _ _ (c.remove-counts.ensures.value, (c.remove-counts.ensures.sg_value, c.remove-counts.ensures.gs_value)) _ _ _ _ _ _ _ c.put_note.ensures
    (c.delete_global_if_unused.ensures _ _ _) (omega arith)

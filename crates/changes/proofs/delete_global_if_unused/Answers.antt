use mathlib.Core.List.{[]}
use native.Mathlib.Omega.{arith}
use Rattle.base.proofs.Truth.{truth, false_of}
use Rattle.changes.proofs.DeletionLaws.{delete_room, delete_leaves, keep_leaves}
use borrow.Author.Rules.{rules}
use Rattle.changes.proofs.delete_global_if_unused.Goals as goal

pub put_note-requires-clause-at_in_bounds : goal.put_note-requires-clause-at_in_bounds
put_note-requires-clause-at_in_bounds c =
    let k = simp truth at c.if-ug-g.true in
    delete_room _ _ _ _ _ c.requires.live [] [] [] (simp truth (omega arith)) _ _ (c.requires.by_index [] [] [])

pub overflow_add-result : goal.overflow_add-result
overflow_add-result c =
    let k = simp truth at c.if-ug-g.true in
    let r = delete_room _ _ _ _ _ c.requires.live [] [] [] (simp truth (omega arith)) _ _ (c.requires.by_index [] [] []) in
    search rules

pub returns-then-ug-g : goal.returns-then-ug-g
returns-then-ug-g c =
    let k = simp truth at c.if-ug-g.true in
    λ gu gs a. delete_leaves _ _ _ _ _ c.requires.live gu gs a (simp truth (omega arith)) _ _ _ _ _ c.delete-counts.ensures.value c.delete-counts.ensures.records_value
    c.put_note.ensures

pub returns : goal.returns
returns c = λ gu gs a. keep_leaves _ _ _ _ _ c.requires.live gu gs a
    (false_of _ _ (λ h. let k = simp truth at h in simp truth (omega arith)) c.if-ug-g.false) _ _

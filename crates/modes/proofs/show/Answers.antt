use native.Mathlib.Omega.{arith}
use Rattle.modes.proofs.ChangeLaws.{show_fits, show_leaves}
use Rattle.modes.proofs.NotesLaws.{there_live}
use Rattle.modes.proofs.show.Goals as goal

pub map-counts-requires-clause-user_in_bounds : goal.map-counts-requires-clause-user_in_bounds
map-counts-requires-clause-user_in_bounds c =
    (show_fits _ _ _ _ c.requires.shows _ c.least_free.ensures).0

pub map-counts-requires-clause-user_lt_capacity : goal.map-counts-requires-clause-user_lt_capacity
map-counts-requires-clause-user_lt_capacity c =
    (show_fits _ _ _ _ c.requires.shows _ c.least_free.ensures).1.1.1.0

pub map-counts-requires-clause-used_bound : goal.map-counts-requires-clause-used_bound
map-counts-requires-clause-used_bound c =
    (show_fits _ _ _ _ c.requires.shows _ c.least_free.ensures).1.1.1.1.1

pub returns-clause-leaves : goal.returns-clause-leaves
returns-clause-leaves c =
    let l = (there_live _ _ c.requires.shows.there).words in
    let m = c.map-counts.ensures in
    let n = c.from.ensures in
    λ x. show_leaves _ _ _ l _ c.least_free.ensures _ _ _ _ _ (omega arith) (m.value, (m.gu_value, (m.ug_value, m.records_value))) _
    c.is_sample.ensures _ _ _ _ c.put_note.ensures c.put_note-2.ensures

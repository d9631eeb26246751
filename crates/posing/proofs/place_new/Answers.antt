use mathlib.Core.Path.{ap}
use Rattle.scope.specs.declared.Counts.{Counts}
use Rattle.posing.proofs.PlaceLaws.{place_map_asks, place_grant_asks, place_leaves, global_ahead}
use Rattle.mapping.proofs.GapLaws.{up_asks, up_leaves}
use Rattle.posing.proofs.place_new.Goals as goal

pub map_up-m-requires-clause-up_asks : goal.map_up-m-requires-clause-up_asks
map_up-m-requires-clause-up_asks c =
    up_asks _ _ _ _ (place_map_asks _ _ _ _ c.requires.place_asks)

pub grant_index-h-requires : goal.grant_index-h-requires
grant_index-h-requires c =
    let m = up_leaves _ _ _ _ _ _ _ _ _ _ (place_map_asks _ _ _ _ c.requires.place_asks) c.map_up-m.ensures.up_leaves
    c.counts_after.ensures in
    record { gu = _; ug = _; asks = place_grant_asks _ _ _ _ _ _ _ _ c.requires.place_asks m.0 m.1 }

pub returns-clause-solver_value : goal.returns-clause-solver_value
returns-clause-solver_value c =
    let e = c.counts_after.ensures in
    let m = up_leaves _ _ _ _ _ _ _ _ _ _ (place_map_asks _ _ _ _ c.requires.place_asks) c.map_up-m.ensures.up_leaves
    e in
    let g = c.grant_index-h.ensures.by_index_2 _ _ in
    let p = place_leaves _ _ _ _ _ _ _ _ _ _ _ _ m.0 m.1 (c.grant_index-h.ensures.by_index _ _) g in
    p.0

pub returns-clause-leaves : goal.returns-clause-leaves
returns-clause-leaves c =
    let e = c.counts_after.ensures in
    let m = up_leaves _ _ _ _ _ _ _ _ _ _ (place_map_asks _ _ _ _ c.requires.place_asks) c.map_up-m.ensures.up_leaves
    e in
    let g = c.grant_index-h.ensures.by_index_2 _ _ in
    let p = place_leaves _ _ _ _ _ _ _ _ _ _ _ _ m.0 m.1 (c.grant_index-h.ensures.by_index _ _) g in
    p.1

pub returns-clause-none_free_2 : goal.returns-clause-none_free_2
returns-clause-none_free_2 c =
    let e = c.counts_after.ensures in
    let m = up_leaves _ _ _ _ _ _ _ _ _ _ (place_map_asks _ _ _ _ c.requires.place_asks) c.map_up-m.ensures.up_leaves
    e in
    let g = c.grant_index-h.ensures.by_index_2 _ _ in
    let p = place_leaves _ _ _ _ _ _ _ _ _ _ _ _ m.0 m.1 (c.grant_index-h.ensures.by_index _ _) g in
    let asks = place_grant_asks _ _ _ _ _ _ _ _ c.requires.place_asks m.0 m.1 in
    global_ahead _ _ _ _ _ _ _ _ asks g (rw (ap (λ (d : Counts). d.global) e) c.map_up-m.ensures.none_free_2)

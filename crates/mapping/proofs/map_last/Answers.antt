use Rattle.table.proofs.FoundLaws.{global_word, global_word_lem}
use Rattle.mapping.proofs.GapLaws.{last_kept, last_asks, last_done, one_left}
use mathlib.Core.Path.{◌∙◌, ap, refl}
use Rattle.mapping.proofs.map_last.Goals as goal

pub global_for-taken-requires-clause-mark_in_bounds : goal.global_for-taken-requires-clause-mark_in_bounds
global_for-taken-requires-clause-mark_in_bounds c =
    (last_asks _ _ _ _ c.requires.up_asks.asks c.requires.user_le_users (global_word_lem _ _ c.global_of.ensures ∙ ap global_word c.in_default.is)
    _ refl).marked

pub global_for-taken-requires-clause-user_in_bounds : goal.global_for-taken-requires-clause-user_in_bounds
global_for-taken-requires-clause-user_in_bounds c =
    (last_asks _ _ _ _ c.requires.up_asks.asks c.requires.user_le_users (global_word_lem _ _ c.global_of.ensures ∙ ap global_word c.in_default.is)
    _ refl).row

pub map_one-requires-clause-user_in_bounds : goal.map_one-requires-clause-user_in_bounds
map_one-requires-clause-user_in_bounds c =
    (last_asks _ _ _ _ c.requires.up_asks.asks c.requires.user_le_users (global_word_lem _ _ c.global_of.ensures ∙ ap global_word c.in_default.is)
    _ c.global_for-taken.ensures.global_value).place

pub map_one-requires-clause-used_bound : goal.map_one-requires-clause-used_bound
map_one-requires-clause-used_bound c =
    (last_asks _ _ _ _ c.requires.up_asks.asks c.requires.user_le_users (global_word_lem _ _ c.global_of.ensures ∙ ap global_word c.in_default.is)
    _ c.global_for-taken.ensures.global_value).used

pub map_one-requires-clause-global_in_bounds : goal.map_one-requires-clause-global_in_bounds
map_one-requires-clause-global_in_bounds c =
    (last_asks _ _ _ _ c.requires.up_asks.asks c.requires.user_le_users (global_word_lem _ _ c.global_of.ensures ∙ ap global_word c.in_default.is)
    _ c.global_for-taken.ensures.global_value).global_place

pub map_one-requires-clause-global_in_bounds_2 : goal.map_one-requires-clause-global_in_bounds_2
map_one-requires-clause-global_in_bounds_2 c =
    (last_asks _ _ _ _ c.requires.up_asks.asks c.requires.user_le_users (global_word_lem _ _ c.global_of.ensures ∙ ap global_word c.in_default.is)
    _ c.global_for-taken.ensures.global_value).global_row

pub map_one-requires-clause-global_lt_capacity : goal.map_one-requires-clause-global_lt_capacity
map_one-requires-clause-global_lt_capacity c =
    (last_asks _ _ _ _ c.requires.up_asks.asks c.requires.user_le_users (global_word_lem _ _ c.global_of.ensures ∙ ap global_word c.in_default.is)
    _ c.global_for-taken.ensures.global_value).global_within

pub map_one-requires-clause-at_in_bounds : goal.map_one-requires-clause-at_in_bounds
map_one-requires-clause-at_in_bounds c =
    (last_asks _ _ _ _ c.requires.up_asks.asks c.requires.user_le_users (global_word_lem _ _ c.global_of.ensures ∙ ap global_word c.in_default.is)
    _ c.global_for-taken.ensures.global_value).words

pub returns-in_default-clause-up_leaves : goal.returns-in_default-clause-up_leaves
returns-in_default-clause-up_leaves c =
    let e = global_word_lem _ _ c.global_of.ensures ∙ ap global_word c.in_default.is in
    let m = c.map_one.ensures in
    let t = c.global_for-taken.ensures in
    record {
      with = λ x h. (last_done _ _ _ _ h c.requires.user_le_users e _ _ _ _ _ _ _ _ _
          (one_left _ _ _ _ _ _ _ _ _ _ _ _ _ _ m.global_value m.from_value t.global_value t.none_free_2 (m.counts_value x) m.at_value m.gu_value
          m.ug_value m.records_value m.noted)).0;
    }

pub returns-in_default-clause-none_free_2 : goal.returns-in_default-clause-none_free_2
returns-in_default-clause-none_free_2 c =
    let e = global_word_lem _ _ c.global_of.ensures ∙ ap global_word c.in_default.is in
    let m = c.map_one.ensures in
    let t = c.global_for-taken.ensures in
    (last_done _ _ _ _ c.requires.up_asks.asks c.requires.user_le_users e _ _ _ _ _ _ _ c.args.notes.now _
    (one_left _ _ _ _ _ _ _ _ _ _ _ _ _ _ m.global_value m.from_value t.global_value t.none_free_2 (m.counts_value c.requires.up_asks.rest)
    m.at_value m.gu_value m.ug_value m.records_value m.noted)).1

pub returns-clause-up_leaves : goal.returns-clause-up_leaves
returns-clause-up_leaves c =
    record {
      with = λ x h. last_kept _ _ _ _ _ ((global_word_lem _ _ c.global_of.ensures ∙ ap global_word c.in-Some.is));
    }

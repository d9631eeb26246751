use Rattle.std.proofs.lemmas.Result.{err_from_is_err_and}
use mathlib.Core.Path.{sym, ◌∙◌}
use Rattle.scope.proofs.RefusedLaws.{refused_err, refused_ok}
use Rattle.naming.proofs.CallLaws.{new_refused, new_asks, found_asks, found_low, map_few, new_done}
use Rattle.mapping.proofs.GapLaws.{up_asks, up_leaves}
use Rattle.changes.proofs.LeavesLaws.{notes_fit}
use Rattle.naming.proofs.known_new_user_var.Goals as goal

pub returns-in_err-new_user_refusal : goal.returns-in_err-new_user_refusal
returns-in_err-new_user_refusal c =
    let p = err_from_is_err_and c.from_residual.result c.from_residual.ensures.1 in
    rw (p.1, p.2) (new_refused _ _ _ (sym (refused_err _ _ c.in_err-new_user_refusal.was) ∙ c.new_user_refusal.ensures))

pub least_free-requires-clause-mark_in_bounds : goal.least_free-requires-clause-mark_in_bounds
least_free-requires-clause-mark_in_bounds c =
    (new_asks _ _ (sym (refused_ok _ _ c.in_ok-new_user_refusal.was) ∙ c.new_user_refusal.ensures)).marked

pub map_last-m-requires-clause-up_asks : goal.map_last-m-requires-clause-up_asks
map_last-m-requires-clause-up_asks c =
    let asks = new_asks _ _ (sym (refused_ok _ _ c.in_ok-new_user_refusal.was) ∙ c.new_user_refusal.ensures) in
    up_asks _ _ _ _ (found_asks _ _ _ asks c.least_free.ensures)

pub map_last-m-requires-clause-user_le_users : goal.map_last-m-requires-clause-user_le_users
map_last-m-requires-clause-user_le_users c = found_low _ _ _ c.least_free.ensures

pub overflow_cast-made : goal.overflow_cast-made
overflow_cast-made c =
    let asks = new_asks _ _ (sym (refused_ok _ _ c.in_ok-new_user_refusal.was) ∙ c.new_user_refusal.ensures) in
    let found = found_asks _ _ _ asks c.least_free.ensures in
    record {
      fits = notes_fit (up_leaves _ _ _ _ _ _ _ _ _ _ found c.map_last-m.ensures.up_leaves c.counts_after-counts.ensures).1 (map_few _ _ _ _ found);
    }

pub returns : goal.returns
returns c =
    let none = sym (refused_ok _ _ c.in_ok-new_user_refusal.was) ∙ c.new_user_refusal.ensures in
    let found = found_asks _ _ _ (new_asks _ _ none) c.least_free.ensures in
    new_done _ _ _ _ _ _ _ none c.least_free.ensures
    (up_leaves _ _ _ _ _ _ _ _ _ _ found c.map_last-m.ensures.up_leaves c.counts_after-counts.ensures)

use Rattle.std.proofs.lemmas.Result.{err_from_is_err_and}
use mathlib.Core.Path.{sym, ◌∙◌}
use Rattle.scope.proofs.RefusedLaws.{refused_err, refused_ok}
use Rattle.naming.proofs.CallLaws.{map_refused, map_asks, map_few, map_done}
use Rattle.mapping.proofs.GapLaws.{up_asks, up_leaves}
use Rattle.changes.proofs.LeavesLaws.{notes_fit}
use Rattle.naming.proofs.known_global_from_user.Goals as goal

pub returns-in_err-map_refusal : goal.returns-in_err-map_refusal
returns-in_err-map_refusal c =
    let p = err_from_is_err_and c.from_residual.result c.from_residual.ensures.1 in
    rw (p.1, p.2) (map_refused _ _ _ _ _ (sym (refused_err _ _ c.in_err-map_refusal.was) ∙ c.map_refusal.ensures))

pub map_user-m-requires-clause-up_asks : goal.map_user-m-requires-clause-up_asks
map_user-m-requires-clause-up_asks c =
    up_asks _ _ _ _ (map_asks _ _ _ _ (sym (refused_ok _ _ c.in_ok-map_refusal.was) ∙ c.map_refusal.ensures))

pub overflow_cast-made : goal.overflow_cast-made
overflow_cast-made c =
    let asks = map_asks _ _ _ _ (sym (refused_ok _ _ c.in_ok-map_refusal.was) ∙ c.map_refusal.ensures) in
    record {
      fits = notes_fit (up_leaves _ _ _ _ _ _ _ _ _ _ asks c.map_user-m.ensures.up_leaves c.counts_after-counts.ensures).1 (map_few _ _ _ _ asks);
    }

pub returns : goal.returns
returns c =
    let none = sym (refused_ok _ _ c.in_ok-map_refusal.was) ∙ c.map_refusal.ensures in
    map_done _ _ _ _ _ _ _ _ none
    (up_leaves _ _ _ _ _ _ _ _ _ _ (map_asks _ _ _ _ none) c.map_user-m.ensures.up_leaves c.counts_after-counts.ensures)

use Rattle.std.proofs.lemmas.Result.{err_from_is_err_and}
use Rattle.scope.proofs.RefusedLaws.{refused_ok}
use Rattle.removal.proofs.RemoveLaws.{removable, held_asks, held_fits, remove_does, remove_refused}
use Rattle.removal.proofs.known_remove_solver_var.Goals as goal

pub returns-in_err-global : goal.returns-in_err-global
returns-in_err-global c =
    let p = err_from_is_err_and c.from_residual.result c.from_residual.ensures.1 in
    rw (p.1, p.2) (remove_refused _ _ _ _ _ c.remove_refusal.ensures.value c.in_err-global.was)

pub remove_held-p-requires : goal.remove_held-p-requires
remove_held-p-requires c =
    let z = refused_ok _ _ c.in_ok-global.was in
    held_asks _ _ _ (removable _ _ _ _ c.remove_refusal.ensures.value z) _ (c.remove_refusal.ensures.held _ c.in_ok-global.was)

pub overflow_cast-result : goal.overflow_cast-result
overflow_cast-result c =
    let z = refused_ok _ _ c.in_ok-global.was in
    record {
      fits = held_fits _ _ _ (removable _ _ _ _ c.remove_refusal.ensures.value z) _
          (c.remove_refusal.ensures.held _ c.in_ok-global.was) _ _ _ _ (c.remove_held-p.ensures _ _);
    }

pub returns : goal.returns
returns c =
    let z = refused_ok _ _ c.in_ok-global.was in
    remove_does _ _ _ (removable _ _ _ _ c.remove_refusal.ensures.value z) _
    (c.remove_refusal.ensures.held _ c.in_ok-global.was) _ _ _ _ _ _ c.remove_refusal.ensures.value z
    (c.remove_held-p.ensures _ _)

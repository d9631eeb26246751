use Rattle.std.proofs.lemmas.Result.{err_from_is_err_and}
use Rattle.scope.proofs.RefusedLaws.{refused_ok}
use Rattle.removal.proofs.SweepCallLaws.{sweep_refused, all_asks, all_fits, sweep_does}
use Rattle.removal.proofs.known_sweep.Goals as goal

pub returns-in_err-sweep_refusal : goal.returns-in_err-sweep_refusal
returns-in_err-sweep_refusal c =
    let p = err_from_is_err_and c.from_residual.result c.from_residual.ensures.1 in
    rw (p.1, p.2) (sweep_refused _ _ _ _ c.sweep_refusal.ensures c.in_err-sweep_refusal.was)

pub sweep_all-p-requires : goal.sweep_all-p-requires
sweep_all-p-requires c = all_asks _ _ _ c.sweep_refusal.ensures (refused_ok _ _ c.in_ok-sweep_refusal.was)

pub overflow_cast-result : goal.overflow_cast-result
overflow_cast-result c =
    record { fits = all_fits _ _ _ c.sweep_refusal.ensures (refused_ok _ _ c.in_ok-sweep_refusal.was) _ _ _ _ (c.sweep_all-p.ensures _) }

pub returns : goal.returns
returns c =
    sweep_does _ _ _ c.sweep_refusal.ensures (refused_ok _ _ c.in_ok-sweep_refusal.was) _ _ _ _ _ (c.sweep_all-p.ensures _)

use Rattle.std.proofs.lemmas.Result.{err_from_is_err_and}
use Rattle.scope.proofs.RefusedLaws.{refused_ok}
use Rattle.modes.proofs.SetModeLaws.{set_refused, set_asks, set_does}
use Rattle.modes.proofs.known_set_sampling_mode.Goals as goal

pub returns-in_err-set_mode_refusal : goal.returns-in_err-set_mode_refusal
returns-in_err-set_mode_refusal c =
    let p = err_from_is_err_and c.from_residual.result c.from_residual.ensures.1 in
    rw (p.1, p.2) (set_refused _ _ _ _ _ _ c.set_mode_refusal.ensures c.in_err-set_mode_refusal.was)

pub set_mode-requires : goal.set_mode-requires
set_mode-requires c =
    set_asks _ _ _ _ _ c.set_mode_refusal.ensures (refused_ok _ _ c.in_ok-set_mode_refusal.was) _ c.requires.all_mapped

pub returns : goal.returns
returns c =
    set_does _ _ _ _ _ c.set_mode_refusal.ensures (refused_ok _ _ c.in_ok-set_mode_refusal.was) _ _ _ _ (c.set_mode.ensures _ _)

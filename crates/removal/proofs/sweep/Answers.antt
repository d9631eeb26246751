use Rattle.std.proofs.lemmas.Result.{err_from_is_err_and}
use Rattle.table.proofs.CheckLaws.{refuses_1, passes_1}
use Rattle.removal.proofs.SweepCallLaws.{sweep_unsound}
use Rattle.removal.proofs.sweep.Goals as goal

pub returns-in_err-check_sound : goal.returns-in_err-check_sound
returns-in_err-check_sound c =
    let p = err_from_is_err_and c.from_residual.result c.from_residual.ensures.1 in
    let q = refuses_1 _ _ _ c.check_sound.ensures c.in_err-check_sound.was in
    rw (p.1, p.2, q.1) (sweep_unsound _ _ q.0)

pub known_sweep-requires : goal.known_sweep-requires
known_sweep-requires c = passes_1 _ _ _ c.check_sound.ensures c.in_ok-check_sound.was

use Rattle.std.proofs.lemmas.Result.{err_from_is_err_and}
use Rattle.scope.proofs.CursorLaws.{cursor_start}
use Rattle.table.proofs.CheckLaws.{refuses_1, passes_1}
use Rattle.modes.proofs.SetModeLaws.{set_unsound}
use Rattle.modes.proofs.set_sampling_mode.Goals as goal

pub returns-in_err-check_sound : goal.returns-in_err-check_sound
returns-in_err-check_sound c =
    let p = err_from_is_err_and c.from_residual.result c.from_residual.ensures.1 in
    let q = refuses_1 _ _ _ c.check_sound.ensures c.in_err-check_sound.was in
    rw (p.1, p.2, q.1) (set_unsound _ _ _ _ q.0)

pub known_set_sampling_mode-requires : goal.known_set_sampling_mode-requires
known_set_sampling_mode-requires c = record {
  records_value = passes_1 _ _ _ c.check_sound.ensures c.in_ok-check_sound.was;
  all_mapped = cursor_start _ _;
}

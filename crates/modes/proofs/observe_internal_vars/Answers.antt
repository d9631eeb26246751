use Rattle.std.proofs.lemmas.Result.{err_from_is_err_and}
use Rattle.scope.proofs.CursorLaws.{cursor_start}
use Rattle.table.proofs.CheckLaws.{refuses_1, passes_1}
use Rattle.modes.proofs.ObserveCallLaws.{observe_unsound}
use Rattle.modes.proofs.observe_internal_vars.Goals as goal

pub returns-in_err-check_sound-clause-meets : goal.returns-in_err-check_sound-clause-meets
returns-in_err-check_sound-clause-meets c =
    let p = err_from_is_err_and c.from_residual.result c.from_residual.ensures.1 in
    let q = refuses_1 _ _ _ c.check_sound.ensures c.in_err-check_sound.was in
    rw (p.1, p.2, q.1) (observe_unsound _ c.args.users.now _ q.0).0

pub returns-in_err-check_sound-clause-out : goal.returns-in_err-check_sound-clause-out
returns-in_err-check_sound-clause-out c = (observe_unsound _ _ _ (refuses_1 _ _ _ c.check_sound.ensures c.in_err-check_sound.was).0).1

pub known_observe_internal_vars-requires : goal.known_observe_internal_vars-requires
known_observe_internal_vars-requires c = record {
  records_value = passes_1 _ _ _ c.check_sound.ensures c.in_ok-check_sound.was;
  all_mapped = cursor_start _ _;
}

use mathlib.Core.Path.{refl}
use Rattle.std.proofs.lemmas.Result.{err_from_is_err_and}
use Rattle.table.proofs.CheckLaws.{refuses_1, passes_1}
use Rattle.marks.proofs.ChangeLaws.{assign_1, in_left}
use Rattle.marks.proofs.assign_lit.Goals as goal

pub returns-in_err-check_sound : goal.returns-in_err-check_sound
returns-in_err-check_sound c =
    let p = err_from_is_err_and c.from_residual.result c.from_residual.ensures.1 in
    let q = refuses_1 _ _ _ c.check_sound.ensures c.in_err-check_sound.was in
    rw (p.1, p.2, q.1) (assign_1 _ _ _ q.0)

pub returns : goal.returns
returns c =
    in_left _ _ _ _ _ _ _ _ _ (c.assign_in.ensures _ (passes_1 _ _ _ c.check_sound.ensures c.in_ok-check_sound.was) refl refl)

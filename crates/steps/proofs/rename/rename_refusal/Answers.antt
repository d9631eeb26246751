use mathlib.Core.Path.{sym, ◌∙◌}
use Rattle.std.proofs.lemmas.Result.{err_from_is_err_and}
use Rattle.scope.proofs.RefusedLaws.{number_not_0, refused_err, refused_ok}
use Rattle.steps.proofs.StepLaws.{rename_first, rename_short, rename_pass}
use Rattle.steps.proofs.rename.rename_refusal.Goals as goal

pub returns-in_err-step_refusal : goal.returns-in_err-step_refusal
returns-in_err-step_refusal c =
    let a = c.args in
    let p = err_from_is_err_and c.from_residual.result c.from_residual.ensures.1 in
    let n = sym (refused_err _ _ c.in_err-step_refusal.was) ∙ c.step_refusal.ensures in
    rw (p.1, p.2) (rename_first _ a.step a.solvervars a.lits.now a.hashes.now _ _ _ n (number_not_0 _))

pub returns-then-room-literals_of : goal.returns-then-room-literals_of
returns-then-room-literals_of c =
    let a = c.args in
    rename_short _ a.step a.solvervars a.lits.now a.hashes.now _ _ _ c.step_refusal.ensures (refused_ok _ _ c.in_ok-step_refusal.was)
    (rw (sym c.literals_of.ensures, sym c.hashes_of.ensures) c.if-room-literals_of.true)

pub returns : goal.returns
returns c =
    let a = c.args in
    rename_pass _ a.step a.solvervars a.lits.now a.hashes.now _ _ _ c.step_refusal.ensures (refused_ok _ _ c.in_ok-step_refusal.was)
    (rw (sym c.literals_of.ensures, sym c.hashes_of.ensures) c.if-room-literals_of.false)

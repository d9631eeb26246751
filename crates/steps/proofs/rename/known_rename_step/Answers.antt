use mathlib.Core.Path.{refl, sym, ap, subst, ◌∙◌}
use mathlib.Core.List.{List}
use Prim.Native.Nat.{ℕ}
use lib.ListN.{length}
use lib.Seq.{sets}
use native.Mathlib.Omega.{arith}
use Rattle.std.proofs.lemmas.Result.{err_from_is_err_and}
use Rattle.scope.proofs.RefusedLaws.{refused_err, refused_ok}
use Rattle.steps.specs.Names.{Named, names_by}
use Rattle.steps.proofs.LiteralLaws.{nameable_named}
use Rattle.steps.proofs.StepLaws.{rename_clear, step_nameable}
use Rattle.steps.proofs.RenameLaws.{rename_refused, rename_done}
use Rattle.steps.proofs.rename.known_rename_step.Goals as goal

pub returns-in_err-rename_refusal-clause-meets : goal.returns-in_err-rename_refusal-clause-meets
returns-in_err-rename_refusal-clause-meets c =
    let a = c.args in
    let p = err_from_is_err_and c.from_residual.result c.from_residual.ensures.1 in
    let n = sym (refused_err _ _ c.in_err-rename_refusal.was) ∙ c.rename_refusal.ensures in
    rw (p.1, p.2) (rename_refused _ a.step a.solvervars a.lits.now a.hashes.now a.out.now a.hashout.now _ n).does

pub returns-in_err-rename_refusal-clause-out : goal.returns-in_err-rename_refusal-clause-out
returns-in_err-rename_refusal-clause-out c =
    let a = c.args in
    let n = sym (refused_err _ _ c.in_err-rename_refusal.was) ∙ c.rename_refusal.ensures in
    (rename_refused _ a.step a.solvervars a.lits.now a.hashes.now a.out.now a.hashout.now _ n).words

pub returns-in_err-rename_refusal-clause-hashout : goal.returns-in_err-rename_refusal-clause-hashout
returns-in_err-rename_refusal-clause-hashout c =
    let a = c.args in
    let n = sym (refused_err _ _ c.in_err-rename_refusal.was) ∙ c.rename_refusal.ensures in
    (rename_refused _ a.step a.solvervars a.lits.now a.hashes.now a.out.now a.hashout.now _ n).more

pub rename_lits-requires-clause-named : goal.rename_lits-requires-clause-named
rename_lits-requires-clause-named c =
    let a = c.args in
    let r = rename_clear _ a.step a.solvervars a.lits.now a.hashes.now _ _ _ c.rename_refusal.ensures (refused_ok _ _ c.in_ok-rename_refusal.was) in
    subst (λ (ls : List ℕ). Named a.gs.now a.solvervars ls) (sym c.literals_of-carried.ensures)
    (nameable_named _ _ _ (step_nameable _ a.step a.solvervars a.lits.now a.hashes.now r.clear))

pub rename_lits-requires-clause-lits_in_bounds : goal.rename_lits-requires-clause-lits_in_bounds
rename_lits-requires-clause-lits_in_bounds c =
    let a = c.args in
    let r = rename_clear _ a.step a.solvervars a.lits.now a.hashes.now _ _ _ c.rename_refusal.ensures (refused_ok _ _ c.in_ok-rename_refusal.was) in
    omega (arith, ap length c.literals_of-carried.ensures, r.room)

pub copy_hashes-requires : goal.copy_hashes-requires
copy_hashes-requires c =
    let a = c.args in
    let r = rename_clear _ a.step a.solvervars a.lits.now a.hashes.now _ _ _ c.rename_refusal.ensures (refused_ok _ _ c.in_ok-rename_refusal.was) in
    omega (arith, ap length c.hashes_of-hashed.ensures, r.hashroom)

pub returns-clause-meets : goal.returns-clause-meets
returns-clause-meets c =
    let a = c.args in
    let e = c.rename_refusal.ensures in
    let z = refused_ok _ _ c.in_ok-rename_refusal.was in
    rw (c.literals_of-carried.ensures, c.hashes_of-hashed.ensures)
    (rename_done _ a.step a.solvervars a.lits.now a.hashes.now a.out.now a.hashout.now _ _ _ e z refl refl).does

pub returns-clause-out : goal.returns-clause-out
returns-clause-out c =
    let a = c.args in
    let e = c.rename_refusal.ensures in
    let z = refused_ok _ _ c.in_ok-rename_refusal.was in
    let w = c.rename_lits.ensures ∙ ap (λ (ls : List ℕ). sets a.out.now 0 (names_by a.gs.now a.solvervars ls)) c.literals_of-carried.ensures in
    (rename_done _ a.step a.solvervars a.lits.now a.hashes.now a.out.now a.hashout.now _ _ _ e z w refl).words

pub returns-clause-hashout : goal.returns-clause-hashout
returns-clause-hashout c =
    let a = c.args in
    let e = c.rename_refusal.ensures in
    let z = refused_ok _ _ c.in_ok-rename_refusal.was in
    let w = c.copy_hashes.ensures ∙ ap (sets a.hashout.now 0) c.hashes_of-hashed.ensures in
    (rename_done _ a.step a.solvervars a.lits.now a.hashes.now a.out.now a.hashout.now _ _ _ e z refl w).more

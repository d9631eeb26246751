use Rattle.std.specs.Prelude.{Err}
use Rattle.scope.specs.declared.Refusal.TheVariants.{Unsound}
use lib.ListN.{length}
use mathlib.Core.Path.{refl}
use Rattle.std.proofs.lemmas.Result.{err_from_is_err_and}
use Rattle.table.proofs.CheckLaws.{refuses_1, passes_1}
use Rattle.simplify.proofs.SimplifyLaws.{comes_unsound, parts, meets}
use Rattle.simplify.proofs.simplify_clause.Goals as goal

pub returns-in_err-check_sound-clause-meets : goal.returns-in_err-check_sound-clause-meets
returns-in_err-check_sound-clause-meets c =
    let a = c.args in
    let q = refuses_1 _ _ _ c.check_sound.ensures c.in_err-check_sound.was in
    let e = comes_unsound a.f _ a.lits.now a.redundant (length a.out.now) (length a.bytes.now) q.0 in
    let w = parts _ _ _ a.out.now a.bytes.now a.out.now a.bytes.now e refl refl refl in
    let p = err_from_is_err_and c.from_residual.result c.from_residual.ensures.1 in
    rw (p.1, p.2, q.1) (meets a.f _ a.lits.now a.redundant (length a.out.now) (length a.bytes.now) (Err Unsound) w.0)

pub returns-in_err-check_sound-clause-out : goal.returns-in_err-check_sound-clause-out
returns-in_err-check_sound-clause-out c =
    let a = c.args in
    let q = refuses_1 _ _ _ c.check_sound.ensures c.in_err-check_sound.was in
    let e = comes_unsound a.f _ a.lits.now a.redundant (length a.out.now) (length a.bytes.now) q.0 in
    let w = parts _ _ _ a.out.now a.bytes.now a.out.now a.bytes.now e refl refl refl in
    w.1.0

pub returns-in_err-check_sound-clause-bytes : goal.returns-in_err-check_sound-clause-bytes
returns-in_err-check_sound-clause-bytes c =
    let a = c.args in
    let q = refuses_1 _ _ _ c.check_sound.ensures c.in_err-check_sound.was in
    let e = comes_unsound a.f _ a.lits.now a.redundant (length a.out.now) (length a.bytes.now) q.0 in
    let w = parts _ _ _ a.out.now a.bytes.now a.out.now a.bytes.now e refl refl refl in
    w.1.1

pub known_simplify_clause-requires : goal.known_simplify_clause-requires
known_simplify_clause-requires c = passes_1 _ _ _ c.check_sound.ensures c.in_ok-check_sound.was

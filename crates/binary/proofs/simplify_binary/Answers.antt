use Rattle.std.proofs.lemmas.Result.{err_from_is_err_and}
use Rattle.table.proofs.CheckLaws.{refuses_1, passes_1}
use Rattle.binary.proofs.ThinLaws.{thin_unsound}
use Rattle.binary.proofs.simplify_binary.Goals as goal

pub returns-in_err-check_sound-clause-meets : goal.returns-in_err-check_sound-clause-meets
returns-in_err-check_sound-clause-meets c =
    let p = err_from_is_err_and c.from_residual.result c.from_residual.ensures.1 in
    let q = refuses_1 _ _ _ c.check_sound.ensures c.in_err-check_sound.was in
    rw (p.1, p.2, q.1) (thin_unsound _ _ _ c.args.out.now c.args.bytes.now q.0).0

pub returns-in_err-check_sound-clause-out : goal.returns-in_err-check_sound-clause-out
returns-in_err-check_sound-clause-out c =
    let q = refuses_1 _ _ _ c.check_sound.ensures c.in_err-check_sound.was in
    (thin_unsound _ _ _ c.args.out.now c.args.bytes.now q.0).1.0

pub returns-in_err-check_sound-clause-bytes : goal.returns-in_err-check_sound-clause-bytes
returns-in_err-check_sound-clause-bytes c =
    let q = refuses_1 _ _ _ c.check_sound.ensures c.in_err-check_sound.was in
    (thin_unsound _ _ _ c.args.out.now c.args.bytes.now q.0).1.1

pub known_simplify_binary-requires : goal.known_simplify_binary-requires
known_simplify_binary-requires c = passes_1 _ _ _ c.check_sound.ensures c.in_ok-check_sound.was

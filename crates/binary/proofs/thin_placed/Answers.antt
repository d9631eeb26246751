use Rattle.scope.specs.Binary.{sections_of}
use Rattle.binary.specs.Entries.{words_by, entries_by, bytes_by}
use Rattle.binary.proofs.ThinLaws.{words_count, lacks_words, lacks_bytes, fits}
use Rattle.std.proofs.lemmas.Result.{err_from_is_err_and}
use Prim.Native.Nat.{◌+◌, ◌/◌}
use native.Mathlib.Omega.{arith}
use Rattle.binary.proofs.thin_placed.Goals as goal

pub returns-then-out-words-clause-value : goal.returns-then-out-words-clause-value
returns-then-out-words-clause-value c =
    let z = words_count c.args.assignment.now c.args.s.now.n c.args.s.now.lists.now in
    (lacks_words (words_by c.args.assignment.now (sections_of c.args.s.now.n c.args.s.now.lists.now))
    (entries_by c.args.assignment.now (sections_of c.args.s.now.n c.args.s.now.lists.now))
    (bytes_by c.args.f c.args.gs.now c.args.assignment.now (sections_of c.args.s.now.n c.args.s.now.lists.now))
    c.args.out.now c.args.bytes.now (omega (arith, z, c.count_all-kept.ensures.value, c.if-out-words.true))).0

pub returns-then-out-words-clause-out : goal.returns-then-out-words-clause-out
returns-then-out-words-clause-out c =
    let z = words_count c.args.assignment.now c.args.s.now.n c.args.s.now.lists.now in
    (lacks_words (words_by c.args.assignment.now (sections_of c.args.s.now.n c.args.s.now.lists.now))
    (entries_by c.args.assignment.now (sections_of c.args.s.now.n c.args.s.now.lists.now))
    (bytes_by c.args.f c.args.gs.now c.args.assignment.now (sections_of c.args.s.now.n c.args.s.now.lists.now))
    c.args.out.now c.args.bytes.now (omega (arith, z, c.count_all-kept.ensures.value, c.if-out-words.true))).1.0

pub returns-then-out-words-clause-bytes : goal.returns-then-out-words-clause-bytes
returns-then-out-words-clause-bytes c =
    let z = words_count c.args.assignment.now c.args.s.now.n c.args.s.now.lists.now in
    (lacks_words (words_by c.args.assignment.now (sections_of c.args.s.now.n c.args.s.now.lists.now))
    (entries_by c.args.assignment.now (sections_of c.args.s.now.n c.args.s.now.lists.now))
    (bytes_by c.args.f c.args.gs.now c.args.assignment.now (sections_of c.args.s.now.n c.args.s.now.lists.now))
    c.args.out.now c.args.bytes.now (omega (arith, z, c.count_all-kept.ensures.value, c.if-out-words.true))).1.1

pub put_lists-requires : goal.put_lists-requires
put_lists-requires c =
    let z = words_count c.args.assignment.now c.args.s.now.n c.args.s.now.lists.now in
    omega (arith, z, c.count_all-kept.ensures.value, c.if-out-words.false)

pub returns-clause-value : goal.returns-clause-value
returns-clause-value c =
    let z = words_count c.args.assignment.now c.args.s.now.n c.args.s.now.lists.now in
    (fits (words_by c.args.assignment.now (sections_of c.args.s.now.n c.args.s.now.lists.now))
    (entries_by c.args.assignment.now (sections_of c.args.s.now.n c.args.s.now.lists.now))
    (bytes_by c.args.f c.args.gs.now c.args.assignment.now (sections_of c.args.s.now.n c.args.s.now.lists.now))
    c.args.out.now c.args.bytes.now _ (c.args.s.now.n + c.count_all-kept.result) (c.count_all-kept.result / 2) _ _ _ c.deletes_len.ensures c.in_ok-deleted.was
    c.put_lists.ensures c.put_deletes.ensures
    (omega (arith, z, c.count_all-kept.ensures.value)) (omega (arith, z, c.count_all-kept.ensures.value, c.if-out-words.false))
    (omega (arith, c.count_all-kept.ensures.value))).0

pub returns-clause-out : goal.returns-clause-out
returns-clause-out c =
    let z = words_count c.args.assignment.now c.args.s.now.n c.args.s.now.lists.now in
    (fits (words_by c.args.assignment.now (sections_of c.args.s.now.n c.args.s.now.lists.now))
    (entries_by c.args.assignment.now (sections_of c.args.s.now.n c.args.s.now.lists.now))
    (bytes_by c.args.f c.args.gs.now c.args.assignment.now (sections_of c.args.s.now.n c.args.s.now.lists.now))
    c.args.out.now c.args.bytes.now _ (c.args.s.now.n + c.count_all-kept.result) (c.count_all-kept.result / 2) _ _ _ c.deletes_len.ensures c.in_ok-deleted.was
    c.put_lists.ensures c.put_deletes.ensures
    (omega (arith, z, c.count_all-kept.ensures.value)) (omega (arith, z, c.count_all-kept.ensures.value, c.if-out-words.false))
    (omega (arith, c.count_all-kept.ensures.value))).1.0

pub returns-clause-bytes : goal.returns-clause-bytes
returns-clause-bytes c =
    let z = words_count c.args.assignment.now c.args.s.now.n c.args.s.now.lists.now in
    (fits (words_by c.args.assignment.now (sections_of c.args.s.now.n c.args.s.now.lists.now))
    (entries_by c.args.assignment.now (sections_of c.args.s.now.n c.args.s.now.lists.now))
    (bytes_by c.args.f c.args.gs.now c.args.assignment.now (sections_of c.args.s.now.n c.args.s.now.lists.now))
    c.args.out.now c.args.bytes.now _ (c.args.s.now.n + c.count_all-kept.result) (c.count_all-kept.result / 2) _ _ _ c.deletes_len.ensures c.in_ok-deleted.was
    c.put_lists.ensures c.put_deletes.ensures
    (omega (arith, z, c.count_all-kept.ensures.value)) (omega (arith, z, c.count_all-kept.ensures.value, c.if-out-words.false))
    (omega (arith, c.count_all-kept.ensures.value))).1.1

pub returns-in_err-deleted-clause-value : goal.returns-in_err-deleted-clause-value
returns-in_err-deleted-clause-value c =
    let z = words_count c.args.assignment.now c.args.s.now.n c.args.s.now.lists.now in
    let w = lacks_bytes (words_by c.args.assignment.now (sections_of c.args.s.now.n c.args.s.now.lists.now))
    (entries_by c.args.assignment.now (sections_of c.args.s.now.n c.args.s.now.lists.now))
    (bytes_by c.args.f c.args.gs.now c.args.assignment.now (sections_of c.args.s.now.n c.args.s.now.lists.now))
    c.args.out.now c.args.bytes.now _ _ (omega (arith, z, c.count_all-kept.ensures.value, c.if-out-words.false)) c.deletes_len.ensures
    c.in_err-deleted.was in
    let p = err_from_is_err_and c.from_residual.result c.from_residual.ensures.1 in
    rw (p.1, p.2) w.0

pub returns-in_err-deleted-clause-out : goal.returns-in_err-deleted-clause-out
returns-in_err-deleted-clause-out c =
    let z = words_count c.args.assignment.now c.args.s.now.n c.args.s.now.lists.now in
    let w = lacks_bytes (words_by c.args.assignment.now (sections_of c.args.s.now.n c.args.s.now.lists.now))
    (entries_by c.args.assignment.now (sections_of c.args.s.now.n c.args.s.now.lists.now))
    (bytes_by c.args.f c.args.gs.now c.args.assignment.now (sections_of c.args.s.now.n c.args.s.now.lists.now))
    c.args.out.now c.args.bytes.now _ _ (omega (arith, z, c.count_all-kept.ensures.value, c.if-out-words.false)) c.deletes_len.ensures
    c.in_err-deleted.was in
    w.1.0

pub returns-in_err-deleted-clause-bytes : goal.returns-in_err-deleted-clause-bytes
returns-in_err-deleted-clause-bytes c =
    let z = words_count c.args.assignment.now c.args.s.now.n c.args.s.now.lists.now in
    let w = lacks_bytes (words_by c.args.assignment.now (sections_of c.args.s.now.n c.args.s.now.lists.now))
    (entries_by c.args.assignment.now (sections_of c.args.s.now.n c.args.s.now.lists.now))
    (bytes_by c.args.f c.args.gs.now c.args.assignment.now (sections_of c.args.s.now.n c.args.s.now.lists.now))
    c.args.out.now c.args.bytes.now _ _ (omega (arith, z, c.count_all-kept.ensures.value, c.if-out-words.false)) c.deletes_len.ensures
    c.in_err-deleted.was in
    w.1.1

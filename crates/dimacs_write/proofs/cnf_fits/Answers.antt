use Prim.Native.Nat.{ℕ}
use mathlib.Core.Path.{sym, ap, ◌∙◌}
use native.Mathlib.Omega.{arith}
use lib.Dec.{leb}
use lib.ListN.{length}
use borrow.Author.Tests.{le-leb}
use Rattle.dimacs.specs.Cnf.{written}
use Rattle.dimacs.specs.Calls.{clauses_by}
use Rattle.dimacs_write.proofs.CnfLaws.{written_count, written_le}
use Rattle.dimacs_write.proofs.cnf_fits.Goals as goal

pub returns-then-codes-ends : goal.returns-then-codes-ends
returns-then-codes-ends c =
    let a = c.args in
    le-leb _ a.room c.if-codes-ends.true ∙ sym (le-leb (length (written a.v (clauses_by a.codes.now 0 a.ends.now))) a.room
    (omega (arith, written_le a.codes.now a.ends.now a.v c.requires.writable c.requires.v_bound (omega arith), c.if-codes-ends.true)))

pub returns-else-codes-ends : goal.returns-else-codes-ends
returns-else-codes-ends c =
    let a = c.args in
    let e = written_count a.codes.now a.ends.now a.v c.requires.writable in
    ap (λ (n : ℕ). leb n a.room) (omega (arith, e, c.numbers_len.ensures.value, c.digits.ensures.value, c.digits-else-codes-ends.ensures.value))

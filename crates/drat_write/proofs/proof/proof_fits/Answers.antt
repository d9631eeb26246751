use Prim.Native.Nat.{ℕ}
use mathlib.Core.Path.{sym, ap, ◌∙◌}
use native.Mathlib.Omega.{arith}
use lib.Dec.{leb}
use lib.ListN.{length}
use borrow.Author.Tests.{le-leb}
use Rattle.drat.proofs.ListedLaws.{listed_length, listed_le}
use Rattle.drat.specs.Grammar.{encode}
use Rattle.drat.specs.Listed.{listed}
use Rattle.drat_write.proofs.proof.proof_fits.Goals as goal

pub returns-then-codes-ends : goal.returns-then-codes-ends
returns-then-codes-ends c =
    let a = c.args in
    let p = c.requires in
    let l = listed_le a.f a.codes.now a.ends.now a.kinds.now p.coded p.paired p.rising in
    le-leb _ a.room c.if-codes-ends.true
    ∙ sym (le-leb (length (encode a.f (listed a.codes.now 0 a.ends.now a.kinds.now))) a.room (omega (arith, l, c.if-codes-ends.true)))

pub returns-else-codes-ends : goal.returns-else-codes-ends
returns-else-codes-ends c =
    let a = c.args in
    let p = c.requires in
    let e = listed_length a.f a.codes.now 0 a.ends.now a.kinds.now p.paired p.rising in
    ap (λ (n : ℕ). leb n a.room) (omega (arith, e, c.numbers_len.ensures.value, c.frames_len.ensures.value))

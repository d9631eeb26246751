use Prim.Native.Nat.{◌<◌}
use mathlib.Core.Path.{sym}
use native.Mathlib.Omega.{arith}
use lib.ListN.{length}
use Rattle.dimacs_read.specs.Heading.{digits_at}
use Rattle.dimacs_read.proofs.HeadingLaws.{proper_nought, proper_other}
use Rattle.dimacs_read.proofs.heading.is_proper.Goals as goal

pub returns-then-s-from-eq48 : goal.returns-then-s-from-eq48
returns-then-s-from-eq48 c =
    let a = c.args in
    let n : 1 < length (digits_at a.s.now a.from) = omega (
      arith,
      c.requires.next_value,
      c.if-next-from.false,
      c.if-next-from-2.false,
    ) in
    sym (proper_nought a.s.now a.from n (omega (arith, c.if-s-from-eq48.true)))

pub returns : goal.returns
returns c =
    let a = c.args in
    let n : 1 < length (digits_at a.s.now a.from) = omega (
      arith,
      c.requires.next_value,
      c.if-next-from.false,
      c.if-next-from-2.false,
    ) in
    sym (proper_other a.s.now a.from n (λ e. omega (arith, e, c.if-s-from-eq48.false)))

use mathlib.Core.Path.{sym, ◌∙◌}
use native.Mathlib.Omega.{arith}
use lib.ListN.{length}
use borrow.Author.Tests.{le-leb}
use Rattle.drat.proofs.Shapes.{step_le}
use Rattle.drat.specs.Grammar.{step_of, encode_step}
use Rattle.drat_write.proofs.step_fits.Goals as goal

pub returns-then-lits-room : goal.returns-then-lits-room
returns-then-lits-room c =
    let a = c.args in
    le-leb _ a.room c.if-lits-room.true
    ∙ sym (le-leb (length (encode_step a.f (step_of a.k a.lits.now))) a.room (omega (arith, step_le a.f a.k a.lits.now c.requires.codes, c.if-lits-room.true)))

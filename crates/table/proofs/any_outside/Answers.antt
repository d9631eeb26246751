use mathlib.Core.Path.{sym}
use lib.Dec.{leb}
use Rattle.base.proofs.MemberLaws.{any_start}
use Rattle.scope.specs.Literals.{index_of}
use Rattle.table.proofs.CheckLaws.{any_on}
use Rattle.table.proofs.any_outside.Goals as goal

pub loop-lit-init : goal.loop-lit-init
loop-lit-init c = sym (any_start (λ x. leb c.args.capacity (index_of x)) c.args.lits.now)

pub loop-lit-preserved : goal.loop-lit-preserved
loop-lit-preserved c =
    any_on (λ x. leb c.args.capacity (index_of x)) c.args.lits.now _ _ c.loop-lit-test.true c.loop-lit.invariant

use Rattle.scope.specs.Write.{rename_lit, rename_lits}
use lib.ListN.{get_or}
use Rattle.base.proofs.StoreLaws.{copy_next, copy_end}
use Rattle.steps.proofs.UnitLaws.{unit_named}
use Rattle.steps.proofs.rename.rename_lits.Goals as goal

pub loop-i-preserved : goal.loop-i-preserved
loop-i-preserved c =
    copy_next (rename_lit (λ s. get_or c.args.gs.now s 0) c.args.solvervars) c.args.out.now c.args.lits.now _ _ _
    c.loop-i-test.true c.loop-i.invariant
    (unit_named (rename_lit (λ s. get_or c.args.gs.now s 0) c.args.solvervars) c.args.lits.now c.loop-i.i _ c.loop-i-test.true c.rename_unit.ensures)

pub returns : goal.returns
unfolding rename_lits
returns c =
    copy_end (rename_lit (λ s. get_or c.args.gs.now s 0) c.args.solvervars) c.args.out.now c.args.lits.now _ _
    c.loop-i-test.false c.loop-i.invariant

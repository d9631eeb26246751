use Rattle.table.proofs.CheckLaws.{all_start, row_step, rows_end}
use native.Mathlib.Omega.{arith}
use Rattle.table.proofs.checks.rows_ok.Goals as goal

pub loop-i-init : goal.loop-i-init
loop-i-init c = all_start _

pub loop-i-preserved : goal.loop-i-preserved
loop-i-preserved c = row_step c.args.records.now c.args.ug.now c.args.sg.now _ _ _ c.loop-i.invariant c.row_ok-ok.ensures (omega arith)

pub returns : goal.returns
returns c =
    rows_end _ _ _ _ _ _ (c.requires.mark_in_bounds) (c.requires.records_value)
    (c.requires.ug_value) (c.requires.sg_value)
    c.loop-i.invariant (omega arith)

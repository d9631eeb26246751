use Rattle.steps.proofs.WriteLaws.{bytes_add, bytes_delete, bytes_nothing, bytes_refused}
use lib.ListN.{length}
use native.Mathlib.Omega.{arith}
use mathlib.Core.Path.{sym, ap, ◌∙◌}
use Rattle.steps.proofs.write.bytes_len.Goals as goal

pub returns-in-Add-clause-value : goal.returns-in-Add-clause-value
returns-in-Add-clause-value c =
    c.step_len.ensures.value ∙ sym (ap length (bytes_add c.args.f _ c.args.lits.now c.in-Add.is))

pub returns-in-Delete-clause-value : goal.returns-in-Delete-clause-value
returns-in-Delete-clause-value c =
    c.step_len-in-Delete.ensures.value ∙ sym (ap length (bytes_delete c.args.f _ c.args.lits.now c.in-Delete.is))

pub returns-in-Nothing-clause-value : goal.returns-in-Nothing-clause-value
returns-in-Nothing-clause-value c =
    omega (arith, ap length (bytes_nothing c.args.f _ c.args.lits.now c.in-Nothing.is))

pub returns-in-Refused-clause-value : goal.returns-in-Refused-clause-value
returns-in-Refused-clause-value c =
    omega (arith, ap length (bytes_refused c.args.f _ c.args.lits.now c.in-Refused.is))

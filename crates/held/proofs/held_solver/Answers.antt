use mathlib.Core.Path.{◌∙◌, ap}
use Rattle.table.proofs.FoundLaws.{global_word, global_word_lem}
use Rattle.held.proofs.RunLaws.{held_none, held_some}
use Rattle.held.proofs.held_solver.Goals as goal

pub returns-in_err-global_of : goal.returns-in_err-global_of
returns-in_err-global_of c =
    rw c.from_residual.ensures (held_none _ _ _ (global_word_lem _ _ c.global_of.ensures ∙ ap global_word c.in_err-global_of.was))

pub returns : goal.returns
returns c = held_some _ _ _ _ _ (global_word_lem _ _ c.global_of.ensures ∙ ap global_word c.in_ok-global_of.was) c.solver_of.ensures

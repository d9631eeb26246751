use Rattle.table.proofs.FoundLaws.{global_word, global_word_lem, solver_word_lem}
use Rattle.distinct.proofs.NeedLaws.{needs_none, needs_solver}
use mathlib.Core.Path.{◌∙◌, ap}
use Rattle.distinct.proofs.needs_grant.Goals as goal

pub returns-in_default : goal.returns-in_default
returns-in_default c = needs_none _ _ _ (global_word_lem _ _ c.global_of.ensures ∙ ap global_word c.in_default.is)

pub returns : goal.returns
returns c =
    needs_solver _ _ _ _ _ _ (global_word_lem _ _ c.global_of.ensures ∙ ap global_word c.in-Some.is) (solver_word_lem _ _ c.solver_of.ensures)
    c.is_none.ensures

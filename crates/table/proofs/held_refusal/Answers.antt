use Rattle.table.proofs.FoundLaws.{unheld_8, held_0}
use mathlib.Core.Path.{sym, ◌∙◌}
use Rattle.table.proofs.held_refusal.Goals as goal

pub returns-in_default : goal.returns-in_default
returns-in_default c =
    λ t q. unheld_8 t _ _ q (sym c.in_default.is ∙ c.holder.ensures)

pub returns : goal.returns
returns c =
    λ t q. held_0 t _ _ _ q (sym c.in-Some.is ∙ c.holder.ensures)

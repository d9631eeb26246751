use mathlib.Core.Path.{sym, ◌∙◌}
use borrow.Author.Tests.{eqb-true, eqb-false}
use Rattle.modes.proofs.NotesLaws.{notes_same, notes_unused, notes_hide, notes_show, notes_change}
use Rattle.modes.proofs.mode_notes.Goals as goal

pub returns-then-w-from : goal.returns-then-w-from
returns-then-w-from c = notes_same _ _ _ (c.if-w-from.true ∙ c.from.ensures)

pub returns-then-solver-w : goal.returns-then-solver-w
returns-then-solver-w c =
    notes_unused _ _ _ (λ z. c.if-w-from.false (z ∙ sym c.from.ensures)) (eqb-true _ _ (sym c.is_hide.ensures ∙ c.if-is_hide.true)) c.if-solver-w.true

pub returns-else-solver-w : goal.returns-else-solver-w
returns-else-solver-w c =
    notes_hide _ _ _ (λ z. c.if-w-from.false (z ∙ sym c.from.ensures)) (eqb-true _ _ (sym c.is_hide.ensures ∙ c.if-is_hide.true)) c.if-solver-w.false

pub returns-then-w-eq2 : goal.returns-then-w-eq2
returns-then-w-eq2 c =
    notes_show _ _ _ (λ z. c.if-w-from.false (z ∙ sym c.from.ensures)) (eqb-false _ _ (sym c.is_hide.ensures ∙ c.if-is_hide.false)) c.if-w-eq2.true

pub returns-else-w-eq2 : goal.returns-else-w-eq2
returns-else-w-eq2 c =
    notes_change _ _ _ (λ z. c.if-w-from.false (z ∙ sym c.from.ensures)) (eqb-false _ _ (sym c.is_hide.ensures ∙ c.if-is_hide.false)) c.if-w-eq2.false

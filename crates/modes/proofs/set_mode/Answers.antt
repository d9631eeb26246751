use mathlib.Core.Path.{sym, ◌∙◌}
use borrow.Author.Tests.{eqb-true, eqb-false}
use Rattle.modes.proofs.SetModeLaws.{same_does, set_fits, hide_is, hide_asks, hide_does, show_is, show_asks, show_does, change_asks, change_does}
use Rattle.modes.proofs.NotesLaws.{there_live}
use Rattle.modes.proofs.set_mode.Goals as goal

pub returns-then-was-from : goal.returns-then-was-from
returns-then-was-from c = λ gs a. same_does _ _ _ (there_live _ _ c.requires.sets.there).words
    (c.if-was-from.true ∙ c.from.ensures) _

pub hide-p-requires : goal.hide-p-requires
hide-p-requires c =
    hide_asks _ _ _ _ _ c.requires.sets (λ z. c.if-was-from.false (z ∙ sym c.from.ensures)) (eqb-true _ _ (sym c.is_hide.ensures ∙ c.if-is_hide.true))

pub overflow_cast-result : goal.overflow_cast-result
overflow_cast-result c =
    record {
      fits = set_fits _ _ _ _ _ c.requires.sets _ (hide_is _ _ _ (there_live _ _ c.requires.sets.there).words (λ z. c.if-was-from.false (z ∙ sym c.from.ensures))
          (eqb-true _ _ (sym c.is_hide.ensures ∙ c.if-is_hide.true))) _ _ _ _ (c.hide-p.ensures _ _);
    }

pub returns-then-is_hide : goal.returns-then-is_hide
returns-then-is_hide c =
    λ gs a. hide_does _ _ _ (there_live _ _ c.requires.sets.there).words (λ z. c.if-was-from.false (z ∙ sym c.from.ensures)) (eqb-true _ _ (sym c.is_hide.ensures ∙ c.if-is_hide.true)) _ _ _ _ _ (c.hide-p.ensures _ _)

pub show-p-requires : goal.show-p-requires
show-p-requires c =
    show_asks _ _ _ _ _ c.requires.sets (λ z. c.if-was-from.false (z ∙ sym c.from.ensures)) (eqb-false _ _ (sym c.is_hide.ensures ∙ c.if-is_hide.false))
    c.if-was-eq2.true

pub overflow_cast-result-then-was-eq2 : goal.overflow_cast-result-then-was-eq2
overflow_cast-result-then-was-eq2 c =
    record {
      fits = set_fits _ _ _ _ _ c.requires.sets _ (show_is _ _ _ (there_live _ _ c.requires.sets.there).words (λ z. c.if-was-from.false (z ∙ sym c.from.ensures))
          (eqb-false _ _ (sym c.is_hide.ensures ∙ c.if-is_hide.false)) c.if-was-eq2.true) _ _ _ _ (c.show-p.ensures.leaves _);
    }

pub returns-then-was-eq2 : goal.returns-then-was-eq2
returns-then-was-eq2 c =
    λ gs a. show_does _ _ _ (there_live _ _ c.requires.sets.there).words (λ z. c.if-was-from.false (z ∙ sym c.from.ensures)) (eqb-false _ _ (sym c.is_hide.ensures ∙ c.if-is_hide.false)) c.if-was-eq2.true _ _ _ _ _ _
    (c.show-p.ensures.leaves _) c.show-p.ensures.user_value

pub change-requires-clause-in_bounds : goal.change-requires-clause-in_bounds
change-requires-clause-in_bounds c =
    (change_asks _ _ _ _ _ c.requires.sets (λ z. c.if-was-from.false (z ∙ sym c.from.ensures)) (eqb-false _ _ (sym c.is_hide.ensures ∙ c.if-is_hide.false))
    c.if-was-eq2.false).1.1.1

pub returns : goal.returns
returns c =
    λ gs a. change_does _ _ _ (there_live _ _ c.requires.sets.there).words
    (λ z. c.if-was-from.false (z ∙ sym c.from.ensures))
    (eqb-false _ _ (sym c.is_hide.ensures ∙ c.if-is_hide.false)) c.if-was-eq2.false _
    _ _ c.change.ensures.records_value c.change.ensures.fills

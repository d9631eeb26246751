use Rattle.removal.proofs.SweepOneLaws.{learn_asks, one_none, one_kept, one_asks, one_removed}
use Rattle.table.proofs.FoundLaws.{global_word_lem}
use mathlib.Core.Path.{sym, ◌∙◌}
use Rattle.removal.proofs.sweep_one.Goals as goal

pub returns-in_default : goal.returns-in_default
returns-in_default c =
    λ gu. one_none _ _ _ _ (sym c.in_default.is ∙ c.holder.ensures)

pub bounds-records-g : goal.bounds-records-g
bounds-records-g c =
    (c.requires.sweepable _ (global_word_lem _ _ (sym c.in-Some.is
    ∙ c.holder.ensures))).held.live.words

pub bounds-assignment-solver : goal.bounds-assignment-solver
bounds-assignment-solver c =
    (c.requires.sweepable _ (global_word_lem _ _ (sym c.in-Some.is
    ∙ c.holder.ensures))).value

pub learnt_record-w-requires-clause-w_bound : goal.learnt_record-w-requires-clause-w_bound
learnt_record-w-requires-clause-w_bound c =
    (learn_asks _ _ _ _ _ _ _ _
    (c.requires.sweepable _ (global_word_lem _ _ (sym c.in-Some.is
    ∙ c.holder.ensures)))).0

pub learnt_record-w-requires-clause-v_bound : goal.learnt_record-w-requires-clause-v_bound
learnt_record-w-requires-clause-v_bound c =
    (learn_asks _ _ _ _ _ _ _ _
    (c.requires.sweepable _ (global_word_lem _ _ (sym c.in-Some.is
    ∙ c.holder.ensures)))).1

pub bounds-records-g-2 : goal.bounds-records-g-2
bounds-records-g-2 c =
    (c.requires.sweepable _ (global_word_lem _ _ (sym c.in-Some.is
    ∙ c.holder.ensures))).held.live.words

pub returns-then-not-is_loose : goal.returns-then-not-is_loose
returns-then-not-is_loose c =
    λ gu. one_kept _ _ _ _ (sym c.in-Some.is ∙ c.holder.ensures)
    (c.requires.sweepable _ (global_word_lem _ _ (sym c.in-Some.is
    ∙ c.holder.ensures))) _ c.learnt_record-w.ensures.value _ (sym c.is_loose.ensures ∙ c.if-not-is_loose.true)

pub remove_held-requires : goal.remove_held-requires
remove_held-requires c =
    one_asks _ _ _ _ _ _ _ _ (sym c.in-Some.is ∙ c.holder.ensures)
    (c.requires.sweepable _ (global_word_lem _ _ (sym c.in-Some.is ∙ c.holder.ensures))) _
    c.learnt_record-w.ensures.value
    (sym c.is_loose.ensures ∙ c.if-not-is_loose.false) _ _
    c.requires.words

pub returns : goal.returns
returns c =
    λ gu. one_removed _ _ _ _ (sym c.in-Some.is ∙ c.holder.ensures)
    (c.requires.sweepable _ (global_word_lem _ _ (sym c.in-Some.is ∙ c.holder.ensures))) _
    c.learnt_record-w.ensures.value _ _ _ _ (sym c.is_loose.ensures ∙ c.if-not-is_loose.false)
    (c.remove_held.ensures _ _)

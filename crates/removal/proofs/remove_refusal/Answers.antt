use native.Mathlib.Omega.{arith}
use borrow.Author.Tests.{eq-eqb, ne_eqb}
use Rattle.removal.proofs.RefusalLaws.{remove_unheld, remove_reads, remove_16, remove_2, remove_0}
use mathlib.Core.Path.{sym, ◌∙◌}
use Rattle.removal.proofs.remove_refusal.Goals as goal

pub returns-in_default-clause-value : goal.returns-in_default-clause-value
returns-in_default-clause-value c =
    remove_unheld _ _ _ c.requires (sym c.in_default.is ∙ c.holder.ensures)

pub bounds-t-global : goal.bounds-t-global
bounds-t-global c =
    (remove_reads _ _ _ (sym c.in-Some.is ∙ c.holder.ensures) c.requires).0

pub bounds-t-global-2 : goal.bounds-t-global-2
bounds-t-global-2 c =
    let h = remove_reads _ _ _ (sym c.in-Some.is ∙ c.holder.ensures) c.requires in
    omega arith

pub returns-then-assumed-clause-value : goal.returns-then-assumed-clause-value
returns-then-assumed-clause-value c =
    remove_16 _ _ _ c.requires _ (sym c.in-Some.is ∙ c.holder.ensures)
    (eq-eqb _ _ c.if-assumed.true)

pub returns-then-room-words-clause-value : goal.returns-then-room-words-clause-value
returns-then-room-words-clause-value c =
    remove_2 _ _ _ c.requires _ (sym c.in-Some.is ∙ c.holder.ensures)
    (ne_eqb _ _ c.if-assumed.false) _ c.removal_notes.ensures
    (let k = c.if-room-words.true in omega arith)

pub returns-clause-value : goal.returns-clause-value
returns-clause-value c =
    remove_0 _ _ _ c.requires _ (sym c.in-Some.is ∙ c.holder.ensures)
    (ne_eqb _ _ c.if-assumed.false) _ c.removal_notes.ensures
    (let k = c.if-room-words.false in omega arith)

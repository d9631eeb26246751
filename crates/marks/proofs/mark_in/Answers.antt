use native.Mathlib.Omega.{arith}
use mathlib.Core.Path.{sym, ◌∙◌}
use Rattle.table.proofs.FoundLaws.{global_word_lem}
use Rattle.marks.proofs.ChangeLaws.{mark_in_unheld, mark_in_place, mark_in_small, mark_in_done}
use Rattle.marks.proofs.mark_in.Goals as goal

pub returns-in_default : goal.returns-in_default
returns-in_default c =
    let found = c.holder.ensures in
    let none = global_word_lem _ _ (sym c.in_default.is ∙ found) in
    mark_in_unheld _ _ _ _ none

pub returns-then-records-g : goal.returns-then-records-g
returns-then-records-g c =
    let found = c.holder.ensures in
    let held = global_word_lem _ _ (sym c.in-Some.is ∙ found) in
    λ t k p q. absurd (mark_in_place _ _ _ _ held t k p q c.if-records-g.true)

pub returns-then-w-gt71 : goal.returns-then-w-gt71
returns-then-w-gt71 c =
    let found = c.holder.ensures in
    let held = global_word_lem _ _ (sym c.in-Some.is ∙ found) in
    let large = c.if-w-gt71.true in
    λ t k p q. absurd (mark_in_small _ _ _ _ held t k p q (omega arith))

pub returns : goal.returns
returns c =
    let found = c.holder.ensures in
    let held = global_word_lem _ _ (sym c.in-Some.is ∙ found) in
    mark_in_done _ _ _ _ _ _ held c.marked_record.ensures

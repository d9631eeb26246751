use mathlib.Core.Path.{◌∙◌, ap}
use Rattle.table.proofs.FoundLaws.{global_word, global_word_lem, solver_word, solver_word_lem}
use Rattle.ready.proofs.ReadyLaws.{unready_unmapped, unready_ungranted, unready_large, ready_free, unready_outside, ready_record}
use Rattle.ready.proofs.is_ready.Goals as goal

pub returns-in_default : goal.returns-in_default
returns-in_default c =
    unready_unmapped _ _ _ _ _ (global_word_lem _ _ c.global_of.ensures ∙ ap global_word c.in_default.is)

pub returns-in_default-solver_of : goal.returns-in_default-solver_of
returns-in_default-solver_of c =
    let e = global_word_lem _ _ c.global_of.ensures ∙ ap global_word c.in-Some.is in
    unready_ungranted _ _ _ _ _ _ e (solver_word_lem _ _ c.solver_of.ensures ∙ ap solver_word c.in_default-solver_of.is)

pub returns-then-s-ge4096 : goal.returns-then-s-ge4096
returns-then-s-ge4096 c =
    let e = global_word_lem _ _ c.global_of.ensures ∙ ap global_word c.in-Some.is in
    let k = solver_word_lem _ _ c.solver_of.ensures ∙ ap solver_word c.in-Some-solver_of.is in
    unready_large _ _ _ _ _ _ e _ k c.if-s-ge4096.true

pub returns-then-not-sampling : goal.returns-then-not-sampling
returns-then-not-sampling c =
    let e = global_word_lem _ _ c.global_of.ensures ∙ ap global_word c.in-Some.is in
    let k = solver_word_lem _ _ c.solver_of.ensures ∙ ap solver_word c.in-Some-solver_of.is in
    ready_free _ _ _ _ _ _ e _ k c.if-s-ge4096.false c.if-not-sampling.true

pub returns-then-records-g : goal.returns-then-records-g
returns-then-records-g c =
    let e = global_word_lem _ _ c.global_of.ensures ∙ ap global_word c.in-Some.is in
    let k = solver_word_lem _ _ c.solver_of.ensures ∙ ap solver_word c.in-Some-solver_of.is in
    unready_outside _ _ _ _ _ _ e _ k c.if-s-ge4096.false c.if-not-sampling.false c.if-records-g.true

pub returns : goal.returns
returns c =
    let e = global_word_lem _ _ c.global_of.ensures ∙ ap global_word c.in-Some.is in
    let k = solver_word_lem _ _ c.solver_of.ensures ∙ ap solver_word c.in-Some-solver_of.is in
    ready_record _ _ _ _ _ _ e _ k c.if-s-ge4096.false c.if-not-sampling.false c.if-records-g.false

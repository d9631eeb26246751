use Rattle.std.specs.Prelude.{Some}
use mathlib.Core.Path.{◌≡◌, refl, sym, ap, ◌∙◌}
use lib.ListN.{length}
use Rattle.scope.specs.Table.{Table, table_of}
use Rattle.scope.specs.Outcome.{Outcome}
use Rattle.numbers.specs.declared.HzStep.{HzStep}
use Rattle.numbers.specs.Lines.{step_given, words_at}
use Rattle.numbers.proofs.SurfaceLaws.{same_given, quiet_refused, numbered_given, filled_same}
use Rattle.numbers.proofs.LineLaws.{rename_is, no_rename_step, stepped_given}
use Rattle.capi.proofs.lines.hz_rename.Goals as goal

pub returns-in_default-clause-gives_1 : goal.returns-in_default-clause-gives_1
returns-in_default-clause-gives_1 c =
    let a = c.args in
    let t : Table = table_of a.c a.gu.now a.ug.now a.sg.now a.gs.now a.assignment.now a.records.now in
    let e = no_rename_step a.step t a.solvervars a.lits.now a.hashes.now (length a.out.now) (length a.hashout.now)
    (sym c.step_in.ensures ∙ c.in_default.is) in
    quiet_refused e refl

pub returns-in_default-clause-out : goal.returns-in_default-clause-out
returns-in_default-clause-out c =
    let a = c.args in
    let t : Table = table_of a.c a.gu.now a.ug.now a.sg.now a.gs.now a.assignment.now a.records.now in
    let e = no_rename_step a.step t a.solvervars a.lits.now a.hashes.now (length a.out.now) (length a.hashout.now)
    (sym c.step_in.ensures ∙ c.in_default.is) in
    filled_same a.out.now 0 (ap (λ (o : Outcome). o.words) e) refl

pub returns-in_default-clause-hashout : goal.returns-in_default-clause-hashout
returns-in_default-clause-hashout c =
    let a = c.args in
    let t : Table = table_of a.c a.gu.now a.ug.now a.sg.now a.gs.now a.assignment.now a.records.now in
    let e = no_rename_step a.step t a.solvervars a.lits.now a.hashes.now (length a.out.now) (length a.hashout.now)
    (sym c.step_in.ensures ∙ c.in_default.is) in
    filled_same a.hashout.now 0 (ap (λ (o : Outcome). o.more) e) refl

pub returns-clause-gives_1 : goal.returns-clause-gives_1
returns-clause-gives_1 c =
    let a = c.args in
    let t : Table = table_of a.c a.gu.now a.ug.now a.sg.now a.gs.now a.assignment.now a.records.now in
    let g : step_given a.step ≡ Some c.in-Some.s = sym c.step_in.ensures ∙ c.in-Some.is in
    let e = rename_is a.step t a.solvervars a.lits.now a.hashes.now (length a.out.now) (length a.hashout.now) g in
    let ws = sym (ap words_at g) in
    same_given e (stepped_given t _ a.solvervars a.lits.now a.hashes.now (length a.out.now) (length a.hashout.now)
    (ws ∙ sym (ap (λ (z : HzStep). words_at (step_given z)) c.renamed_out.ensures.step)) ws (numbered_given c.rename_step-r.ensures.meets (c.renamed_out.ensures.numbered _)))

pub returns-clause-out : goal.returns-clause-out
returns-clause-out c =
    let a = c.args in
    let t : Table = table_of a.c a.gu.now a.ug.now a.sg.now a.gs.now a.assignment.now a.records.now in
    let g : step_given a.step ≡ Some c.in-Some.s = sym c.step_in.ensures ∙ c.in-Some.is in
    let e = rename_is a.step t a.solvervars a.lits.now a.hashes.now (length a.out.now) (length a.hashout.now) g in
    filled_same a.out.now 0 (ap (λ (o' : Outcome). o'.words) e) c.rename_step-r.ensures.out

pub returns-clause-hashout : goal.returns-clause-hashout
returns-clause-hashout c =
    let a = c.args in
    let t : Table = table_of a.c a.gu.now a.ug.now a.sg.now a.gs.now a.assignment.now a.records.now in
    let g : step_given a.step ≡ Some c.in-Some.s = sym c.step_in.ensures ∙ c.in-Some.is in
    let e = rename_is a.step t a.solvervars a.lits.now a.hashes.now (length a.out.now) (length a.hashout.now) g in
    filled_same a.hashout.now 0 (ap (λ (o' : Outcome). o'.more) e)
    c.rename_step-r.ensures.hashout

use mathlib.Core.Path.{refl, sym, ap, ◌∙◌}
use lib.ListN.{length}
use Rattle.scope.specs.Table.{Table, table_of}
use Rattle.scope.specs.Outcome.{Outcome}
use Rattle.numbers.proofs.SurfaceLaws.{same_given, quiet_refused, numbered_given, filled_same}
use Rattle.numbers.proofs.LineLaws.{write_is, no_write_format, no_write_step}
use Rattle.capi.proofs.lines.hz_write.Goals as goal

pub returns-in_default-clause-gives : goal.returns-in_default-clause-gives
returns-in_default-clause-gives c =
    let a = c.args in
    let t : Table = table_of a.c a.gu.now a.ug.now a.sg.now a.gs.now a.assignment.now a.records.now in
    let e = no_write_format a.format a.step t a.solvervars a.lits.now a.hashes.now (length a.out.now)
    (sym c.format_in.ensures ∙ c.in_default.is) in
    quiet_refused e refl

pub returns-in_default-clause-out : goal.returns-in_default-clause-out
returns-in_default-clause-out c =
    let a = c.args in
    let t : Table = table_of a.c a.gu.now a.ug.now a.sg.now a.gs.now a.assignment.now a.records.now in
    let e = no_write_format a.format a.step t a.solvervars a.lits.now a.hashes.now (length a.out.now)
    (sym c.format_in.ensures ∙ c.in_default.is) in
    filled_same a.out.now 0 (ap (λ (o : Outcome). o.bytes) e) refl

pub returns-in_default-step_in-clause-gives : goal.returns-in_default-step_in-clause-gives
returns-in_default-step_in-clause-gives c =
    let a = c.args in
    let t : Table = table_of a.c a.gu.now a.ug.now a.sg.now a.gs.now a.assignment.now a.records.now in
    let e = no_write_step a.format a.step t a.solvervars a.lits.now a.hashes.now (length a.out.now)
    (sym c.format_in.ensures ∙ c.in-Some.is)
    (sym c.step_in.ensures ∙ c.in_default-step_in.is) in
    quiet_refused e refl

pub returns-in_default-step_in-clause-out : goal.returns-in_default-step_in-clause-out
returns-in_default-step_in-clause-out c =
    let a = c.args in
    let t : Table = table_of a.c a.gu.now a.ug.now a.sg.now a.gs.now a.assignment.now a.records.now in
    let e = no_write_step a.format a.step t a.solvervars a.lits.now a.hashes.now (length a.out.now)
    (sym c.format_in.ensures ∙ c.in-Some.is)
    (sym c.step_in.ensures ∙ c.in_default-step_in.is) in
    filled_same a.out.now 0 (ap (λ (o : Outcome). o.bytes) e) refl

pub returns-clause-gives : goal.returns-clause-gives
returns-clause-gives c =
    let a = c.args in
    let t : Table = table_of a.c a.gu.now a.ug.now a.sg.now a.gs.now a.assignment.now a.records.now in
    let e = write_is a.format a.step t a.solvervars a.lits.now a.hashes.now (length a.out.now)
    (sym c.format_in.ensures ∙ c.in-Some.is)
    (sym c.step_in.ensures
    ∙ c.in-Some-step_in.is) in
    same_given e (numbered_given c.write_step-r.ensures.meets (c.recorded_out.ensures _))

pub returns-clause-out : goal.returns-clause-out
returns-clause-out c =
    let a = c.args in
    let t : Table = table_of a.c a.gu.now a.ug.now a.sg.now a.gs.now a.assignment.now a.records.now in
    let e = write_is a.format a.step t a.solvervars a.lits.now a.hashes.now (length a.out.now)
    (sym c.format_in.ensures ∙ c.in-Some.is)
    (sym c.step_in.ensures
    ∙ c.in-Some-step_in.is) in
    filled_same a.out.now 0 (ap (λ (o : Outcome). o.bytes) e) c.write_step-r.ensures.out

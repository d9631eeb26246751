use mathlib.Core.Path.{refl, sym, ap, ◌∙◌}
use lib.ListN.{length}
use Rattle.scope.specs.Table.{Table, table_of}
use Rattle.scope.specs.Outcome.{Outcome}
use Rattle.numbers.proofs.SurfaceLaws.{same_given, quiet_refused, numbered_given, filled_same}
use Rattle.numbers.proofs.LineLaws.{binary_is, no_binary_format}
use Rattle.capi.proofs.clauses.hz_simplify_binary.Goals as goal

pub returns-in_default-clause-gives : goal.returns-in_default-clause-gives
returns-in_default-clause-gives c =
    let a = c.args in
    let t : Table = table_of a.c a.gu.now a.ug.now a.sg.now a.gs.now a.assignment.now a.records.now in
    let e = no_binary_format a.format t a.lists.now (length a.out.now) (length a.bytes.now)
    (sym c.format_in.ensures ∙ c.in_default.is) in
    quiet_refused e refl

pub returns-in_default-clause-out : goal.returns-in_default-clause-out
returns-in_default-clause-out c =
    let a = c.args in
    let t : Table = table_of a.c a.gu.now a.ug.now a.sg.now a.gs.now a.assignment.now a.records.now in
    let e = no_binary_format a.format t a.lists.now (length a.out.now) (length a.bytes.now)
    (sym c.format_in.ensures ∙ c.in_default.is) in
    filled_same a.out.now 0 (ap (λ (o : Outcome). o.words) e) refl

pub returns-in_default-clause-bytes : goal.returns-in_default-clause-bytes
returns-in_default-clause-bytes c =
    let a = c.args in
    let t : Table = table_of a.c a.gu.now a.ug.now a.sg.now a.gs.now a.assignment.now a.records.now in
    let e = no_binary_format a.format t a.lists.now (length a.out.now) (length a.bytes.now)
    (sym c.format_in.ensures ∙ c.in_default.is) in
    filled_same a.bytes.now 0
    (ap (λ (o : Outcome). o.bytes) e) refl

pub returns-clause-gives : goal.returns-clause-gives
returns-clause-gives c =
    let a = c.args in
    let t : Table = table_of a.c a.gu.now a.ug.now a.sg.now a.gs.now a.assignment.now a.records.now in
    let e = binary_is a.format t a.lists.now (length a.out.now) (length a.bytes.now)
    (sym c.format_in.ensures ∙ c.in-Some.is) in
    same_given e (numbered_given c.simplify_binary-r.ensures.meets (c.thinned_out.ensures _))

pub returns-clause-out : goal.returns-clause-out
returns-clause-out c =
    let a = c.args in
    let t : Table = table_of a.c a.gu.now a.ug.now a.sg.now a.gs.now a.assignment.now a.records.now in
    let e = binary_is a.format t a.lists.now (length a.out.now) (length a.bytes.now)
    (sym c.format_in.ensures ∙ c.in-Some.is) in
    filled_same a.out.now 0 (ap (λ (o : Outcome). o.words) e) c.simplify_binary-r.ensures.out

pub returns-clause-bytes : goal.returns-clause-bytes
returns-clause-bytes c =
    let a = c.args in
    let t : Table = table_of a.c a.gu.now a.ug.now a.sg.now a.gs.now a.assignment.now a.records.now in
    let e = binary_is a.format t a.lists.now (length a.out.now) (length a.bytes.now)
    (sym c.format_in.ensures ∙ c.in-Some.is) in
    filled_same a.bytes.now 0 (ap (λ (o : Outcome). o.bytes) e) c.simplify_binary-r.ensures.bytes

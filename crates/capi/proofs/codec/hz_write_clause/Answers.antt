use mathlib.Core.Path.{refl, sym, ap, ◌∙◌}
use lib.ListN.{length}
use Rattle.drat.specs.Writing.{Writing}
use Rattle.numbers.specs.Surface.{plain}
use Rattle.numbers.proofs.SurfaceLaws.{filled_same}
use Rattle.capi.proofs.CodecLaws.{write_clause_is, no_clause_format, no_clause_kind, same_numbers}
use Rattle.capi.proofs.codec.hz_write_clause.Goals as goal

pub returns-in_default-clause-value : goal.returns-in_default-clause-value
returns-in_default-clause-value c =
    let a = c.args in
    let e = no_clause_format a.format a.kind a.buf.now a.a a.b (length a.out.now) a.at
    (sym c.format_in.ensures ∙ c.in_default.is) in
    same_numbers (plain 1) (ap (λ (w : Writing). w.answer) e) refl

pub returns-in_default-clause-out : goal.returns-in_default-clause-out
returns-in_default-clause-out c =
    let a = c.args in
    let e = no_clause_format a.format a.kind a.buf.now a.a a.b (length a.out.now) a.at
    (sym c.format_in.ensures ∙ c.in_default.is) in
    filled_same a.out.now a.at (ap (λ (w : Writing). w.bytes) e) refl

pub returns-in_default-kind_in-clause-value : goal.returns-in_default-kind_in-clause-value
returns-in_default-kind_in-clause-value c =
    let a = c.args in
    let e = no_clause_kind a.format a.kind a.buf.now a.a a.b (length a.out.now) a.at
    (sym c.format_in.ensures ∙ c.in-Some.is)
    (sym c.kind_in.ensures ∙ c.in_default-kind_in.is) in
    same_numbers (plain 1) (ap (λ (w : Writing). w.answer) e) refl

pub returns-in_default-kind_in-clause-out : goal.returns-in_default-kind_in-clause-out
returns-in_default-kind_in-clause-out c =
    let a = c.args in
    let e = no_clause_kind a.format a.kind a.buf.now a.a a.b (length a.out.now) a.at
    (sym c.format_in.ensures ∙ c.in-Some.is)
    (sym c.kind_in.ensures ∙ c.in_default-kind_in.is) in
    filled_same a.out.now a.at (ap (λ (w : Writing). w.bytes) e) refl

pub returns-clause-value : goal.returns-clause-value
returns-clause-value c =
    let a = c.args in
    let e = write_clause_is a.format a.kind a.buf.now a.a a.b (length a.out.now) a.at
    (sym c.format_in.ensures ∙ c.in-Some.is)
    (sym c.kind_in.ensures
    ∙ c.in-Some-kind_in.is) in
    same_numbers (plain 1) (ap (λ (w' : Writing). w'.answer) e ∙ sym c.write_clause-r.ensures.result_value) c.wrote_out.ensures

pub returns-clause-out : goal.returns-clause-out
returns-clause-out c =
    let a = c.args in
    let e = write_clause_is a.format a.kind a.buf.now a.a a.b (length a.out.now) a.at
    (sym c.format_in.ensures ∙ c.in-Some.is)
    (sym c.kind_in.ensures
    ∙ c.in-Some-kind_in.is) in
    filled_same a.out.now a.at
    (ap (λ (w' : Writing). w'.bytes) e) c.write_clause-r.ensures.fills

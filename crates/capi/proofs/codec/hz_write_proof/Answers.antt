use mathlib.Core.Path.{refl, sym, ap, ◌∙◌}
use lib.ListN.{length}
use Rattle.drat.specs.Writing.{Writing}
use Rattle.numbers.specs.Surface.{plain}
use Rattle.numbers.proofs.SurfaceLaws.{filled_same}
use Rattle.capi.proofs.CodecLaws.{write_proof_is, no_proof_format, same_numbers}
use Rattle.capi.proofs.codec.hz_write_proof.Goals as goal

pub returns-in_default-clause-value : goal.returns-in_default-clause-value
returns-in_default-clause-value c =
    let a = c.args in
    let e = no_proof_format a.format a.codes.now a.ends.now a.kinds.now (length a.out.now)
    (sym c.format_in.ensures ∙ c.in_default.is) in
    same_numbers (plain 1) (ap (λ (w : Writing). w.answer) e) refl

pub returns-in_default-clause-out : goal.returns-in_default-clause-out
returns-in_default-clause-out c =
    let a = c.args in
    let e = no_proof_format a.format a.codes.now a.ends.now a.kinds.now (length a.out.now)
    (sym c.format_in.ensures ∙ c.in_default.is) in
    filled_same a.out.now 0 (ap (λ (w : Writing). w.bytes) e) refl

pub returns-clause-value : goal.returns-clause-value
returns-clause-value c =
    let a = c.args in
    let e = write_proof_is a.format a.codes.now a.ends.now a.kinds.now (length a.out.now)
    (sym c.format_in.ensures
    ∙ c.in-Some.is) in
    same_numbers (plain 1) (ap (λ (w' : Writing). w'.answer) e ∙ sym c.write_proof-r.ensures.result_value) c.wrote_out.ensures

pub returns-clause-out : goal.returns-clause-out
returns-clause-out c =
    let a = c.args in
    let e = write_proof_is a.format a.codes.now a.ends.now a.kinds.now (length a.out.now)
    (sym c.format_in.ensures
    ∙ c.in-Some.is) in
    filled_same a.out.now 0
    (ap (λ (w' : Writing). w'.bytes) e) c.write_proof-r.ensures.fills

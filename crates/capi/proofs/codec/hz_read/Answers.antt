use mathlib.Core.Path.{refl, sym, ap, ◌∙◌}
use lib.ListN.{length}
use Rattle.drat.specs.Filled.{Filling}
use Rattle.numbers.specs.Surface.{located}
use Rattle.numbers.proofs.SurfaceLaws.{filled_same}
use Rattle.capi.proofs.CodecLaws.{read_is, no_read_format, same_numbers}
use Rattle.capi.proofs.codec.hz_read.Goals as goal

pub returns-in_default-clause-step : goal.returns-in_default-clause-step
returns-in_default-clause-step c =
    let a = c.args in
    let e = no_read_format a.format a.bytes.now (length a.codes.now) (length a.ends.now) (length a.kinds.now)
    (sym c.format_in.ensures ∙ c.in_default.is) in
    same_numbers (located 2) (ap (λ (w : Filling). w.answer) e) refl

pub returns-in_default-clause-codes : goal.returns-in_default-clause-codes
returns-in_default-clause-codes c =
    let a = c.args in
    let e = no_read_format a.format a.bytes.now (length a.codes.now) (length a.ends.now) (length a.kinds.now)
    (sym c.format_in.ensures ∙ c.in_default.is) in
    filled_same a.codes.now 0 (ap (λ (w : Filling). w.codes) e) refl

pub returns-in_default-clause-ends : goal.returns-in_default-clause-ends
returns-in_default-clause-ends c =
    let a = c.args in
    let e = no_read_format a.format a.bytes.now (length a.codes.now) (length a.ends.now) (length a.kinds.now)
    (sym c.format_in.ensures ∙ c.in_default.is) in
    filled_same a.ends.now 0 (ap (λ (w : Filling). w.ends) e) refl

pub returns-in_default-clause-kinds : goal.returns-in_default-clause-kinds
returns-in_default-clause-kinds c =
    let a = c.args in
    let e = no_read_format a.format a.bytes.now (length a.codes.now) (length a.ends.now) (length a.kinds.now)
    (sym c.format_in.ensures ∙ c.in_default.is) in
    filled_same a.kinds.now 0 (ap (λ (w : Filling). w.kinds) e) refl

pub returns-clause-step : goal.returns-clause-step
returns-clause-step c =
    let a = c.args in
    let e = read_is a.format a.bytes.now (length a.codes.now) (length a.ends.now) (length a.kinds.now)
    (sym c.format_in.ensures ∙ c.in-Some.is) in
    same_numbers (located 2) (ap (λ (w' : Filling). w'.answer) e ∙ sym c.read_proof-r.ensures.value) c.read_out.ensures

pub returns-clause-codes : goal.returns-clause-codes
returns-clause-codes c =
    let a = c.args in
    let e = read_is a.format a.bytes.now (length a.codes.now) (length a.ends.now) (length a.kinds.now)
    (sym c.format_in.ensures ∙ c.in-Some.is) in
    filled_same a.codes.now 0 (ap (λ (w' : Filling). w'.codes) e) c.read_proof-r.ensures.codes

pub returns-clause-ends : goal.returns-clause-ends
returns-clause-ends c =
    let a = c.args in
    let e = read_is a.format a.bytes.now (length a.codes.now) (length a.ends.now) (length a.kinds.now)
    (sym c.format_in.ensures ∙ c.in-Some.is) in
    filled_same a.ends.now 0 (ap (λ (w' : Filling). w'.ends) e) c.read_proof-r.ensures.ends

pub returns-clause-kinds : goal.returns-clause-kinds
returns-clause-kinds c =
    let a = c.args in
    let e = read_is a.format a.bytes.now (length a.codes.now) (length a.ends.now) (length a.kinds.now)
    (sym c.format_in.ensures ∙ c.in-Some.is) in
    filled_same a.kinds.now 0 (ap (λ (w' : Filling). w'.kinds) e) c.read_proof-r.ensures.kinds

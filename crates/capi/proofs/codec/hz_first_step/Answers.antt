use Prim.Native.Nat.{ℕ}
use mathlib.Core.Path.{sym, ap, ap₂, ◌∙◌}
use Rattle.base.specs.Answer.{Answer}
use Rattle.drat.specs.Filled.{first}
use Rattle.numbers.specs.Surface.{placed, part_of}
use Rattle.capi.proofs.CodecLaws.{first_is, place_is, no_first_format, no_place_format, first_taken}
use Rattle.capi.proofs.codec.hz_first_step.Goals as goal

pub returns-in_default-clause-value : goal.returns-in_default-clause-value
returns-in_default-clause-value c =
    let q = sym c.format_in.ensures ∙ c.in_default.is in
    let e = no_first_format _ _ q in
    sym (ap₂ (λ (i : ℕ) (w : Answer). placed i w) (no_place_format _ _ q) e)

pub returns-in_default-clause-bytes : goal.returns-in_default-clause-bytes
returns-in_default-clause-bytes c =
    let q = sym c.format_in.ensures ∙ c.in_default.is in
    let e = no_first_format _ _ q in
    sym (ap part_of e)

pub returns-clause-value : goal.returns-clause-value
returns-clause-value c =
    let q = sym c.format_in.ensures ∙ c.in-Some.is in
    let e = first_is _ _ q in
    let g = c.first_out.ensures ∙ ap (λ (i : ℕ). placed i (first i c.first_step-part.result.now)) c.first_token-place.ensures in
    g ∙ ap (placed _) c.first_step-part.ensures ∙ sym (ap₂ (λ (i : ℕ) (w : Answer). placed i w) (place_is _ _ q) e)

pub returns-clause-bytes : goal.returns-clause-bytes
returns-clause-bytes c =
    let q = sym c.format_in.ensures ∙ c.in-Some.is in
    let g = c.first_out.ensures ∙ ap (λ (i : ℕ). placed i (first i c.first_step-part.result.now)) c.first_token-place.ensures in
    first_taken _ _ q c.first_step-part.result.now c.first_step-part.ensures g

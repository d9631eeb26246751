use Prim.Native.Nat.{ℕ}
use mathlib.Core.Bool.{Bool, ◌&&◌}
use mathlib.Core.Path.{ap, ap₂, ◌∙◌}
use Rattle.base.specs.Choice.{pick}
use Rattle.dimacs_judge.specs.Limits.{raised, fits_digits, fits}
use Rattle.dimacs_judge.proofs.LimitLaws.{fits_bytes}
use Rattle.dimacs_judge.proofs.limit.number_fits.Goals as goal

pub returns : goal.returns
unfolding fits
returns c =
    let a = c.args in
    let eb = c.max-3.ensures ∙ ap raised (c.byte_if-2.ensures ∙ ap₂ (λ (t u : Bool). pick (t && u) a.b 0) c.is_near-two.ensures c.is_near.ensures) in
    let ec = c.max-2.ensures ∙ ap raised (c.byte_if.ensures ∙ ap (λ (t : Bool). pick t a.c 0) c.is_near-two.ensures) in
    fits_bytes a.t c.max-3.result c.max-2.result c.max.result a.x
    ∙ ap (λ (y : ℕ). fits_digits a.t c.max-3.result c.max-2.result y a.x) c.max.ensures
    ∙ ap₂ (λ (x y : ℕ). fits_digits a.t x y (raised a.p) a.x) eb ec

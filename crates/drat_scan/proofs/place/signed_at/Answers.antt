use mathlib.Core.Path.{sym, ap, ◌∙◌}
use lib.Dec.{eqb}
use Rattle.base.specs.Choice.{pick}
use Prim.Native.Nat.{ℕ}
use Rattle.drat.proofs.At.{signed_past}
use Rattle.drat_scan.proofs.PlaceLaws.{signed_digits}
use Rattle.drat_scan.proofs.place.signed_at.Goals as goal

pub returns-in_err-get : goal.returns-in_err-get
returns-in_err-get c = c.from_residual.ensures ∙ sym (signed_past c.args.s.now c.args.at c.in_err-get.ensures.lookup.3)

pub returns : goal.returns
returns c =
    let m = c.minus-sign in
    let w = c.in_ok-get.ensures.lookup.3 in
    c.decimal_at.ensures ∙ sym (signed_digits c.args.s.now c.args.at m.result w.0 (m.ensures.0 ∙ ap (λ (b : ℕ). pick (eqb b 45) 1 0) (w.1 0)))

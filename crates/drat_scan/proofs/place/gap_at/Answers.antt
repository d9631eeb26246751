use mathlib.Core.Path.{sym, ap, ◌∙◌}
use Rattle.drat.specs.Reading.{sep}
use Rattle.drat_scan.proofs.PlaceLaws.{open_none, open_some, open_not}
use Rattle.drat_scan.proofs.place.gap_at.Goals as goal

pub returns-in_err-get : goal.returns-in_err-get
returns-in_err-get c = c.from_residual.ensures ∙ open_none c.args.s.now c.args.at c.in_err-get.ensures.lookup.3

pub returns-then-is_sep : goal.returns-then-is_sep
returns-then-is_sep c =
    let e = c.in_ok-get.ensures.lookup.3.1 0 in
    open_some c.args.s.now c.args.at c.past_seps.result (ap sep (sym e) ∙ sym c.is_sep.ensures ∙ c.if-is_sep.true) c.past_seps.ensures.0

pub returns : goal.returns
returns c =
    let e = c.in_ok-get.ensures.lookup.3.1 0 in
    open_not c.args.s.now c.args.at (ap sep (sym e) ∙ sym c.is_sep.ensures ∙ c.if-is_sep.false)

use mathlib.Core.Path.{sym, ap, ◌∙◌}
use Rattle.drat.specs.Reading.{sep}
use Rattle.drat_scan.proofs.PlaceLaws.{gap_some}
use Rattle.drat_scan.proofs.place.gap_after.Goals as goal

pub returns-then-is_sep : goal.returns-then-is_sep
returns-then-is_sep c =
    let a = c.args in
    let e = c.in_ok-get.ensures.lookup.3.1 0 in
    gap_some a.s.now a.code a.end c.past_seps.result (ap sep (sym e) ∙ sym c.is_sep.ensures ∙ c.if-is_sep.true) c.past_seps.ensures.0

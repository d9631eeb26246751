use mathlib.Core.Path.{sym, ◌∙◌}
use native.Mathlib.Omega.{arith}
use Rattle.drat.proofs.At.{seps_past}
use Rattle.drat_scan.proofs.PlaceLaws.{seps_none, seps_one}
use Rattle.drat_scan.proofs.place.past_seps.Goals as goal

pub returns-then-not-is_sep : goal.returns-then-not-is_sep
returns-then-not-is_sep c =
    let l = c.loop-i in
    let z = seps_none c.args.s.now l.i c.loop-i-test.true (sym c.is_sep.ensures ∙ c.if-not-is_sep.true) in
    (omega (arith, z, l.invariant.1), λ h. omega (arith, c.loop-i-test.true))

pub loop-i-preserved : goal.loop-i-preserved
loop-i-preserved c =
    let l = c.loop-i in
    let z = seps_one c.args.s.now l.i (sym c.is_sep.ensures ∙ c.if-not-is_sep.false) in
    (λ h. omega (arith, l.auto.i), omega (arith, z, l.invariant.1))

pub returns : goal.returns
returns c =
    let l = c.loop-i in
    let z = seps_past c.args.s.now l.i c.loop-i-test.false in
    (grind (arith, z, l.invariant.0, l.invariant.1, c.max.ensures, l.auto.i-end), λ h. omega (arith, c.max.ensures))

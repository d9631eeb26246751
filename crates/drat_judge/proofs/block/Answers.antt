use mathlib.Core.Bool.{Bool}
use mathlib.Core.Path.{ap, ◌∙◌}
use native.Mathlib.Omega.{arith}
use Rattle.base.specs.Choice.{pick}
use Rattle.drat_judge.proofs.RunsLaws.{as_byte, as_byte_le, tally_next, tally_done}
use Rattle.drat_judge.proofs.block.Goals as goal

pub loop-x-preserved : goal.loop-x-preserved
loop-x-preserved c =
    let a = c.args in
    let l = c.loop-x in
    let t = c.in_range.result in
    let e = tally_next a.lo a.hi a.s.now l.x-index (omega arith) in
    let r = as_byte t ∙ ap (λ (t : Bool). pick t 1 0) c.in_range.ensures in
    (omega (arith, as_byte_le t, l.invariant.0), omega (arith, r, e, l.invariant.1))

pub returns : goal.returns
returns c =
    let a = c.args in
    let l = c.loop-x in
    (omega (arith, tally_done a.lo a.hi a.s.now l.x-index (omega arith), l.invariant.1), omega (arith, l.invariant.0))

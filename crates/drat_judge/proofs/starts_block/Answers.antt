use mathlib.Core.Bool.{Bool, ◌&&◌}
use mathlib.Core.Path.{ap, ◌∙◌}
use lib.Dec.{ltb}
use native.Mathlib.Omega.{arith}
use Rattle.base.specs.Choice.{pick}
use Rattle.drat_judge.proofs.RunsLaws.{as_byte, as_byte_le, starts_next, starts_done}
use Rattle.drat_judge.proofs.starts_block.Goals as goal

pub loop-x-preserved : goal.loop-x-preserved
loop-x-preserved c =
    let a = c.args in
    let l = c.loop-x in
    let t = ltb l.last 45 && c.in_range.result in
    let e = starts_next a.lo a.hi l.last a.s.now l.x-index (omega arith) in
    let r = as_byte t ∙ ap (λ (u : Bool). pick (ltb l.last 45 && u) 1 0) c.in_range.ensures in
    (omega (arith, as_byte_le t, l.invariant.0), omega (arith, r, e, l.invariant.1))

pub returns : goal.returns
returns c =
    let a = c.args in
    let l = c.loop-x in
    (omega (arith, starts_done a.lo a.hi l.last a.s.now l.x-index (omega arith), l.invariant.1), omega (arith, l.invariant.0))

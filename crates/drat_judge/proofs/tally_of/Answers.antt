use mathlib.Core.Path.{ap, ◌∙◌}
use lib.ListN.{length, length-append}
use native.Mathlib.Omega.{arith}
use Rattle.std.specs.Slice.Iter.{chunks_rest}
use Rattle.drat_judge.specs.Local.{tally}
use Rattle.drat_judge.proofs.RunsLaws.{tally_none}
use Rattle.drat_judge.proofs.TallyLaws.{tally_append}
use Rattle.drat_judge.proofs.tally_of.Goals as goal

pub loop-part-preserved : goal.loop-part-preserved
loop-part-preserved c =
    let a = c.args in
    let l = c.loop-part in
    let t = c.in-Some.ensures.steps in
    let rest = chunks_rest c.next.new.self in
    let n = ap length t.1.0 ∙ length-append c.in-Some.part.now rest in
    let k = ap (tally a.lo a.hi) t.1.0 ∙ tally_append a.lo a.hi c.in-Some.part.now rest in
    (t.0 ∙ l.invariant.0, omega (arith, n, c.block.ensures.1, l.invariant.1), omega (arith, k, c.block.ensures.0, l.invariant.2))

pub returns : goal.returns
returns c =
    let a = c.args in
    let t = c.in-None.ensures.steps in
    omega (arith, tally_none a.lo a.hi (chunks_rest c.loop-part.part-iterator) t.1.0, c.loop-part.invariant.2)

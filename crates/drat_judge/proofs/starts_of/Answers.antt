use mathlib.Core.Path.{ap, ◌∙◌}
use lib.ListN.{length, length-append}
use native.Mathlib.Omega.{arith}
use Rattle.std.specs.Slice.Iter.{chunks_rest}
use Rattle.drat_judge.specs.Local.{starts}
use Rattle.drat_judge.proofs.RunsLaws.{starts_append, starts_none}
use Rattle.drat_judge.proofs.starts_of.Goals as goal

pub loop-part-preserved : goal.loop-part-preserved
loop-part-preserved c =
    let a = c.args in
    let l = c.loop-part in
    let t = c.in-Some.ensures.steps in
    let part = c.in-Some.part.now in
    let rest = chunks_rest c.next.new.self in
    let n = ap length t.1.0 ∙ length-append part rest in
    let k = ap (starts a.lo a.hi l.p) t.1.0 ∙ starts_append a.lo a.hi l.p part rest (omega (arith, t.1, l.invariant.0)) in
    (t.0 ∙ l.invariant.0, omega (arith, n, c.starts_block.ensures.1, l.invariant.1), omega (arith, k, c.starts_block.ensures.0, l.invariant.2))

pub returns : goal.returns
returns c =
    let a = c.args in
    let l = c.loop-part in
    let t = c.in-None.ensures.steps in
    omega (arith, starts_none a.lo a.hi l.p (chunks_rest l.part-iterator) t.1.0, l.invariant.2)

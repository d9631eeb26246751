use Rattle.base.proofs.KeepLaws.{count_is}
use Rattle.binary.specs.Entries.{stays_by, kept_by}
use Rattle.binary.proofs.EachLaws.{from_length, from_done, at_kept}
use Prim.Native.Nat.{ℕ}
use lib.ListN.{length}
use mathlib.Core.List.{List}
use mathlib.Core.Path.{ap, ◌∙◌}
use native.Mathlib.Omega.{arith}
use Rattle.binary.proofs.keep.count_all.Goals as goal

pub overflow_add-k : goal.overflow_add-k
overflow_add-k c =
    let a = c.args in
    let l = c.loop-l.l in
    let r = c.section_of.ensures ∙ c.args.s.now.placed.section l c.loop-l-test.true in
    let k = c.count_kept-k.ensures ∙ count_is (stays_by a.assignment.now l) c.section_of.result.now
    ∙ ap (λ (es : List ℕ). length (kept_by a.assignment.now l es)) r in
    let b = at_kept (stays_by a.assignment.now l) a.s.now.lists.now a.s.now.n a.s.now.place.now c.args.s.now.placed l c.loop-l-test.true in
    omega (arith, k, b, c.args.s.now.placed.within l c.loop-l-test.true, c.type_inv.s.0.0.1.0, c.loop-l.invariant.1)

pub loop-l-preserved : goal.loop-l-preserved
loop-l-preserved c =
    let a = c.args in
    let l = c.loop-l.l in
    let r = c.section_of.ensures ∙ c.args.s.now.placed.section l c.loop-l-test.true in
    let k = c.count_kept-k.ensures ∙ count_is (stays_by a.assignment.now l) c.section_of.result.now
    ∙ ap (λ (es : List ℕ). length (kept_by a.assignment.now l es)) r in
    let b = at_kept (stays_by a.assignment.now l) a.s.now.lists.now a.s.now.n a.s.now.place.now c.args.s.now.placed l c.loop-l-test.true in
    let z = from_length (kept_by a.assignment.now) a.s.now.lists.now a.s.now.n a.s.now.place.now c.args.s.now.placed l c.loop-l-test.true in
    let w = c.args.s.now.placed.within l c.loop-l-test.true in
    (omega (arith, k, z, c.loop-l.invariant.0), omega (arith, k, b, c.loop-l.invariant.1), omega (arith, k, b, w, c.loop-l.invariant.1))

pub returns-clause-value : goal.returns-clause-value
returns-clause-value c =
    let d = from_done (kept_by c.args.assignment.now) c.args.s.now.lists.now c.args.s.now.n c.args.s.now.place.now c.args.s.now.placed c.loop-l.l c.loop-l-test.false in
    omega (arith, ap length d, c.loop-l.invariant.0)

use Rattle.binary.specs.Entries.{stays_by}
use Rattle.binary.proofs.RowLaws.{kept_none, kept_count_lem, kept_put, kept_pass, kept_last}
use lib.ListN.{length}
use lib.Seq.{sets}
use mathlib.Core.Path.{sym, ap, ◌∙◌}
use native.Mathlib.Omega.{arith}
use Rattle.binary.proofs.keep.put_entries.Goals as goal
use Rattle.binary.proofs.keep.put_entries.Goals.{then-stays, else-stays}

pub bounds-out-k : goal.bounds-out-k
bounds-out-k c =
    let e = kept_count_lem (stays_by c.args.assignment.now c.args.l) c.args.es.now c.loop-m.m-index c.loop-m-test.true
    (sym c.stays.ensures ∙ c.if-stays.true) in
    omega (arith, e, c.loop-m.invariant.0, c.requires)

pub loop-m-preserved : goal.loop-m-preserved
loop-m-preserved c =
    elim c.if-stays.branch [
      | then-stays w ↦
          let t = sym c.stays.ensures ∙ w.if-stays.true in
          let e = kept_count_lem (stays_by c.args.assignment.now c.args.l) c.args.es.now c.loop-m.m-index c.loop-m-test.true t in (
            omega (arith, w.k-is, e, c.loop-m.invariant.0),
            kept_put (stays_by c.args.assignment.now c.args.l) c.args.es.now c.loop-m.m-index c.loop-m-test.true
                c.loop-m.out _ c.loop-m.k _ t w.out-is w.k-is ∙ c.loop-m.invariant.1,
          )
      | else-stays w ↦
          let t = sym c.stays.ensures ∙ w.if-stays.false in
          let e = ap length (kept_none (stays_by c.args.assignment.now c.args.l) c.args.es.now c.loop-m.m-index
          c.loop-m-test.true t) in (
            omega (arith, w.k-is, e, c.loop-m.invariant.0),
            kept_pass (stays_by c.args.assignment.now c.args.l) c.args.es.now c.loop-m.m-index c.loop-m-test.true
                c.loop-m.out _ c.loop-m.k _ t w.out-is w.k-is ∙ c.loop-m.invariant.1,
          )
    ]

pub returns-clause-value : goal.returns-clause-value
returns-clause-value c =
    let d = kept_last (stays_by c.args.assignment.now c.args.l) c.args.es.now c.loop-m.m-index c.loop-m-test.false in
    omega (arith, ap length d, c.loop-m.invariant.0)

pub returns-clause-fills : goal.returns-clause-fills
returns-clause-fills c =
    let d = kept_last (stays_by c.args.assignment.now c.args.l) c.args.es.now c.loop-m.m-index c.loop-m-test.false in
    sym (ap (sets c.loop-m.out c.loop-m.k) d) ∙ c.loop-m.invariant.1

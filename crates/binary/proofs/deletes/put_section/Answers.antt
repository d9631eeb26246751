use Rattle.binary.specs.Entries.{goes_by, delete_by}
use Rattle.binary.proofs.RowLaws.{steps_none, steps_length, steps_put, steps_pass, steps_done}
use Rattle.binary.proofs.NamedLaws.{goes_is, clause_fits, delete_put, delete_place}
use lib.ListN.{length}
use lib.Seq.{sets}
use mathlib.Core.Path.{sym, ap, ◌∙◌}
use native.Mathlib.Omega.{arith}
use Rattle.binary.proofs.deletes.put_section.Goals as goal
use Rattle.binary.proofs.deletes.put_section.Goals.{then-goes, else-goes}

pub put_delete-p-requires-clause-m_in_bounds : goal.put_delete-p-requires-clause-m_in_bounds
put_delete-p-requires-clause-m_in_bounds c =
    let t = goes_is c.args.gs.now c.args.l _ _ c.not_lit-x.ensures c.args.assignment.now _ _
    c.goes.ensures c.if-goes.true in
    let z = steps_length (goes_by c.args.assignment.now c.args.l) c.args.es.now c.args.f
    (delete_by c.args.gs.now c.args.l) c.loop-m.m-index
    c.loop-m-test.true t in
    clause_fits c.args.f c.args.gs.now c.args.l _ _ _ _
    (omega (arith, c.requires.es_in_bounds, c.loop-m.invariant.0))
    (omega (arith, c.not_lit-x.ensures))

pub loop-m-preserved : goal.loop-m-preserved
loop-m-preserved c =
    elim c.if-goes.branch [
      | then-goes w ↦
          let t = goes_is c.args.gs.now c.args.l _ _ c.not_lit-x.ensures c.args.assignment.now _ _ c.goes.ensures
          w.if-goes.true in
          let z = steps_length (goes_by c.args.assignment.now c.args.l) c.args.es.now c.args.f
          (delete_by c.args.gs.now c.args.l) c.loop-m.m-index c.loop-m-test.true t in
          let k = delete_place c.args.f c.args.gs.now c.args.l _ _ _ _ w.put_delete-p.ensures.value (omega (arith, c.not_lit-x.ensures)) in
          let u = delete_put c.args.f c.args.gs.now c.args.l _ _ _ _ _ w.put_delete-p.ensures.fills
          (omega (arith, c.not_lit-x.ensures)) in (
            omega (arith, w.p-is, k, z, c.loop-m.invariant.0),
            steps_put (goes_by c.args.assignment.now c.args.l) c.args.es.now c.args.f
                (delete_by c.args.gs.now c.args.l) c.loop-m.m-index
                c.loop-m-test.true c.loop-m.bytes _ c.loop-m.p _ t (w.bytes-is ∙ u) (w.p-is ∙ k) ∙ c.loop-m.invariant.1,
          )
      | else-goes w ↦
          let t = goes_is c.args.gs.now c.args.l _ _ c.not_lit-x.ensures c.args.assignment.now _ _ c.goes.ensures
          w.if-goes.false in
          let z = ap length (steps_none (goes_by c.args.assignment.now c.args.l) c.args.es.now c.args.f
          (delete_by c.args.gs.now c.args.l) c.loop-m.m-index c.loop-m-test.true t) in (
            omega (arith, w.p-is, z, c.loop-m.invariant.0),
            steps_pass (goes_by c.args.assignment.now c.args.l) c.args.es.now c.args.f
                (delete_by c.args.gs.now c.args.l) c.loop-m.m-index
                c.loop-m-test.true c.loop-m.bytes _ c.loop-m.p _ t w.bytes-is w.p-is ∙ c.loop-m.invariant.1,
          )
    ]

pub returns-clause-value : goal.returns-clause-value
returns-clause-value c =
    let d = steps_done (goes_by c.args.assignment.now c.args.l) c.args.es.now c.args.f
    (delete_by c.args.gs.now c.args.l) c.loop-m.m-index
    c.loop-m-test.false in
    omega (arith, ap length d, c.loop-m.invariant.0)

pub returns-clause-fills : goal.returns-clause-fills
returns-clause-fills c =
    let d = steps_done (goes_by c.args.assignment.now c.args.l) c.args.es.now c.args.f
    (delete_by c.args.gs.now c.args.l) c.loop-m.m-index
    c.loop-m-test.false in
    sym (ap (sets c.loop-m.bytes c.loop-m.p) d) ∙ c.loop-m.invariant.1

use Rattle.binary.specs.Entries.{goes_by, delete_by}
use Rattle.binary.proofs.RowLaws.{steps_none, steps_length, steps_short, steps_whole}
use Rattle.binary.proofs.NamedLaws.{goes_is, delete_len}
use lib.ListN.{length}
use mathlib.Core.Path.{ap}
use native.Mathlib.Omega.{arith}
use Rattle.binary.proofs.deletes.section_len.Goals as goal
use Rattle.binary.proofs.deletes.section_len.Goals.{then-goes+else-room-used, else-goes}

pub returns-then-room-used : goal.returns-then-room-used
returns-then-room-used c =
    let k = delete_len c.args.f c.args.gs.now c.args.l _ _ _ c.delete_len-k.ensures
    (omega (arith, c.not_lit-x.ensures)) in
    steps_short (goes_by c.args.assignment.now c.args.l) c.args.es.now c.args.f
    (delete_by c.args.gs.now c.args.l) c.loop-m.m-index
    c.loop-m-test.true c.args.room c.loop-m.used _
    (goes_is c.args.gs.now c.args.l _ _ c.not_lit-x.ensures c.args.assignment.now _ _ c.goes.ensures
    c.if-goes.true)
    c.loop-m.invariant.0 c.loop-m.invariant.1 k c.if-room-used.true

pub loop-m-preserved : goal.loop-m-preserved
loop-m-preserved c =
    elim c.if-goes.branch [
      | then-goes+else-room-used w ↦
          let t = goes_is c.args.gs.now c.args.l _ _ c.not_lit-x.ensures c.args.assignment.now _ _ c.goes.ensures
          w.if-goes.true in
          let z = steps_length (goes_by c.args.assignment.now c.args.l) c.args.es.now c.args.f
          (delete_by c.args.gs.now c.args.l) c.loop-m.m-index c.loop-m-test.true t in
          let k = delete_len c.args.f c.args.gs.now c.args.l _ _ _ w.delete_len-k.ensures (omega (arith, c.not_lit-x.ensures)) in
          (omega (arith, w.used-is, k, z, c.loop-m.invariant.0), omega (arith, w.used-is, w.if-room-used.false, c.loop-m.invariant.1))
      | else-goes w ↦
          let t = goes_is c.args.gs.now c.args.l _ _ c.not_lit-x.ensures c.args.assignment.now _ _ c.goes.ensures
          w.if-goes.false in
          let z = ap length (steps_none (goes_by c.args.assignment.now c.args.l) c.args.es.now c.args.f
          (delete_by c.args.gs.now c.args.l) c.loop-m.m-index c.loop-m-test.true t) in
          (omega (arith, w.used-is, z, c.loop-m.invariant.0), omega (arith, w.used-is, c.loop-m.invariant.1))
    ]

pub returns : goal.returns
returns c =
    steps_whole (goes_by c.args.assignment.now c.args.l) c.args.es.now c.args.f
    (delete_by c.args.gs.now c.args.l) c.loop-m.m-index
    c.args.room c.loop-m.used c.loop-m-test.false c.loop-m.invariant.0 c.loop-m.invariant.1

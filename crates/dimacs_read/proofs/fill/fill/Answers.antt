use Prim.Native.Nat.{◌+◌, ◌<◌}
use lib.ListN.{length}
use native.Mathlib.Omega.{arith}
use borrow.Author.Rules.{rules}
use Rattle.dimacs.proofs.Turns.{turn_start, codes_kept, ends_kept}
use Rattle.dimacs_read.proofs.FillLaws.{turn_done, lit_known, lit_step, lit_turn, stop_step, lit_room, stop_room}
use Rattle.dimacs_read.proofs.fill.fill.Goals as goal

pub loop-at-init : goal.loop-at-init
loop-at-init c =
    let a = c.args in
    let fit = c.requires in
    (a.from, turn_start a.s.now a.v a.from a.codes.now a.ends.now fit.inside)

pub bounds-s-at : goal.bounds-s-at
bounds-s-at c =
    let a = c.args in
    let fit = c.requires in
    let l = c.loop-at in
    let k = c.loop-at-2 in
    let test = c.loop-at-test in
    let t = k.invariant.1 a.codes.now a.ends.now fit l.invariant.0 l.invariant.1 test.true in
    t.0

pub literal_at-w-requires : goal.literal_at-w-requires
literal_at-w-requires c =
    let a = c.args in
    let fit = c.requires in
    let l = c.loop-at in
    let k = c.loop-at-2 in
    let test = c.loop-at-test in
    let zero = c.loop-at-2-test in
    let t = k.invariant.1 a.codes.now a.ends.now fit l.invariant.0 l.invariant.1 test.true in
    lit_known a.s.now a.v a.from a.codes.now a.ends.now fit k.codes l.ends l.invariant.0 k.at k.n l.m t.1 t.0 zero.true

pub offset_bounds-codes-n : goal.offset_bounds-codes-n
offset_bounds-codes-n c =
    let a = c.args in
    let fit = c.requires in
    let l = c.loop-at in
    let k = c.loop-at-2 in
    let test = c.loop-at-test in
    let zero = c.loop-at-2-test in
    let t = k.invariant.1 a.codes.now a.ends.now fit l.invariant.0 l.invariant.1 test.true in
    let r : k.n < length a.codes.now = omega (
      arith,
      lit_room a.s.now a.v a.from a.codes.now a.ends.now fit k.codes l.ends l.invariant.0 k.at k.n l.m t.1
          t.0 zero.true,
      codes_kept a.s.now a.v a.from a.codes.now a.ends.now k.codes l.ends l.invariant.0 k.at k.n
          l.m t.1,
    ) in
    search rules

pub bounds-codes-n : goal.bounds-codes-n
bounds-codes-n c =
    let a = c.args in
    let fit = c.requires in
    let l = c.loop-at in
    let k = c.loop-at-2 in
    let test = c.loop-at-test in
    let zero = c.loop-at-2-test in
    let t = k.invariant.1 a.codes.now a.ends.now fit l.invariant.0 l.invariant.1 test.true in
    lit_room a.s.now a.v a.from a.codes.now a.ends.now fit k.codes l.ends l.invariant.0 k.at k.n l.m t.1 t.0 zero.true

pub overflow_add-n : goal.overflow_add-n
overflow_add-n c =
    let a = c.args in
    let fit = c.requires in
    let l = c.loop-at in
    let k = c.loop-at-2 in
    let test = c.loop-at-test in
    let zero = c.loop-at-2-test in
    let t = k.invariant.1 a.codes.now a.ends.now fit l.invariant.0 l.invariant.1 test.true in
    omega (
      arith,
      lit_room a.s.now a.v a.from a.codes.now a.ends.now fit k.codes l.ends l.invariant.0 k.at k.n l.m
          t.1 t.0 zero.true,
    )

pub overflow_add-at : goal.overflow_add-at
overflow_add-at c =
    let a = c.args in
    let fit = c.requires in
    let l = c.loop-at in
    let k = c.loop-at-2 in
    let test = c.loop-at-test in
    let zero = c.loop-at-2-test in
    let w = c.literal_at-w in
    let t = k.invariant.1 a.codes.now a.ends.now fit l.invariant.0 l.invariant.1 test.true in
    let d = lit_step a.s.now a.v a.from a.codes.now a.ends.now fit k.codes l.ends l.invariant.0 k.at k.n l.m t.1
    t.0 zero.true w.result.code w.result.next w.ensures in
    omega (arith, d.2)

pub loop-at-2-smaller : goal.loop-at-2-smaller
loop-at-2-smaller c =
    let a = c.args in
    let fit = c.requires in
    let l = c.loop-at in
    let k = c.loop-at-2 in
    let test = c.loop-at-test in
    let zero = c.loop-at-2-test in
    let w = c.literal_at-w in
    let t = k.invariant.1 a.codes.now a.ends.now fit l.invariant.0 l.invariant.1 test.true in
    let d = lit_step a.s.now a.v a.from a.codes.now a.ends.now fit k.codes l.ends l.invariant.0 k.at k.n l.m t.1
    t.0 zero.true w.result.code w.result.next w.ensures in
    omega (arith, d.1, d.2)

pub loop-at-2-preserved : goal.loop-at-2-preserved
loop-at-2-preserved c =
    let a = c.args in
    let fit = c.requires in
    let l = c.loop-at in
    let k = c.loop-at-2 in
    let test = c.loop-at-test in
    let zero = c.loop-at-2-test in
    let w = c.literal_at-w in
    let t = k.invariant.1 a.codes.now a.ends.now fit l.invariant.0 l.invariant.1 test.true in
    let d = lit_step a.s.now a.v a.from a.codes.now a.ends.now fit k.codes l.ends l.invariant.0 k.at k.n l.m t.1
    t.0 zero.true w.result.code w.result.next w.ensures in (
      omega (arith, d.1, k.invariant.0),
      λ x y f start u h.
          let t = k.invariant.1 x y f start u h in
          lit_turn a.s.now a.v a.from x y f k.codes l.ends start k.at k.n l.m t.1 t.0 zero.true
          w.result.code w.result.next w.ensures,
    )

pub offset_bounds-ends-m : goal.offset_bounds-ends-m
offset_bounds-ends-m c =
    let a = c.args in
    let fit = c.requires in
    let l = c.loop-at in
    let k = c.loop-at-2 in
    let test = c.loop-at-test in
    let zero = c.loop-at-2-test in
    let t = k.invariant.1 a.codes.now a.ends.now fit l.invariant.0 l.invariant.1 test.true in
    let r : l.m < length a.ends.now = omega (
      arith,
      stop_room a.s.now a.v a.from a.codes.now a.ends.now fit k.codes l.ends l.invariant.0 k.at k.n l.m t.1
          t.0 zero.false,
      ends_kept a.s.now a.v a.from a.codes.now a.ends.now k.codes l.ends l.invariant.0 k.at k.n l.m t.1,
    ) in
    search rules

pub bounds-ends-m : goal.bounds-ends-m
bounds-ends-m c =
    let a = c.args in
    let fit = c.requires in
    let l = c.loop-at in
    let k = c.loop-at-2 in
    let test = c.loop-at-test in
    let zero = c.loop-at-2-test in
    let t = k.invariant.1 a.codes.now a.ends.now fit l.invariant.0 l.invariant.1 test.true in
    stop_room a.s.now a.v a.from a.codes.now a.ends.now fit k.codes l.ends l.invariant.0 k.at k.n l.m t.1 t.0 zero.false

pub loop-at-preserved : goal.loop-at-preserved
loop-at-preserved c =
    let a = c.args in
    let fit = c.requires in
    let l = c.loop-at in
    let k = c.loop-at-2 in
    let test = c.loop-at-test in
    let zero = c.loop-at-2-test in
    let t = k.invariant.1 a.codes.now a.ends.now fit l.invariant.0 l.invariant.1 test.true in (
      k.at + 2,
      (stop_step a.s.now a.v a.from a.codes.now a.ends.now fit k.codes l.ends l.invariant.0 k.at k.n l.m
          t.1 t.0 zero.false).1,
    )

pub returns : goal.returns
returns c =
    let a = c.args in
    let fit = c.requires in
    let l = c.loop-at in
    let test = c.loop-at-test in
    turn_done a.s.now a.v a.from a.codes.now a.ends.now fit l.codes l.ends l.invariant.0 l.at l.n l.m l.invariant.1 test.false

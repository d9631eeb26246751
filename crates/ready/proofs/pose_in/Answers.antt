use native.Mathlib.Omega.{arith}
use Rattle.base.proofs.StoreLaws.{copy_next, copy_end}
use Rattle.held.specs.Parts.{held_code}
use Rattle.ready.proofs.ReadyLaws.{ready_at, user_there, global_there, ready_code, in_many, in_unready, in_ready}
use Rattle.ready.proofs.pose_in.Goals as goal

pub returns-then-lits-out : goal.returns-then-lits-out
returns-then-lits-out c =
    in_many _ _ _ _ _ _ c.if-lits-out.true

pub returns-then-not-all_ready : goal.returns-then-not-all_ready
returns-then-not-all_ready c =
    in_unready _ _ _ _ _ _ _ c.all_ready.ensures c.if-not-all_ready.true

pub bounds-gu-code : goal.bounds-gu-code
bounds-gu-code c =
    user_there _ _ _ _ _ _ c.all_ready.ensures c.if-not-all_ready.false _ c.loop-i-test.true

pub overflow_sub-g : goal.overflow_sub-g
overflow_sub-g c =
    let r = ready_at _ _ _ _ _ _ c.all_ready.ensures c.if-not-all_ready.false _ c.loop-i-test.true in
    let m = r.mapped in
    omega arith

pub bounds-sg-g : goal.bounds-sg-g
bounds-sg-g c =
    global_there _ _ _ _ _ _ c.all_ready.ensures c.if-not-all_ready.false _ c.loop-i-test.true

pub overflow_sub-s : goal.overflow_sub-s
overflow_sub-s c =
    let r = ready_at _ _ _ _ _ _ c.all_ready.ensures c.if-not-all_ready.false _ c.loop-i-test.true in
    let m = r.granted in
    omega arith

pub overflow_mul-out : goal.overflow_mul-out
overflow_mul-out c =
    let r = ready_at _ _ _ _ _ _ c.all_ready.ensures c.if-not-all_ready.false _ c.loop-i-test.true in
    let m = r.small in
    omega arith

pub overflow_add-out : goal.overflow_add-out
overflow_add-out c =
    let r = ready_at _ _ _ _ _ _ c.all_ready.ensures c.if-not-all_ready.false _ c.loop-i-test.true in
    let m = r.small in
    omega arith

pub loop-i-preserved : goal.loop-i-preserved
loop-i-preserved c =
    let a = c.args in
    let l = c.loop-i-test.true in
    let k = ready_code _ _ _ _ _ _ c.all_ready.ensures c.if-not-all_ready.false _ l in
    copy_next (held_code a.gu.now a.sg.now) a.out.now a.lits.now _ _ _ l c.loop-i.invariant (omega arith)

pub returns : goal.returns
returns c =
    let a = c.args in
    in_ready _ _ _ _ _ _ _ c.all_ready.ensures _ c.if-lits-out.false c.if-not-all_ready.false
    (copy_end (held_code a.gu.now a.sg.now) a.out.now a.lits.now _ _ (omega arith) c.loop-i.invariant)

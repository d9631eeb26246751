use native.Mathlib.Omega.{arith}
use Rattle.dimacs_read.proofs.HeadingLaws.{run_start, run_more, run_over, run_end, no_digit_below, no_digit_above}
use Rattle.dimacs_read.proofs.heading.run_at.Goals as goal

pub loop-i-init : goal.loop-i-init
loop-i-init c = let a = c.args in run_start a.s.now a.from c.requires

pub returns-then-b-lt48-clause-next_value : goal.returns-then-b-lt48-clause-next_value
returns-then-b-lt48-clause-next_value c =
    let a = c.args in
    let l = c.loop-i in
    let q = run_over a.s.now a.from l.i l.value l.invariant c.loop-i-test.true (no_digit_below _ c.if-b-lt48.true) in
    q.0

pub returns-then-b-lt48-clause-capped : goal.returns-then-b-lt48-clause-capped
returns-then-b-lt48-clause-capped c =
    let a = c.args in
    let l = c.loop-i in
    let q = run_over a.s.now a.from l.i l.value l.invariant c.loop-i-test.true (no_digit_below _ c.if-b-lt48.true) in
    q.2

pub returns-then-b-gt57-clause-next_value : goal.returns-then-b-gt57-clause-next_value
returns-then-b-gt57-clause-next_value c =
    let a = c.args in
    let l = c.loop-i in
    let q = run_over a.s.now a.from l.i l.value l.invariant c.loop-i-test.true (no_digit_above _ c.if-b-gt57.true) in
    q.0

pub returns-then-b-gt57-clause-capped : goal.returns-then-b-gt57-clause-capped
returns-then-b-gt57-clause-capped c =
    let a = c.args in
    let l = c.loop-i in
    let q = run_over a.s.now a.from l.i l.value l.invariant c.loop-i-test.true (no_digit_above _ c.if-b-gt57.true) in
    q.2

pub loop-i-preserved : goal.loop-i-preserved
loop-i-preserved c =
    let a = c.args in
    let l = c.loop-i in
    run_more a.s.now a.from l.i l.value l.invariant c.loop-i-test.true c.if-b-lt48.false
    c.if-b-gt57.false _ c.capped_digit-value.ensures

pub returns-clause-next_value : goal.returns-clause-next_value
returns-clause-next_value c =
    let a = c.args in
    let l = c.loop-i in
    let q = run_end a.s.now a.from l.i l.value l.invariant c.loop-i-test.false in
    omega (arith, q.0, q.1, c.loop-i-test.false)

pub returns-clause-capped : goal.returns-clause-capped
returns-clause-capped c =
    let a = c.args in
    let l = c.loop-i in
    let q = run_end a.s.now a.from l.i l.value l.invariant c.loop-i-test.false in
    q.2

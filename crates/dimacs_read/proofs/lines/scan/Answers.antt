use mathlib.Core.List.{[]}
use mathlib.Core.Path.{sym, ◌∙◌, ap, subst}
use Rattle.std.specs.Prelude.{Some}
use Prim.Native.Nat.{ℕ, ◌+◌}
use native.Mathlib.Omega.{arith}
use Rattle.dimacs.proofs.Turns.{Turn, turn_start, turn_lit, turn_stop, turn_bad, turn_end, turn_cut, lit_moves, stop_moves}
use Rattle.dimacs_read.proofs.lines.scan.Goals as goal

pub loop-at-init : goal.loop-at-init
loop-at-init c =
    let a = c.args in
    let pre = c.requires in
    turn_start a.s.now a.v a.from [] [] pre

pub loop-at-smaller-in-Some-Lit : goal.loop-at-smaller-in-Some-Lit
loop-at-smaller-in-Some-Lit c =
    let a = c.args in
    let l = c.loop-at in
    let token = c.token_at in
    let code = c.in-Some-Lit.field-0-0 in
    let next = c.in-Some-Lit.next in
    let e = sym token.ensures ∙ c.in-Some-Lit.is ∙ ap Some c.in-Some-Lit.field-0-is in
    let w = lit_moves a.s.now a.v a.from [] [] [] [] l.start l.at l.n l.m l.invariant code next e in
    omega (arith, w.0, w.1)

pub loop-at-preserved-in-Some-Lit : goal.loop-at-preserved-in-Some-Lit
loop-at-preserved-in-Some-Lit c =
    let a = c.args in
    let l = c.loop-at in
    let test = c.loop-at-test in
    let token = c.token_at in
    let code = c.in-Some-Lit.field-0-0 in
    let next = c.in-Some-Lit.next in
    let e = sym token.ensures ∙ c.in-Some-Lit.is ∙ ap Some c.in-Some-Lit.field-0-is in
    subst (λ (x : ℕ). Turn a.s.now a.v a.from [] [] [] [] l.start x (l.n + 1) l.m) (sym c.in-Some-Lit.next-is)
    (turn_lit a.s.now a.v a.from [] [] [] [] l.start l.at l.n l.m l.invariant test.true code next e)

pub loop-at-smaller : goal.loop-at-smaller
loop-at-smaller c =
    let a = c.args in
    let l = c.loop-at in
    let token = c.token_at in
    let next = c.in-Some-Stop.next in
    let e = sym token.ensures ∙ c.in-Some-Stop.is ∙ ap Some c.in-Some-Stop.field-0-is in
    let w = stop_moves a.s.now a.v a.from [] [] [] [] l.start l.at l.n l.m l.invariant next e in
    omega (arith, w.0, w.1)

pub loop-at-preserved : goal.loop-at-preserved
loop-at-preserved c =
    let a = c.args in
    let l = c.loop-at in
    let test = c.loop-at-test in
    let token = c.token_at in
    let next = c.in-Some-Stop.next in
    let e = sym token.ensures ∙ c.in-Some-Stop.is ∙ ap Some c.in-Some-Stop.field-0-is in
    subst (λ (x : ℕ). Turn a.s.now a.v a.from [] [] [] [] x x l.n (l.m + 1)) (sym c.in-Some-Stop.next-is)
    (turn_stop a.s.now a.v a.from [] [] [] [] l.start l.at l.n l.m l.invariant test.true next e)

pub returns-in-None : goal.returns-in-None
returns-in-None c =
    let a = c.args in
    let l = c.loop-at in
    let test = c.loop-at-test in
    let token = c.token_at in
    (turn_bad a.s.now a.v a.from [] [] [] [] l.start l.at l.n l.m l.invariant test.true
    (sym token.ensures ∙ c.in-None.is) [] []).answer

pub returns-then-start-at : goal.returns-then-start-at
returns-then-start-at c =
    let a = c.args in
    let l = c.loop-at in
    let test = c.loop-at-test in
    let if1 = c.if-start-at in
    (turn_end a.s.now a.v a.from [] [] [] [] l.start l.at l.n l.m l.invariant test.false (omega (arith, if1.true))).answer

pub returns : goal.returns
returns c =
    let a = c.args in
    let l = c.loop-at in
    let test = c.loop-at-test in
    let if1 = c.if-start-at in
    (turn_cut a.s.now a.v a.from [] [] [] [] l.start l.at l.n l.m l.invariant test.false (λ e. omega (arith, e, if1.false)) [] []).answer

use mathlib.Core.List.{[]}
use mathlib.Core.Path.{sym, ap, ◌∙◌}
use Rattle.std.specs.Prelude.{Some}
use native.Mathlib.Omega.{arith}
use Rattle.drat.proofs.Ends.{end_part, end_cons, end_step, end_whole, end_broken, end_fault, step_is}
use Rattle.drat.proofs.Places.{body_at, lit_at, stop_at, bad_at, opens_at, wrong_at_lem}
use Rattle.drat.proofs.Sound.{Bytes}
use Rattle.drat.specs.Filled.{end_of}
use Rattle.drat_scan.proofs.scan.step_end.Goals as goal

pub returns-in_default : goal.returns-in_default
returns-in_default c =
    let a = c.args in
    let s = a.s.now in
    let hb : Bytes s = λ i. omega (arith, c.type_inv.s i) in
    let w = wrong_at_lem a.f s hb a.start (sym c.opening_at.ensures ∙ c.in_default.is) in
    (sym (ap (end_of a.start) (sym (step_is a.f s a.start) ∙ w) ∙ end_fault a.start), c.requires)

pub loop-next-init : goal.loop-next-init
loop-next-init c =
    let a = c.args in
    let s = a.s.now in
    let hb : Bytes s = λ i. omega (arith, c.type_inv.s i) in
    let eo = sym c.opening_at.ensures ∙ c.in-Some.is in
    let k = c.in-Some.field-0-0 in
    let first = c.in-Some.first in
    let v = opens_at a.f s hb a.start c.requires k first eo in
    (v.2, sym (end_step a.start k (body_at a.f s first)) ∙ sym (ap (end_of a.start) v.0))

pub loop-next-smaller : goal.loop-next-smaller
loop-next-smaller c =
    let s = c.args.s.now in
    let hb : Bytes s = λ i. omega (arith, c.type_inv.s i) in
    let l = c.loop-next in
    let v = lit_at c.args.f s hb l.at l.invariant.0 c.in-Some-Lit.field-0-0 c.in-Some-Lit.next
    (sym c.token_at.ensures ∙ c.in-Some-Lit.is ∙ ap Some c.in-Some-Lit.field-0-is) in
    omega (arith, v.1, v.2)

pub loop-next-preserved : goal.loop-next-preserved
loop-next-preserved c =
    let a = c.args in
    let s = a.s.now in
    let hb : Bytes s = λ i. omega (arith, c.type_inv.s i) in
    let l = c.loop-next in
    let ch = c.in-Some-Lit.field-0-0 in
    let nx = c.in-Some-Lit.next in
    let v = lit_at a.f s hb l.at l.invariant.0 ch nx (sym c.token_at.ensures ∙ c.in-Some-Lit.is ∙ ap Some c.in-Some-Lit.field-0-is) in
    (v.2, sym (ap (end_part a.start) v.0 ∙ end_cons a.start ch (body_at a.f s nx)) ∙ l.invariant.1)

pub returns-in-Some-Stop : goal.returns-in-Some-Stop
returns-in-Some-Stop c =
    let a = c.args in
    let s = a.s.now in
    let hb : Bytes s = λ i. omega (arith, c.type_inv.s i) in
    let l = c.loop-next in
    let nx = c.in-Some-Stop.next in
    let v = stop_at a.f s hb l.at l.invariant.0 nx (sym c.token_at.ensures ∙ c.in-Some-Stop.is ∙ ap Some c.in-Some-Stop.field-0-is) in
    (sym (end_whole a.start [] nx) ∙ sym (ap (end_part a.start) v.0) ∙ l.invariant.1 ∙ ap (end_of a.start) (step_is a.f s a.start), v.2)

pub returns-in-None : goal.returns-in-None
returns-in-None c =
    let a = c.args in
    let s = a.s.now in
    let hb : Bytes s = λ i. omega (arith, c.type_inv.s i) in
    let l = c.loop-next in
    let v = bad_at a.f s hb l.at (sym c.token_at.ensures ∙ c.in-None.is) in (
      sym (end_broken a.start) ∙ sym (ap (end_part a.start) v) ∙ l.invariant.1
          ∙ ap (end_of a.start) (step_is a.f s a.start),
      c.requires,
    )

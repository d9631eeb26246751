use Prim.Native.Nat.{ℕ, ◌+◌}
use mathlib.Core.Path.{sym, ap, ◌∙◌, subst}
use native.Mathlib.Omega.{arith}
use Rattle.drat.proofs.Places.{opens_at, lit_at, stop_at, token_le}
use Rattle.drat.proofs.Places.{token_at as place_at}
use Rattle.drat.proofs.Sound.{Bytes}
use Rattle.drat_scan.proofs.ScanLaws.{Between, InStep, between_start, inside_start, inside_more, between_more, between_wrong, between_bad, between_end}
use Rattle.drat_scan.proofs.scan.scan.Goals as goal
use Rattle.drat_scan.proofs.scan.scan.Goals.{then-s-at, else-s-at+in_default, else-s-at+in-Some+in-None}
use Rattle.std.specs.Prelude.{Some, Ok, Err}
use Rattle.drat.specs.Filled.{size}

pub steps-init : goal.steps-init
steps-init c =
    let a = c.args in
    let s = a.s.now in
    let hb : Bytes s = λ i. omega (arith, c.type_inv.s i) in
    subst (λ (x : ℕ). Between a.f s x 0 0) (sym c.past-at.ensures) (between_start a.f s hb)

pub loop-next-init : goal.loop-next-init
loop-next-init c =
    let a = c.args in
    let s = a.s.now in
    let hb : Bytes s = λ i. omega (arith, c.type_inv.s i) in
    let o = c.steps in
    let k = c.in-Some.field-0-0 in
    let first = c.in-Some.first in
    let eo = sym c.opening_at.ensures ∙ c.in-Some.is in
    let u = opens_at a.f s hb o.at o.invariant.outer.within k first eo in
    inside_start a.f s first o.n u.2 (omega (arith, u.1, o.invariant.outer.small))

pub loop-next-smaller : goal.loop-next-smaller
loop-next-smaller c =
    let s = c.args.s.now in
    let hb : Bytes s = λ i. omega (arith, c.type_inv.s i) in
    let l = c.loop-next in
    let ch = c.in-Some-Lit.field-0-0 in
    let nx = c.in-Some-Lit.next in
    let et = sym c.token_at.ensures ∙ c.in-Some-Lit.is ∙ ap Some c.in-Some-Lit.field-0-is in
    let v = lit_at c.args.f s hb l.at l.invariant.inner.within ch nx et in
    omega (arith, v.1, v.2)

pub loop-next-preserved : goal.loop-next-preserved
loop-next-preserved c =
    let a = c.args in
    let s = a.s.now in
    let hb : Bytes s = λ i. omega (arith, c.type_inv.s i) in
    let o = c.steps in
    let first = c.in-Some.first in
    let l = c.loop-next in
    let ch = c.in-Some-Lit.field-0-0 in
    let nx = c.in-Some-Lit.next in
    let et = sym c.token_at.ensures ∙ c.in-Some-Lit.is ∙ ap Some c.in-Some-Lit.field-0-is in
    subst (λ (x : ℕ). InStep a.f s first o.n x (l.n + 1)) (sym c.in-Some-Lit.next-is) (inside_more a.f s first o.n l.at l.n ch nx hb l.invariant et)

pub steps-smaller : goal.steps-smaller
steps-smaller c =
    let a = c.args in
    let s = a.s.now in
    let hb : Bytes s = λ i. omega (arith, c.type_inv.s i) in
    let o = c.steps in
    let k = c.in-Some.field-0-0 in
    let first = c.in-Some.first in
    let eo = sym c.opening_at.ensures ∙ c.in-Some.is in
    let u = opens_at a.f s hb o.at o.invariant.outer.within k first eo in
    let l = c.loop-next in
    let nx = c.in-Some-Stop.next in
    let et = sym c.token_at.ensures ∙ c.in-Some-Stop.is ∙ ap Some c.in-Some-Stop.field-0-is in
    let v = stop_at a.f s hb l.at l.invariant.inner.within nx et in
    let p = c.past-at-in-Some-Stop in
    omega (arith, v.1, u.1, l.invariant.inner.after, p.ensures, token_le a.f s hb nx v.2)

pub steps-preserved : goal.steps-preserved
steps-preserved c =
    let a = c.args in
    let s = a.s.now in
    let hb : Bytes s = λ i. omega (arith, c.type_inv.s i) in
    let o = c.steps in
    let k = c.in-Some.field-0-0 in
    let first = c.in-Some.first in
    let eo = sym c.opening_at.ensures ∙ c.in-Some.is in
    let l = c.loop-next in
    let nx = c.in-Some-Stop.next in
    let et = sym c.token_at.ensures ∙ c.in-Some-Stop.is ∙ ap Some c.in-Some-Stop.field-0-is in
    let p = c.past-at-in-Some-Stop in
    let b = between_more a.f s o.at o.n o.m hb o.invariant k first l.at l.n nx eo l.invariant et in
    subst (λ (x : ℕ). Between a.f s x l.n (o.m + 1)) (sym p.ensures)
    (subst (λ (x : ℕ). Between a.f s (place_at a.f s x) l.n (o.m + 1)) (sym c.in-Some-Stop.next-is) b)

pub returns-then-place-s : goal.returns-then-place-s
returns-then-place-s c =
    let a = c.args in
    let s = a.s.now in
    let hb : Bytes s = λ i. omega (arith, c.type_inv.s i) in
    let o = c.steps in
    elim c.if-s-at.branch [
      | then-s-at w ↦ absurd (omega arith)
      | else-s-at+in_default w ↦
          ap Err w.place-is ∙ between_wrong a.f s o.at o.n o.m hb o.invariant w.if-s-at.false (sym w.opening_at.ensures ∙ w.in_default.is)
      | else-s-at+in-Some+in-None w ↦
          ap Err w.place-is ∙ between_bad a.f s o.at o.n o.m hb o.invariant w.if-s-at.false w.in-Some.field-0-0 w.in-Some.first w.loop-next.at
          w.loop-next.n (sym w.opening_at.ensures ∙ w.in-Some.is) w.loop-next.invariant (sym w.token_at.ensures ∙ w.in-None.is)
    ]

pub returns-else-place-s : goal.returns-else-place-s
returns-else-place-s c =
    let s = c.args.s.now in
    let hb : Bytes s = λ i. omega (arith, c.type_inv.s i) in
    let o = c.steps in
    elim c.if-s-at.branch [
      | then-s-at w ↦ ap (λ (x : ℕ). Ok (size x o.m)) w.n-is ∙ between_end c.args.f s o.at o.n o.m hb o.invariant w.if-s-at.true
      | else-s-at+in_default w ↦ absurd (omega arith)
      | else-s-at+in-Some+in-None w ↦ absurd (omega arith)
    ]

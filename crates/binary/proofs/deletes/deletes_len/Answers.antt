use Rattle.drat.specs.Grammar.{encode}
use Rattle.steps.specs.Refusals.{laid}
use Rattle.binary.specs.Entries.{deletes_by, Named}
use Rattle.binary.proofs.EachLaws.{bytes_length, bytes_short, bytes_fit, bytes_whole}
use Rattle.std.proofs.lemmas.Result.{err_from_is_err_and}
use Prim.Native.Nat.{ℕ, ◌-◌}
use mathlib.Core.List.{List}
use mathlib.Core.Path.{sym, ap, subst, ◌∙◌}
use native.Mathlib.Omega.{arith}
use Rattle.binary.proofs.deletes.deletes_len.Goals as goal

pub section_len-requires : goal.section_len-requires
section_len-requires c =
    subst (λ (es : List ℕ). Named c.args.gs.now c.loop-l.l es) (sym c.section_of.ensures) (c.requires c.loop-l.l)

pub returns-in_err-used : goal.returns-in_err-used
returns-in_err-used c =
    let a = c.args in
    let r = c.section_of.ensures ∙ c.args.s.now.placed.section c.loop-l.l c.loop-l-test.true in
    let e = c.section_len.ensures
    ∙ ap (λ (es : List ℕ). laid (encode a.f (deletes_by a.gs.now a.assignment.now c.loop-l.l es)) (a.room - c.loop-l.used)) r in
    let p = err_from_is_err_and c.from_residual.result c.from_residual.ensures.1 in
    rw (p.1, p.2) (bytes_short a.f (deletes_by a.gs.now a.assignment.now) a.s.now.lists.now a.s.now.n a.s.now.place.now c.args.s.now.placed c.loop-l.l c.loop-l-test.true
    a.room c.loop-l.used _ _ c.loop-l.invariant.0 c.loop-l.invariant.1 e c.in_err-used.was)

pub loop-l-preserved : goal.loop-l-preserved
loop-l-preserved c =
    let a = c.args in
    let r = c.section_of.ensures ∙ c.args.s.now.placed.section c.loop-l.l c.loop-l-test.true in
    let e = c.section_len.ensures
    ∙ ap (λ (es : List ℕ). laid (encode a.f (deletes_by a.gs.now a.assignment.now c.loop-l.l es)) (a.room - c.loop-l.used)) r in
    let d = bytes_fit a.f (deletes_by a.gs.now a.assignment.now) a.s.now.lists.now a.s.now.n a.s.now.place.now c.args.s.now.placed c.loop-l.l c.loop-l-test.true
    a.room c.loop-l.used _ _ c.loop-l.invariant.1 e c.in_ok-used.was in
    let z = bytes_length a.f (deletes_by a.gs.now a.assignment.now) a.s.now.lists.now a.s.now.n a.s.now.place.now c.args.s.now.placed c.loop-l.l c.loop-l-test.true in
    (omega (arith, z, d.1, c.loop-l.invariant.0), d.0)

pub returns : goal.returns
returns c =
    bytes_whole c.args.f (deletes_by c.args.gs.now c.args.assignment.now) c.args.s.now.lists.now c.args.s.now.n
    c.args.s.now.place.now c.args.s.now.placed c.loop-l.l c.args.room c.loop-l.used c.loop-l-test.false
    c.loop-l.invariant.0 c.loop-l.invariant.1

use Rattle.binary.specs.Entries.{deletes_by, Named}
use Rattle.binary.proofs.EachLaws.{bytes_length, bytes_put, bytes_done}
use lib.Seq.{sets}
use lib.ListN.{length}
use Prim.Native.Nat.{ℕ, ◌+◌}
use mathlib.Core.List.{List}
use mathlib.Core.Path.{sym, ap, subst, ◌∙◌}
use Rattle.drat.specs.Grammar.{encode}
use native.Mathlib.Omega.{arith}
use Rattle.binary.proofs.deletes.put_deletes.Goals as goal

pub put_section-at-requires-clause-named : goal.put_section-at-requires-clause-named
put_section-at-requires-clause-named c =
    subst (λ (es : List ℕ). Named c.args.gs.now c.loop-l.l es) (sym c.section_of.ensures) (c.requires.all_named c.loop-l.l)

pub put_section-at-requires-clause-es_in_bounds : goal.put_section-at-requires-clause-es_in_bounds
put_section-at-requires-clause-es_in_bounds c =
    let a = c.args in
    let r = c.section_of.ensures ∙ c.args.s.now.placed.section c.loop-l.l c.loop-l-test.true in
    let z = bytes_length a.f (deletes_by a.gs.now a.assignment.now) a.s.now.lists.now a.s.now.n a.s.now.place.now c.args.s.now.placed c.loop-l.l c.loop-l-test.true in
    omega (
      arith,
      z,
      ap (λ (es : List ℕ). length (encode a.f (deletes_by a.gs.now a.assignment.now c.loop-l.l es))) r,
      c.requires.lists_in_bounds,
      c.loop-l.invariant.0,
    )

pub loop-l-preserved : goal.loop-l-preserved
loop-l-preserved c =
    let a = c.args in
    let r = c.section_of.ensures ∙ c.args.s.now.placed.section c.loop-l.l c.loop-l-test.true in
    let piece = λ (es : List ℕ). encode a.f (deletes_by a.gs.now a.assignment.now c.loop-l.l es) in
    let z = bytes_length a.f (deletes_by a.gs.now a.assignment.now) a.s.now.lists.now a.s.now.n a.s.now.place.now c.args.s.now.placed c.loop-l.l c.loop-l-test.true in
    let v = c.put_section-at.ensures.value ∙ ap (λ (es : List ℕ). c.loop-l.at + length (piece es)) r in (
      omega (arith, z, v, c.loop-l.invariant.0),
      bytes_put a.f (deletes_by a.gs.now a.assignment.now) a.s.now.lists.now a.s.now.n a.s.now.place.now c.args.s.now.placed c.loop-l.l c.loop-l-test.true _ _ _ _
          (c.put_section-at.ensures.fills ∙ ap (λ (es : List ℕ). sets c.loop-l.bytes c.loop-l.at (piece es)) r) v ∙ c.loop-l.invariant.1,
    )

pub returns : goal.returns
returns c =
    let d = bytes_done c.args.f (deletes_by c.args.gs.now c.args.assignment.now) c.args.s.now.lists.now c.args.s.now.n
    c.args.s.now.place.now c.args.s.now.placed c.loop-l.l c.loop-l-test.false in
    sym (ap (sets c.loop-l.bytes c.loop-l.at) d) ∙ c.loop-l.invariant.1

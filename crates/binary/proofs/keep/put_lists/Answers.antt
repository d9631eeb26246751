use Rattle.scope.specs.Binary.{section_words}
use Rattle.binary.specs.Entries.{kept_by}
use Rattle.binary.proofs.EachLaws.{from_length, from_put, from_done, at_small}
use Prim.Native.Nat.{ℕ, ◌+◌}
use lib.ListN.{length}
use lib.Seq.{sets}
use mathlib.Core.List.{List}
use mathlib.Core.Path.{sym, ap, ◌∙◌}
use native.Mathlib.Omega.{arith}
use Rattle.binary.proofs.keep.put_lists.Goals as goal

pub put_section-at-requires-clause-es_len_bound : goal.put_section-at-requires-clause-es_len_bound
put_section-at-requires-clause-es_len_bound c =
    let r = c.section_of.ensures ∙ c.args.s.now.placed.section c.loop-l.l c.loop-l-test.true in
    let s = at_small 4294967296 c.args.s.now.lists.now c.args.s.now.n c.args.s.now.place.now c.args.s.now.placed c.args.s.now.small
    c.loop-l.l c.loop-l-test.true in
    omega (arith, ap length r, s)

pub put_section-at-requires-clause-es_in_bounds : goal.put_section-at-requires-clause-es_in_bounds
put_section-at-requires-clause-es_in_bounds c =
    let r = c.section_of.ensures ∙ c.args.s.now.placed.section c.loop-l.l c.loop-l-test.true in
    let z = from_length (λ l es. section_words (kept_by c.args.assignment.now l es)) c.args.s.now.lists.now c.args.s.now.n
    c.args.s.now.place.now c.args.s.now.placed c.loop-l.l c.loop-l-test.true in
    omega (
      arith,
      z,
      ap (λ (es : List ℕ). length (section_words (kept_by c.args.assignment.now c.loop-l.l es))) r,
      c.requires,
      c.loop-l.invariant.0,
    )

pub loop-l-preserved : goal.loop-l-preserved
loop-l-preserved c =
    let r = c.section_of.ensures ∙ c.args.s.now.placed.section c.loop-l.l c.loop-l-test.true in
    let words = λ (es : List ℕ). section_words (kept_by c.args.assignment.now c.loop-l.l es) in
    let z = from_length (λ l es. section_words (kept_by c.args.assignment.now l es)) c.args.s.now.lists.now c.args.s.now.n
    c.args.s.now.place.now c.args.s.now.placed c.loop-l.l c.loop-l-test.true in
    let v = c.put_section-at.ensures.value ∙ ap (λ (es : List ℕ). c.loop-l.at + length (words es)) r in (
      omega (arith, z, v, c.loop-l.invariant.0),
      from_put (λ l es. section_words (kept_by c.args.assignment.now l es)) c.args.s.now.lists.now c.args.s.now.n
          c.args.s.now.place.now c.args.s.now.placed c.loop-l.l c.loop-l-test.true _ _ _ _
          (c.put_section-at.ensures.fills ∙ ap (λ (es : List ℕ). sets c.loop-l.out c.loop-l.at (words es)) r) v ∙ c.loop-l.invariant.1,
    )

pub returns : goal.returns
returns c =
    let d = from_done (λ l es. section_words (kept_by c.args.assignment.now l es)) c.args.s.now.lists.now c.args.s.now.n
    c.args.s.now.place.now c.args.s.now.placed c.loop-l.l c.loop-l-test.false in
    sym (ap (sets c.loop-l.out c.loop-l.at) d) ∙ c.loop-l.invariant.1

use Prim.Native.Nat.{ℕ, ◌+◌, ◌<◌}
use mathlib.Core.List.{List}
use mathlib.Core.Path.{sym, ap, ap₂, ◌∙◌}
use native.Mathlib.Omega.{arith}
use lib.Seq.{sets}
use lib.ListN.{length, get_or, drop}
use Rattle.drat.proofs.ListedLaws.{rises_at, listed_none, listed_step, listed_sets}
use Rattle.drat.specs.Grammar.{step_of, encode_step, encode}
use Rattle.drat.specs.Writing.{part}
use Rattle.drat.specs.Listed.{listed}
use Rattle.drat.specs.declared.Kind.{Kind}
use Rattle.drat_write.proofs.proof.put_proof.Goals as goal

pub offset_bounds-codes-a : goal.offset_bounds-codes-a
offset_bounds-codes-a c =
    let l = c.loop-i in
    let a = c.args in
    let h : l.i < length a.ends.now = omega arith in
    let r = rises_at (length a.codes.now) l.a a.ends.now l.i h l.invariant.0 in
    omega (arith, r.0, r.1)

pub slice_bounds-put_step-count : goal.slice_bounds-put_step-count
slice_bounds-put_step-count c =
    let l = c.loop-i in
    let a = c.args in
    let h : l.i < length a.ends.now = omega arith in
    let r = rises_at (length a.codes.now) l.a a.ends.now l.i h l.invariant.0 in
    omega (arith, r.0, r.1)

pub slice_bounds-put_step-start : goal.slice_bounds-put_step-start
slice_bounds-put_step-start c =
    let l = c.loop-i in
    let a = c.args in
    let h : l.i < length a.ends.now = omega arith in
    let r = rises_at (length a.codes.now) l.a a.ends.now l.i h l.invariant.0 in
    omega (arith, r.0, r.1)

pub slice_bounds-put_step-end : goal.slice_bounds-put_step-end
slice_bounds-put_step-end c =
    let l = c.loop-i in
    let a = c.args in
    let h : l.i < length a.ends.now = omega arith in
    let r = rises_at (length a.codes.now) l.a a.ends.now l.i h l.invariant.0 in
    omega (arith, r.0, r.1)

pub put_step-at-requires-clause-lits_in_bounds : goal.put_step-at-requires-clause-lits_in_bounds
put_step-at-requires-clause-lits_in_bounds c =
    let l = c.loop-i in
    let a = c.args in
    let h : l.i < length a.ends.now = omega arith in
    let r = rises_at (length a.codes.now) l.a a.ends.now l.i h l.invariant.0 in
    let k = ap (λ (x : Kind). length (encode_step a.f (step_of x (part l.a (get_or a.ends.now l.i 0) a.codes.now))))
    c.kind_in.ensures in
    omega (arith, k, listed_step a.f a.codes.now l.a a.ends.now a.kinds.now l.i h c.requires.listed.paired)

pub loop-i-preserved : goal.loop-i-preserved
loop-i-preserved c =
    let l = c.loop-i in
    let a = c.args in
    let h : l.i < length a.ends.now = omega arith in
    let r = rises_at (length a.codes.now) l.a a.ends.now l.i h l.invariant.0 in
    let k = ap (λ (x : Kind). encode_step a.f (step_of x (part l.a (get_or a.ends.now l.i 0) a.codes.now)))
    c.kind_in.ensures in
    let rest = encode a.f (listed a.codes.now (get_or a.ends.now l.i 0) (drop (l.i + 1) a.ends.now) (drop (l.i + 1) a.kinds.now)) in (
      r.2,
      omega (arith, c.put_step-at.ensures.value, ap length k, listed_step a.f a.codes.now l.a a.ends.now a.kinds.now l.i h c.requires.listed.paired),
      ap₂ (λ (o : List ℕ) (j : ℕ). sets o j rest) (c.put_step-at.ensures.fills ∙ ap (sets l.out l.at) k) (c.put_step-at.ensures.value ∙ ap (λ (x : List ℕ). l.at + length x) k)
          ∙ listed_sets a.f a.codes.now l.a a.ends.now a.kinds.now l.i h c.requires.listed.paired l.out l.at
          ∙ l.invariant.2,
    )

pub returns-clause-value : goal.returns-clause-value
returns-clause-value c =
    let l = c.loop-i in
    let a = c.args in
    let n = listed_none a.f a.codes.now l.a a.ends.now a.kinds.now l.i c.loop-i-test.false in
    omega (arith, ap length n, l.invariant.1)

pub returns-clause-fills : goal.returns-clause-fills
returns-clause-fills c =
    let l = c.loop-i in
    let a = c.args in
    let n = listed_none a.f a.codes.now l.a a.ends.now a.kinds.now l.i c.loop-i-test.false in
    sym (ap (sets l.out l.at) n) ∙ l.invariant.2

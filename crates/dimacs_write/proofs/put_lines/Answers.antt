use Prim.Native.Nat.{ℕ, ◌+◌, ◌<◌}
use mathlib.Core.List.{List}
use mathlib.Core.Path.{sym, ap, ap₂, ◌∙◌}
use native.Mathlib.Omega.{arith}
use lib.Seq.{sets}
use lib.ListN.{length, get_or, drop}
use Rattle.drat.proofs.ListedLaws.{rises_at}
use Rattle.dimacs.specs.Cnf.{clause_lines}
use Rattle.dimacs.specs.Calls.{clauses_by}
use Rattle.dimacs.proofs.ClauseLaws.{lines_done, lines_step, lines_sets}
use Rattle.dimacs_write.proofs.put_lines.Goals as goal

pub offset_bounds-codes-a : goal.offset_bounds-codes-a
offset_bounds-codes-a c =
    let l = c.loop-end in
    let a = c.args in
    let h : l.end-index < length a.ends.now = omega arith in
    let r = rises_at (length a.codes.now) l.a a.ends.now l.end-index h l.invariant.0 in
    omega (arith, r.0, r.1)

pub slice_bounds-put_step-count : goal.slice_bounds-put_step-count
slice_bounds-put_step-count c =
    let l = c.loop-end in
    let a = c.args in
    let h : l.end-index < length a.ends.now = omega arith in
    let r = rises_at (length a.codes.now) l.a a.ends.now l.end-index h l.invariant.0 in
    omega (arith, r.0, r.1)

pub slice_bounds-put_step-start : goal.slice_bounds-put_step-start
slice_bounds-put_step-start c =
    let l = c.loop-end in
    let a = c.args in
    let h : l.end-index < length a.ends.now = omega arith in
    let r = rises_at (length a.codes.now) l.a a.ends.now l.end-index h l.invariant.0 in
    omega (arith, r.0, r.1)

pub slice_bounds-put_step-end : goal.slice_bounds-put_step-end
slice_bounds-put_step-end c =
    let l = c.loop-end in
    let a = c.args in
    let h : l.end-index < length a.ends.now = omega arith in
    let r = rises_at (length a.codes.now) l.a a.ends.now l.end-index h l.invariant.0 in
    omega (arith, r.0, r.1)

pub put_step-at-requires-clause-lits_in_bounds : goal.put_step-at-requires-clause-lits_in_bounds
put_step-at-requires-clause-lits_in_bounds c =
    let l = c.loop-end in
    let a = c.args in
    let h : l.end-index < length a.ends.now = omega arith in
    let r = rises_at (length a.codes.now) l.a a.ends.now l.end-index h l.invariant.0 in
    omega (arith, c.requires.ends_in_bounds, l.invariant.1, lines_step a.codes.now l.a a.ends.now l.end-index h)

pub loop-end-preserved : goal.loop-end-preserved
loop-end-preserved c =
    let l = c.loop-end in
    let a = c.args in
    let h : l.end-index < length a.ends.now = omega arith in
    let r = rises_at (length a.codes.now) l.a a.ends.now l.end-index h l.invariant.0 in
    let turn = lines_sets a.codes.now l.a a.ends.now l.end-index h l.out l.at in
    let b = get_or a.ends.now l.end-index 0 in
    let rest = clause_lines (clauses_by a.codes.now b (drop (l.end-index + 1) a.ends.now)) in (
      r.2,
      omega (arith, c.put_step-at.ensures.value, l.invariant.1, lines_step a.codes.now l.a a.ends.now l.end-index h),
      ap₂ (λ (o : List ℕ) (j : ℕ). sets o j rest) c.put_step-at.ensures.fills c.put_step-at.ensures.value ∙ turn ∙ l.invariant.2,
    )

pub returns-clause-value : goal.returns-clause-value
returns-clause-value c =
    let l = c.loop-end in
    let a = c.args in
    let n = lines_done a.codes.now l.a a.ends.now l.end-index c.loop-end-test.false in
    omega (arith, ap length n, l.invariant.1)

pub returns-clause-fills : goal.returns-clause-fills
returns-clause-fills c =
    let l = c.loop-end in
    let a = c.args in
    let n = lines_done a.codes.now l.a a.ends.now l.end-index c.loop-end-test.false in
    sym (ap (sets l.out l.at) n) ∙ l.invariant.2

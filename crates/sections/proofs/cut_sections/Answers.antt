use Rattle.base.proofs.Truth.{truth}
use Rattle.scope.proofs.WantedLaws.{both_ways_lem}
use Rattle.sections.proofs.CutLaws.{cut_missing, cut_short, cut_more, cut_is, cut_ends}
use mathlib.Core.Path.{sym}
use native.Mathlib.Omega.{arith}
use Rattle.sections.proofs.cut_sections.Goals as goal

pub returns-then-lists-at-clause-value : goal.returns-then-lists-at-clause-value
returns-then-lists-at-clause-value c =
    sym (cut_missing c.args.lists.now c.args.n _ _ _ c.loop-l.invariant c.loop-l-test.true (omega arith))

pub returns-then-lists-at-2-clause-value : goal.returns-then-lists-at-2-clause-value
returns-then-lists-at-2-clause-value c =
    sym (cut_short c.args.lists.now c.args.n _ _ _ c.loop-l.invariant
    c.loop-l-test.true (omega arith) (omega arith))

pub loop-l-preserved : goal.loop-l-preserved
loop-l-preserved c =
    cut_more c.args.lists.now c.args.n _ _ _ c.loop-l.invariant _ c.requires.n_bound
    c.loop-l-test.true (omega arith) (omega arith) (omega arith)

pub returns-clause-value : goal.returns-clause-value
returns-clause-value c =
    both_ways_lem _ _
    (λ h. let k = simp truth at h in cut_is c.args.lists.now c.args.n _ _ _ c.loop-l.invariant c.loop-l-test.false (omega arith))
    (λ z. let e = cut_ends c.args.lists.now c.args.n _ _ _ c.loop-l.invariant c.loop-l-test.false z in simp truth (omega arith))

use Rattle.base.proofs.KeepLaws.{kept_start, count_some, count_none, count_end, count_most}
use Rattle.scope.specs.Binary.{times}
use borrow.Author.Tests.{eq-eqb, ne_eqb}
use lib.Dec.{eqb}
use lib.ListN.{length}
use mathlib.Core.Path.{sym, ap, ◌∙◌}
use native.Mathlib.Omega.{arith}
use Rattle.sections.proofs.exact.count_of.Goals as goal
use Rattle.sections.proofs.exact.count_of.Goals.{then-e-m, else-e-m}

pub loop-e-init : goal.loop-e-init
loop-e-init c = sym (ap length (kept_start (λ x. eqb x c.args.m) c.args.es.now))

pub overflow_add-k : goal.overflow_add-k
overflow_add-k c =
    let z = count_most (λ x. eqb x c.args.m) c.args.es.now c.loop-e.e-index _ c.loop-e.invariant in omega arith

pub loop-e-preserved : goal.loop-e-preserved
loop-e-preserved c =
    elim c.if-e-m.branch [
      | then-e-m w ↦ w.k-is ∙ count_some (λ x. eqb x c.args.m) c.args.es.now _ _ c.loop-e-test.true
          (eq-eqb _ _ w.if-e-m.true) c.loop-e.invariant
      | else-e-m w ↦ w.k-is ∙ count_none (λ x. eqb x c.args.m) c.args.es.now _ _ c.loop-e-test.true
          (ne_eqb _ _ w.if-e-m.false) c.loop-e.invariant
    ]

pub returns : goal.returns
unfolding times
returns c = count_end (λ x. eqb x c.args.m) c.args.es.now _ _ c.loop-e-test.false c.loop-e.invariant

use Rattle.sections.proofs.InsideLaws.{low_at, each_below, mirrored_low, low_inside}
use borrow.Author.Count.{below_more}
use mathlib.Core.Bool.{true}
use Rattle.base.specs.Bounded.{every_of}
use lib.Dec.{ltb}
use mathlib.Core.Path.{◌≡◌, sym, ap, ◌∙◌}
use native.Mathlib.Omega.{arith}
use Rattle.sections.proofs.all_inside.Goals as goal

pub returns-then-not-all_below-clause-value : goal.returns-then-not-all_below-clause-value
returns-then-not-all_below-clause-value c =
    λ e. sym c.if-not-all_below.true
    ∙ c.all_below.ensures
    ∙ each_below c.args.s.now.n _
    ∙ ap (every_of (λ m. ltb m c.args.s.now.n)) c.section_of.ensures
    ∙ mirrored_low c.args.s.now.lists.now c.args.s.now.n e _ c.loop-l-test.true

pub returns-clause-inside : goal.returns-clause-inside
returns-clause-inside c =
    λ e. low_inside c.args.s.now.lists.now c.args.s.now.n (λ l h. c.loop-l.invariant l (omega arith))

pub loop-l-preserved : goal.loop-l-preserved
loop-l-preserved c =
    below_more (λ j. low_at c.args.s.now.lists.now c.args.s.now.n j ≡ true) c.loop-l.l c.loop-l.invariant
    (ap (every_of (λ m. ltb m c.args.s.now.n)) (sym c.section_of.ensures) ∙ sym (each_below c.args.s.now.n _) ∙ sym c.all_below.ensures ∙ c.if-not-all_below.false)

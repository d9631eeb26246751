use Rattle.sections.proofs.TallyLaws.{tally_none}
use Rattle.sections.proofs.InsideLaws.{mirror_at, mirrored_is, all_upto}
use Rattle.base.proofs.BelowLaws.{all_none, all_more, all_fails}
use mathlib.Core.Path.{sym, ◌∙◌}
use native.Mathlib.Omega.{arith}
use Rattle.sections.proofs.exact.exactly_mirrored.Goals as goal

pub loop-l-init : goal.loop-l-init
loop-l-init c = (all_none (mirror_at c.args.s.now.lists.now c.args.s.now.n), tally_none)

pub returns-then-not-section_mirrored : goal.returns-then-not-section_mirrored
returns-then-not-section_mirrored c =
    sym (mirrored_is c.args.s.now.lists.now c.args.s.now.n ∙ all_fails c.args.s.now.n (mirror_at c.args.s.now.lists.now c.args.s.now.n)
    c.loop-l.l c.loop-l-test.true
    (sym c.section_mirrored.ensures.result_value ∙ c.if-not-section_mirrored.true))

pub loop-l-preserved : goal.loop-l-preserved
loop-l-preserved c = (
  all_more c.loop-l.l (mirror_at c.args.s.now.lists.now c.args.s.now.n) c.loop-l.invariant.0
      (sym c.section_mirrored.ensures.result_value ∙ c.if-not-section_mirrored.false),
  c.section_mirrored.ensures.tallied_2
      c.if-not-section_mirrored.false,
)

pub returns : goal.returns
returns c =
    sym (mirrored_is c.args.s.now.lists.now c.args.s.now.n ∙ all_upto c.loop-l.l c.args.s.now.n
    (mirror_at c.args.s.now.lists.now c.args.s.now.n) (omega arith) c.loop-l.invariant.0)

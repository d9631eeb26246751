use Rattle.sections.proofs.TallyLaws.{clear_start, clear_slot, clear_more, clear_end}
use Rattle.sections.proofs.InsideLaws.{inside_at}
use Rattle.base.proofs.MemberLaws.{every_start, every_step, every_fails}
use Rattle.scope.specs.Binary.{sections_of, has_mirror}
use mathlib.Core.Path.{sym, ◌∙◌}
use native.Mathlib.Omega.{arith}
use Rattle.sections.proofs.exact.each_mirrored.Goals as goal

pub loop-m-init : goal.loop-m-init
loop-m-init c = (
  every_start (has_mirror (sections_of c.args.s.now.n c.args.s.now.lists.now) c.args.l) c.args.es.now,
  clear_start _ _ c.requires.tallied,
)

pub slot_mirrored-requires-clause-slot : goal.slot_mirrored-requires-clause-slot
slot_mirrored-requires-clause-slot c =
    clear_slot c.args.es.now c.loop-m.tally c.loop-m.m-index c.loop-m-test.true
    c.loop-m.invariant.1 _ _ c.requires.es_value c.loop-m.invariant.0

pub returns-then-not-slot_mirrored-clause-value : goal.returns-then-not-slot_mirrored-clause-value
returns-then-not-slot_mirrored-clause-value c =
    sym
    (every_fails (has_mirror (sections_of c.args.s.now.n c.args.s.now.lists.now) c.args.l) c.args.es.now _ 0
    c.loop-m-test.true (sym c.slot_mirrored.ensures ∙ c.if-not-slot_mirrored.true))

pub loop-m-preserved : goal.loop-m-preserved
loop-m-preserved c = (
  every_step (has_mirror (sections_of c.args.s.now.n c.args.s.now.lists.now) c.args.l) c.args.es.now _ 0
      c.loop-m-test.true c.loop-m.invariant.0 (sym c.slot_mirrored.ensures ∙ c.if-not-slot_mirrored.false),
  clear_more c.args.es.now c.loop-m.tally c.loop-m.m-index c.loop-m-test.true
      c.loop-m.invariant.1 (omega (arith, inside_at c.args.s.now.lists.now c.args.s.now.n c.requires.inside c.args.l _ c.requires.es_value c.loop-m.m-index c.loop-m-test.true, c.args.s.now.placed.few)),
)

pub returns-clause-tallied_2 : goal.returns-clause-tallied_2
returns-clause-tallied_2 c =
    λ e. clear_end c.args.es.now _ _ c.loop-m-test.false c.loop-m.invariant.1

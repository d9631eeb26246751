use Rattle.base.specs.Bounded.{any_of}
use Rattle.table.proofs.FoundLaws.{global_word_lem}
use Rattle.steps.proofs.LiteralLaws.{word_filled}
use Rattle.binary.specs.Entries.{unheld_by}
use Rattle.binary.proofs.EachLaws.{filled_all, any_empty, any_passed, any_found, any_done}
use borrow.Author.Tests.{eq-eqb}
use mathlib.Core.Path.{sym, ap, ◌∙◌}
use Rattle.binary.proofs.deletes.any_unheld.Goals as goal
use Rattle.binary.proofs.deletes.any_unheld.Goals.{then-s-l+in-Some, else-s-l}

pub returns-in_default : goal.returns-in_default
returns-in_default c =
    any_found (unheld_by c.args.gs.now) c.args.s.now.lists.now c.args.s.now.n c.args.s.now.place.now c.args.s.now.placed c.loop-l.l c.loop-l-test.true
    c.if-s-l.true
    (eq-eqb _ 0 (global_word_lem _ _ (sym c.in_default.is ∙ c.holder.ensures)))
    ∙ c.loop-l.invariant ∙ ap (any_of (unheld_by c.args.gs.now)) (sym (filled_all c.args.s.now.n c.args.s.now.lists.now))

pub loop-l-preserved : goal.loop-l-preserved
loop-l-preserved c =
    elim c.if-s-l.branch [
      | then-s-l+in-Some w ↦ any_passed (unheld_by c.args.gs.now) c.args.s.now.lists.now c.args.s.now.n c.args.s.now.place.now c.args.s.now.placed c.loop-l.l
          c.loop-l-test.true w.if-s-l.true
          (word_filled _ _ (global_word_lem _ _ (sym w.in-Some.is ∙ w.holder.ensures))) ∙ c.loop-l.invariant
      | else-s-l w ↦ any_empty (unheld_by c.args.gs.now) c.args.s.now.lists.now c.args.s.now.n c.args.s.now.place.now c.args.s.now.placed c.loop-l.l
          c.loop-l-test.true w.if-s-l.false ∙ c.loop-l.invariant
    ]

pub returns : goal.returns
returns c =
    any_done (unheld_by c.args.gs.now) c.args.s.now.lists.now c.args.s.now.n c.args.s.now.place.now c.args.s.now.placed c.loop-l.l c.loop-l-test.false
    ∙ c.loop-l.invariant ∙ ap (any_of (unheld_by c.args.gs.now)) (sym (filled_all c.args.s.now.n c.args.s.now.lists.now))

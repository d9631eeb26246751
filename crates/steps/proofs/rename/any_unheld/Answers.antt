use Rattle.table.proofs.FoundLaws.{global_word_lem}
use Rattle.steps.proofs.LiteralLaws.{word_filled}
use borrow.Author.Tests.{eq-eqb}
use lib.ListN.{get_or}
use lib.Dec.{eqb}
use Prim.Native.Nat.{ℕ}
use mathlib.Core.Bool.{Bool}
use Rattle.scope.specs.Literals.{index_of}
use mathlib.Core.Path.{sym, ◌∙◌}
use native.Mathlib.Omega.{arith}
use Rattle.base.proofs.MemberLaws.{any_start, any_step, any_some, any_end, any_is}
use Rattle.steps.proofs.rename.any_unheld.Goals as goal

pub loop-lit-init : goal.loop-lit-init
loop-lit-init c = any_start (λ x. eqb (get_or c.args.gs.now (index_of x) 0) 0) c.args.lits.now

pub returns-in_default : goal.returns-in_default
returns-in_default c =
    let p : ℕ → Bool = λ x. eqb (get_or c.args.gs.now (index_of x) 0) 0 in
    sym (any_some p _ _ _ c.loop-lit-test.true (eq-eqb _ 0 (global_word_lem _ _ (sym c.in_default.is ∙ c.holder.ensures))))
    ∙ sym (any_is p _)

pub loop-lit-preserved : goal.loop-lit-preserved
loop-lit-preserved c =
    any_step (λ x. eqb (get_or c.args.gs.now (index_of x) 0) 0) _ _ _
    c.loop-lit-test.true c.loop-lit.invariant
    (word_filled _ _ (global_word_lem _ _ (sym c.in-Some.is ∙ c.holder.ensures)))

pub returns : goal.returns
returns c =
    let p : ℕ → Bool = λ x. eqb (get_or c.args.gs.now (index_of x) 0) 0 in
    sym (any_end p _ _ (omega (arith, c.loop-lit-test.false)) c.loop-lit.invariant) ∙ sym (any_is p _)

use mathlib.Core.Path.{sym, ap, ap₂, ◌∙◌}
use mathlib.Core.List.{List}
use Prim.Native.Nat.{ℕ}
use lib.ListN.{length}
use lib.Seq.{sets}
use Rattle.drat.specs.Grammar.{encode}
use Rattle.scope.specs.declared.KindRule.{KindRule}
use Rattle.scope.specs.Steps.{written}
use Rattle.scope.specs.Write.{lacked}
use Rattle.steps.specs.Names.{names_by}
use Rattle.steps.specs.Refusals.{laid, laid_bytes}
use Rattle.std.proofs.lemmas.Result.{err_from_is_err_and}
use Rattle.scope.proofs.RefusedLaws.{refused_err, refused_ok}
use Rattle.steps.proofs.StepLaws.{step_clear, step_nameable}
use Rattle.steps.proofs.WriteLaws.{write_first, write_lacked, write_judged}
use Rattle.steps.proofs.write.known_write_step.Goals as goal

pub returns-in_err-step_refusal-clause-meets : goal.returns-in_err-step_refusal-clause-meets
returns-in_err-step_refusal-clause-meets c =
    let a = c.args in
    let p = err_from_is_err_and c.from_residual.result c.from_residual.ensures.1 in
    let n = sym (refused_err _ _ c.in_err-step_refusal.was) ∙ c.step_refusal.ensures in
    rw (p.1, p.2) (write_first a.f _ a.step a.solvervars a.lits.now a.hashes.now a.out.now _ n).does

pub returns-then-is_lacked-clause-meets : goal.returns-then-is_lacked-clause-meets
returns-then-is_lacked-clause-meets c =
    let a = c.args in
    (write_lacked a.f _ a.step a.solvervars a.lits.now a.hashes.now a.out.now _ c.step_refusal.ensures
    (refused_ok _ _ c.in_ok-step_refusal.was) (sym (c.is_lacked.ensures ∙ ap (λ (r : KindRule). lacked r.writes) c.rule_of-writes.ensures) ∙ c.if-is_lacked.true)).does

pub returns-in_err-step_refusal-clause-out : goal.returns-in_err-step_refusal-clause-out
returns-in_err-step_refusal-clause-out c =
    let a = c.args in
    let n = sym (refused_err _ _ c.in_err-step_refusal.was) ∙ c.step_refusal.ensures in
    (write_first a.f _ a.step a.solvervars a.lits.now a.hashes.now a.out.now _ n).bytes

pub returns-then-is_lacked-clause-out : goal.returns-then-is_lacked-clause-out
returns-then-is_lacked-clause-out c =
    let a = c.args in
    (write_lacked a.f _ a.step a.solvervars a.lits.now a.hashes.now a.out.now _ c.step_refusal.ensures
    (refused_ok _ _ c.in_ok-step_refusal.was) (sym (c.is_lacked.ensures ∙ ap (λ (r : KindRule). lacked r.writes) c.rule_of-writes.ensures) ∙ c.if-is_lacked.true)).bytes

pub write_judged-requires : goal.write_judged-requires
write_judged-requires c =
    let a = c.args in
    let r = step_clear _ a.step a.solvervars a.lits.now a.hashes.now _ c.step_refusal.ensures (refused_ok _ _ c.in_ok-step_refusal.was) in
    rw c.literals_of.ensures (step_nameable _ a.step a.solvervars a.lits.now a.hashes.now r)

pub returns-clause-meets : goal.returns-clause-meets
returns-clause-meets c =
    let a = c.args in
    let w = λ (ls : List ℕ) (r : KindRule). encode a.f (written r.writes (names_by a.gs.now a.solvervars ls)) in
    let e = ap₂ w c.literals_of.ensures c.rule_of-writes.ensures in
    (write_judged a.f _ a.step a.solvervars a.lits.now a.hashes.now a.out.now _ _ _ c.step_refusal.ensures
    (refused_ok _ _ c.in_ok-step_refusal.was)
    (sym (c.is_lacked.ensures ∙ ap (λ (r : KindRule). lacked r.writes) c.rule_of-writes.ensures) ∙ c.if-is_lacked.false)
    (c.write_judged.ensures.value ∙ ap (λ (bs : List ℕ). laid bs (length a.out.now)) e)
    (c.write_judged.ensures.out ∙ ap (λ (bs : List ℕ). sets a.out.now 0 (laid_bytes bs (length a.out.now))) e)).does

pub returns-clause-out : goal.returns-clause-out
returns-clause-out c =
    let a = c.args in
    let w = λ (ls : List ℕ) (r : KindRule). encode a.f (written r.writes (names_by a.gs.now a.solvervars ls)) in
    let e = ap₂ w c.literals_of.ensures c.rule_of-writes.ensures in
    (write_judged a.f _ a.step a.solvervars a.lits.now a.hashes.now a.out.now _ _ _ c.step_refusal.ensures
    (refused_ok _ _ c.in_ok-step_refusal.was)
    (sym (c.is_lacked.ensures ∙ ap (λ (r : KindRule). lacked r.writes) c.rule_of-writes.ensures) ∙ c.if-is_lacked.false)
    (c.write_judged.ensures.value ∙ ap (λ (bs : List ℕ). laid bs (length a.out.now)) e)
    (c.write_judged.ensures.out ∙ ap (λ (bs : List ℕ). sets a.out.now 0 (laid_bytes bs (length a.out.now))) e)).bytes

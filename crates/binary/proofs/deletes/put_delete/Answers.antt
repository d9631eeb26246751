use Rattle.drat.specs.Grammar.{step_of, encode_step}
use Rattle.drat.specs.declared.Kind.TheVariants.{Delete}
use Rattle.binary.proofs.NamedLaws.{pair_named}
use Prim.Native.Nat.{ℕ, ◌+◌, ◌≤◌}
use lib.ListN.{length}
use lib.Seq.{sets}
use mathlib.Core.List.{List}
use mathlib.Core.Path.{sym, ap, ◌∙◌, subst}
use Rattle.binary.proofs.deletes.put_delete.Goals as goal

pub put_step-requires-clause-lits_in_bounds : goal.put_step-requires-clause-lits_in_bounds
put_step-requires-clause-lits_in_bounds c =
    let e = pair_named c.args.gs.now c.args.x c.args.m _ _ c.rename_lit.ensures
    c.rename_lit-2.ensures in
    subst (λ (ls : List ℕ). c.args.at + length (encode_step c.args.f (step_of Delete ls)) ≤ length c.args.bytes.now) (sym e)
    c.requires.m_in_bounds

pub returns-clause-value : goal.returns-clause-value
returns-clause-value c =
    let e = pair_named c.args.gs.now c.args.x c.args.m _ _ c.rename_lit.ensures
    c.rename_lit-2.ensures in
    let step : List ℕ → List ℕ = λ ls. encode_step c.args.f (step_of Delete ls) in
    c.put_step.ensures.value ∙ ap (λ (ls : List ℕ). c.args.at + length (step ls)) e

pub returns-clause-fills : goal.returns-clause-fills
returns-clause-fills c =
    let e = pair_named c.args.gs.now c.args.x c.args.m _ _ c.rename_lit.ensures
    c.rename_lit-2.ensures in
    let step : List ℕ → List ℕ = λ ls. encode_step c.args.f (step_of Delete ls) in
    c.put_step.ensures.fills ∙ ap (λ (ls : List ℕ). sets c.args.bytes.now c.args.at (step ls)) e

use Rattle.steps.proofs.StepLaws.{refuse_14, refuse_literals}
use mathlib.Core.Path.{refl, sym, ap, ◌∙◌}
use Rattle.table.specs.Lists.{seen}
use Rattle.steps.specs.Refusals.{literal_refusal}
use Rattle.steps.proofs.rename.step_refusal.Goals as goal

pub returns-then-differ : goal.returns-then-differ
returns-then-differ c =
    refuse_14 _ c.args.step c.args.solvervars c.args.lits.now c.args.hashes.now c.requires (sym c.differ.ensures ∙ c.if-differ.true)

pub returns : goal.returns
returns c =
    refuse_literals _ c.args.step c.args.solvervars c.args.lits.now c.args.hashes.now _ c.requires (sym c.differ.ensures ∙ c.if-differ.false)
    (c.literal_refusal.ensures _ refl refl ∙ ap (literal_refusal (seen c.args.t.now) c.args.solvervars) c.literals_of.ensures)

use mathlib.Core.Path.{◌∙◌}
use native.Mathlib.Omega.{arith}
use Rattle.model.proofs.ValueLaws.{user_there, mapped_below, user_unmapped, user_mapped_lem}
use Rattle.model.proofs.user_value.Goals as goal

pub bounds-t-user : goal.bounds-t-user
bounds-t-user c = user_there _ c.requires.sound _ c.requires.below

pub returns-in_default-clause-value : goal.returns-in_default-clause-value
returns-in_default-clause-value c = let none = c.in_default.ensures in user_unmapped _ _ (omega (arith, none))

pub global_value-requires-clause-below : goal.global_value-requires-clause-below
global_value-requires-clause-below c = let held = c.in-Some.ensures in mapped_below _ c.requires.sound c.args.user.0 _ (omega arith)

pub returns-clause-value : goal.returns-clause-value
returns-clause-value c =
    let held = c.in-Some.ensures in
    c.global_value.ensures.value ∙ user_mapped_lem _ _ _ (omega arith)

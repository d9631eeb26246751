use native.Mathlib.Omega.{arith}
use Rattle.model.proofs.ValueLaws.{record_there, solver_there, value_there, value_small, value_deleted, value_held, value_false, value_own}
use Rattle.model.proofs.global_value.Goals as goal

pub bounds-t-global : goal.bounds-t-global
bounds-t-global c = record_there _ c.requires.sound _ c.requires.below

pub bounds-t-global-2 : goal.bounds-t-global-2
bounds-t-global-2 c = solver_there _ c.requires.sound _ c.requires.below

pub returns-then-x-ge36-clause-value : goal.returns-then-x-ge36-clause-value
returns-then-x-ge36-clause-value c = value_deleted _ _ (record_there _ c.requires.sound _ c.requires.below) c.if-x-ge36.true

pub returns-then-unit-eq0-clause-value : goal.returns-then-unit-eq0-clause-value
returns-then-unit-eq0-clause-value c =
    let none = c.in_default.ensures in
    value_false _ _ (record_there _ c.requires.sound _ c.requires.below) c.if-x-ge36.false (omega (arith, none)) c.if-unit-eq0.true

pub returns-else-unit-eq0-clause-value : goal.returns-else-unit-eq0-clause-value
returns-else-unit-eq0-clause-value c =
    let none = c.in_default.ensures in
    value_own _ _ (record_there _ c.requires.sound _ c.requires.below) c.if-x-ge36.false (omega (arith, none)) c.if-unit-eq0.false

pub bounds-t-solver : goal.bounds-t-solver
bounds-t-solver c = let held = c.in-Some.ensures in value_there _ c.requires.sound c.args.global.0 _ (omega arith)

pub returns-clause-value : goal.returns-clause-value
returns-clause-value c =
    let held = c.in-Some.ensures in
    value_held _ _ (record_there _ c.requires.sound _ c.requires.below) c.if-x-ge36.false _ (omega arith)

pub returns-clause-upper_bound : goal.returns-clause-upper_bound
returns-clause-upper_bound c = value_small _ c.requires.sound _

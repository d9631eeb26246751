use mathlib.Core.Path.{ap, ◌∙◌}
use native.Mathlib.Omega.{arith}
use Rattle.table.proofs.FoundLaws.{solver_word, solver_word_lem}
use Rattle.held.specs.Parts.{none}
use Rattle.held.proofs.RunLaws.{run_more, held_small}
use Rattle.held.proofs.held_lits.Goals as goal

pub loop-i-init : goal.loop-i-init
loop-i-init c = none

pub overflow_mul-codes : goal.overflow_mul-codes
overflow_mul-codes c =
    let e = solver_word_lem _ _ c.held_solver.ensures ∙ ap solver_word c.in-Some.is in
    let s = held_small _ _ _ _ c.requires.map_below e in
    omega arith

pub overflow_add-codes : goal.overflow_add-codes
overflow_add-codes c =
    let e = solver_word_lem _ _ c.held_solver.ensures ∙ ap solver_word c.in-Some.is in
    let s = held_small _ _ _ _ c.requires.map_below e in
    omega arith

pub loop-i-preserved : goal.loop-i-preserved
loop-i-preserved c =
    let e = solver_word_lem _ _ c.held_solver.ensures ∙ ap solver_word c.in-Some.is in
    run_more _ _ c.loop-i.invariant c.loop-i-test.true e (omega arith)

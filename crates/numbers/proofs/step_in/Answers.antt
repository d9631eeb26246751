use Rattle.std.specs.Prelude.{Option, Some}
use Prim.Native.Nat.{ℕ}
use mathlib.Core.Path.{sym, ap, ◌∙◌}
use Rattle.scope.specs.declared.Solver.{Solver}
use Rattle.scope.specs.declared.User.{User}
use Rattle.scope.specs.declared.ProofStep.TheVariants.{SolverVarName, UserVarName}
use Rattle.numbers.specs.Numbers.{global_at, step_for}
use Rattle.numbers.proofs.NumberLaws.{no_step}
use Rattle.numbers.proofs.step_in.Goals as goal

pub returns-in-0 : goal.returns-in-0
unfolding step_for
returns-in-0 c = sym (ap (λ (n : ℕ). step_for n c.args.step.a c.args.step.b) c.in-0.is)

pub returns-in-1 : goal.returns-in-1
unfolding step_for
returns-in-1 c = sym (ap (λ (n : ℕ). step_for n c.args.step.a c.args.step.b) c.in-1.is)

pub returns-in-2 : goal.returns-in-2
unfolding step_for
returns-in-2 c = sym (ap (λ (n : ℕ). step_for n c.args.step.a c.args.step.b) c.in-2.is)

pub returns-in-3 : goal.returns-in-3
unfolding step_for
returns-in-3 c = c.delete_in.ensures ∙ sym (ap (λ (n : ℕ). step_for n c.args.step.a c.args.step.b)
    c.in-3.is)

pub returns-in-4 : goal.returns-in-4
unfolding step_for
returns-in-4 c = sym (ap (λ (n : ℕ). step_for n c.args.step.a c.args.step.b) c.in-4.is)

pub returns-in-5 : goal.returns-in-5
unfolding step_for
returns-in-5 c = sym (ap (λ (n : ℕ). step_for n c.args.step.a c.args.step.b) c.in-5.is)

pub returns-in-6 : goal.returns-in-6
unfolding step_for
returns-in-6 c = sym (ap (λ (n : ℕ). step_for n c.args.step.a c.args.step.b) c.in-6.is)

pub returns-in-7 : goal.returns-in-7
unfolding step_for
returns-in-7 c =
    let a = c.args.step in
    ap (λ (n : Option Solver). Some (SolverVarName (global_at a.a) n)) c.solver_name_in.ensures
    ∙ sym (ap (λ (n : ℕ). step_for n a.a a.b) c.in-7.is)

pub returns-in-8 : goal.returns-in-8
unfolding step_for
returns-in-8 c =
    let a = c.args.step in
    ap (λ (n : Option User). Some (UserVarName (global_at a.a) n)) c.user_name_in.ensures
    ∙ sym (ap (λ (n : ℕ). step_for n a.a a.b) c.in-8.is)

pub returns-in-9 : goal.returns-in-9
unfolding step_for
returns-in-9 c = sym (ap (λ (n : ℕ). step_for n c.args.step.a c.args.step.b) c.in-9.is)

pub returns-in-10 : goal.returns-in-10
unfolding step_for
returns-in-10 c = sym (ap (λ (n : ℕ). step_for n c.args.step.a c.args.step.b) c.in-10.is)

pub returns-in-11 : goal.returns-in-11
unfolding step_for
returns-in-11 c = sym (ap (λ (n : ℕ). step_for n c.args.step.a c.args.step.b) c.in-11.is)

pub returns-in-12 : goal.returns-in-12
unfolding step_for
returns-in-12 c = sym (ap (λ (n : ℕ). step_for n c.args.step.a c.args.step.b) c.in-12.is)

pub returns-in_default : goal.returns-in_default
returns-in_default c = sym (no_step _ _ _ c.in_default.in_default-own.rest)

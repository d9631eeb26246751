-- What the numbers of the C surface stand for.
use Rattle.std.specs.Prelude.{ℕ, Bool, not, eqb, Some, None, Option}
use Rattle.base.specs.Choice.{pick}
use Rattle.drat.specs.declared.Format.{Format}
use Rattle.drat.specs.declared.Format.TheVariants.{Text, Binary}
use Rattle.drat.specs.declared.Kind.{Kind}
use Rattle.drat.specs.declared.Kind.TheVariants.{Add, Delete}
use Rattle.scope.specs.declared.Solver.{Solver}
use Rattle.scope.specs.declared.User.{User}
use Rattle.scope.specs.declared.Mark.{Mark}
use Rattle.scope.specs.declared.Mark.TheVariants.{Used, Assumed, Released}
use Rattle.scope.specs.declared.SamplingMode.{SamplingMode}
use Rattle.scope.specs.declared.SamplingMode.TheVariants.{Sample, Witness, Hide}
use Rattle.scope.specs.declared.DeleteClauseProof.{DeleteClauseProof}
use Rattle.scope.specs.declared.DeleteClauseProof.TheVariants.{Redundant, Satisfied, Simplified}
use Rattle.scope.specs.declared.ProofStep.{ProofStep}
use Rattle.scope.specs.declared.ProofStep.TheVariants.{AddClause, AtClause, UnitClauses, DeleteClause, Model, Assumptions, FailedAssumptions, SolverVarName}
use Rattle.scope.specs.declared.ProofStep.TheVariants.{UserVarName, DeleteVar, ChangeSamplingMode, ChangeHashBits, End}
use Rattle.scope.specs.declared.Global.{Global}
use Rattle.scope.specs.Table.{Table, word}
use Rattle.scope.specs.Outcome.{Outcome, refusal}

-- what follows from what the number stands for, or else `none`
unfoldable pub when_known : {A B : Type 0} → Option A → B → (A → B) → B
when_known (Some a) none f = f a
when_known None none f = none

-- A call with what a number stands for. If that is nothing, the refusal is 0xffffffff, and nothing is done.
abbrev pub for_known : {A : Type 0} → Option A → Table → (A → Outcome) → Outcome
for_known k t f = when_known k (refusal 4294967295 t) f

-- the first two, or three, of an enum by their places
unfoldable pub of_two : {A : Type 0} → A → A → ℕ → Option A
of_two x y n = pick (eqb n 0) (Some x) (pick (eqb n 1) (Some y) None)

unfoldable pub of_three : {A : Type 0} → A → A → A → ℕ → Option A
of_three x y z n = pick (eqb n 0) (Some x) (pick (eqb n 1) (Some y) (pick (eqb n 2) (Some z) None))

abbrev pub mode_for : ℕ → Option SamplingMode
mode_for n = of_three Sample Witness Hide n

abbrev pub mark_for : ℕ → Option Mark
mark_for n = of_three Used Assumed Released n

abbrev pub format_for : ℕ → Option Format
format_for n = of_two Text Binary n

abbrev pub kind_for : ℕ → Option Kind
kind_for n = of_two Add Delete n

abbrev pub cause_for : ℕ → Option DeleteClauseProof
cause_for n = of_three Redundant Satisfied Simplified n

-- ---- steps

abbrev pub delete : Option DeleteClauseProof → Option ProofStep
delete (Some cause) = Some (DeleteClause cause)
delete None = None

abbrev pub flag_for : ℕ → Bool
flag_for n = not (eqb n 0)

abbrev pub global_at : ℕ → Global
global_at n = record { 0 = n }

-- a name by its word: index + 1, or 0 where it is withdrawn
abbrev pub solver_name_for : ℕ → Option Solver
solver_name_for n = word None (λ s. Some (record { 0 = s })) n

abbrev pub user_name_for : ℕ → Option User
user_name_for n = word None (λ u. Some (record { 0 = u })) n

-- the kind's place in the table of kinds, and what the step carries of its own
unfoldable pub step_for : ℕ → ℕ → ℕ → Option ProofStep
step_for k a b =
    pick (eqb k 0) (Some AddClause)
    (pick (eqb k 1) (Some (AtClause (flag_for a)))
    (pick (eqb k 2) (Some UnitClauses)
    (pick (eqb k 3) (delete (cause_for a))
    (pick (eqb k 4) (Some Model)
    (pick (eqb k 5) (Some Assumptions)
    (pick (eqb k 6) (Some FailedAssumptions)
    (pick (eqb k 7) (Some (SolverVarName (global_at a) (solver_name_for b)))
    (pick (eqb k 8) (Some (UserVarName (global_at a) (user_name_for b)))
    (pick (eqb k 9) (Some (DeleteVar (global_at a)))
    (pick (eqb k 10) (Some (ChangeSamplingMode (global_at a) (flag_for b)))
    (pick (eqb k 11) (Some (ChangeHashBits a))
    (pick (eqb k 12) (Some End) None))))))))))))

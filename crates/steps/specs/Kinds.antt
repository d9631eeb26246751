-- The table of step kinds by number.
use Rattle.std.specs.Prelude.{ℕ, false, List, [], ◌∷◌, get_or, None}
use Rattle.scope.specs.declared.DeleteClauseProof.TheVariants.{Redundant}
use Rattle.scope.specs.declared.ProofStep.{ProofStep}
use Rattle.scope.specs.declared.ProofStep.TheVariants.{AddClause, AtClause, UnitClauses, DeleteClause, Model, Assumptions, FailedAssumptions, SolverVarName}
use Rattle.scope.specs.declared.ProofStep.TheVariants.{UserVarName, DeleteVar, ChangeSamplingMode, ChangeHashBits, End}
use Rattle.scope.specs.declared.KindRule.{KindRule}
use Rattle.scope.specs.Steps.{rule_of}

-- a step of each kind, in the order of the table
abbrev kinds : List ProofStep
kinds =
    AddClause
    ∷ AtClause false
    ∷ UnitClauses
    ∷ DeleteClause Redundant
    ∷ Model
    ∷ Assumptions
    ∷ FailedAssumptions
    ∷ SolverVarName (record { 0 = 0 }) None
    ∷ UserVarName (record { 0 = 0 }) None
    ∷ DeleteVar (record { 0 = 0 })
    ∷ ChangeSamplingMode (record { 0 = 0 }) false
    ∷ ChangeHashBits 0
    ∷ End
    ∷ []

-- the rule of the kind with this number
abbrev pub rule_at : ℕ → KindRule
rule_at k = rule_of (get_or kinds k End)

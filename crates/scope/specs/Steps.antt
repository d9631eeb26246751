-- The thirteen step kinds (document 01, "Rename and write"), and what DRAT writes for each.
use Rattle.std.specs.Prelude.{ℕ, ◌+◌, Bool, true, false, List, [], ◌∷◌, map, Some, None, Option}
use Rattle.base.specs.Choice.{pick}
use Rattle.drat.specs.Grammar.{Step, step_of}
use Rattle.drat.specs.declared.Kind.TheVariants.{Add, Delete}
use Rattle.scope.specs.declared.Solver.{Solver}
use Rattle.scope.specs.declared.User.{User}
use Rattle.scope.specs.declared.DeleteClauseProof.{DeleteClauseProof}
use Rattle.scope.specs.declared.DeleteClauseProof.TheVariants.{Redundant, Satisfied, Simplified}
use Rattle.scope.specs.declared.ProofStep.{ProofStep}
use Rattle.scope.specs.declared.ProofStep.TheVariants.{AddClause, AtClause, UnitClauses, DeleteClause, Model, Assumptions, FailedAssumptions}
use Rattle.scope.specs.declared.ProofStep.TheVariants.{SolverVarName, UserVarName, DeleteVar, ChangeSamplingMode, ChangeHashBits, End}
use Rattle.scope.specs.declared.Writes.{Writes}
use Rattle.scope.specs.declared.Writes.TheVariants.{Add as adds, AddEach, Delete as deletes, Nothing, Refused}
use Rattle.scope.specs.declared.KindRule.{KindRule}

abbrev rule : Bool → Writes → KindRule
rule renamed writes = record { renamed = renamed; writes = writes }

-- The table of kinds: whether a kind carries literals to rename, and what DRAT has for it: an add, an add for each literal, a delete, nothing, or
-- no line at all, so that it is refused.
abbrev pub rule_of : ProofStep → KindRule
rule_of AddClause = rule true Refused
rule_of (AtClause redundant) = rule true adds
rule_of UnitClauses = rule true AddEach
rule_of (DeleteClause cause) = rule true deletes
rule_of Model = rule true Nothing
rule_of Assumptions = rule true Refused
rule_of FailedAssumptions = rule true Refused
rule_of (SolverVarName g s) = rule false Nothing
rule_of (UserVarName g u) = rule false Nothing
rule_of (DeleteVar g) = rule false Nothing
rule_of (ChangeSamplingMode g sample) = rule false Nothing
rule_of (ChangeHashBits bits) = rule false Nothing
rule_of End = rule false Nothing

-- the kind's place in the table
abbrev pub kind_of : ProofStep → ℕ
kind_of AddClause = 0
kind_of (AtClause redundant) = 1
kind_of UnitClauses = 2
kind_of (DeleteClause cause) = 3
kind_of Model = 4
kind_of Assumptions = 5
kind_of FailedAssumptions = 6
kind_of (SolverVarName g s) = 7
kind_of (UserVarName g u) = 8
kind_of (DeleteVar g) = 9
kind_of (ChangeSamplingMode g sample) = 10
kind_of (ChangeHashBits bits) = 11
kind_of End = 12

abbrev pub cause_of : DeleteClauseProof → ℕ
cause_of Redundant = 0
cause_of Satisfied = 1
cause_of Simplified = 2

abbrev pub flag : Bool → ℕ
flag b = pick b 1 0

-- the word of a name that is granted or withdrawn: index + 1, or 0
abbrev pub solver_name_word : Option Solver → ℕ
solver_name_word (Some s) = s.0 + 1
solver_name_word None = 0

abbrev pub user_name_word : Option User → ℕ
user_name_word (Some u) = u.0 + 1
user_name_word None = 0

-- a step in words: its kind, then what it carries of its own
abbrev pub step_words : ProofStep → List ℕ
step_words AddClause = 0 ∷ []
step_words (AtClause redundant) = 1 ∷ flag redundant ∷ []
step_words UnitClauses = 2 ∷ []
step_words (DeleteClause cause) = 3 ∷ cause_of cause ∷ []
step_words Model = 4 ∷ []
step_words Assumptions = 5 ∷ []
step_words FailedAssumptions = 6 ∷ []
step_words (SolverVarName g s) = 7 ∷ g.0 ∷ solver_name_word s ∷ []
step_words (UserVarName g u) = 8 ∷ g.0 ∷ user_name_word u ∷ []
step_words (DeleteVar g) = 9 ∷ g.0 ∷ []
step_words (ChangeSamplingMode g sample) = 10 ∷ g.0 ∷ flag sample ∷ []
step_words (ChangeHashBits bits) = 11 ∷ bits ∷ []
step_words End = 12 ∷ []

-- the kinds that carry hashes
abbrev pub has_hashes : ProofStep → Bool
has_hashes AddClause = false
has_hashes (AtClause redundant) = true
has_hashes UnitClauses = true
has_hashes (DeleteClause cause) = false
has_hashes Model = false
has_hashes Assumptions = false
has_hashes FailedAssumptions = true
has_hashes (SolverVarName g s) = false
has_hashes (UserVarName g u) = false
has_hashes (DeleteVar g) = false
has_hashes (ChangeSamplingMode g sample) = false
has_hashes (ChangeHashBits bits) = false
has_hashes End = false

-- the literals and the hashes that a step carries, of those passed beside it
abbrev pub literals_of : ProofStep → List ℕ → List ℕ
literals_of step lits = pick (rule_of step).renamed lits []

abbrev pub hashes_of : ProofStep → List ℕ → List ℕ
hashes_of step hashes = pick (has_hashes step) hashes []

-- The clause steps that are written for literals under global names.
abbrev pub written : Writes → List ℕ → List Step
written adds lits = step_of Add lits ∷ []
written AddEach lits = map (λ c. step_of Add (c ∷ [])) lits
written deletes lits = step_of Delete lits ∷ []
written Nothing lits = []
written Refused lits = []

abbrev pub clause_steps : ProofStep → List ℕ → List Step
clause_steps step lits = written (rule_of step).writes lits

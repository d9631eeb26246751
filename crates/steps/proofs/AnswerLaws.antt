-- The number and the values of an answer tell the answer.
use Rattle.std.specs.Prelude.{Some, None, Result, Ok, Err}
use Prim.Native.Nat.{ℕ}
use mathlib.Core.Path.{◌≡◌, refl, sym, ap, ◌∙◌}
use mathlib.Core.Bool.{true, false}
use mathlib.Core.List.{List, [], ◌∷◌}
use lib.Dec.{eqb}
use lib.ListN.{get_or}
use Rattle.scope.specs.declared.Counts.{Counts}
use Rattle.scope.specs.declared.DeleteClauseProof.TheVariants.{Redundant, Satisfied, Simplified}
use Rattle.scope.specs.declared.ProofStep.{ProofStep}
use Rattle.scope.specs.declared.ProofStep.TheVariants.{AddClause, AtClause, UnitClauses, DeleteClause, Model, Assumptions, FailedAssumptions, SolverVarName}
use Rattle.scope.specs.declared.ProofStep.TheVariants.{UserVarName, DeleteVar, ChangeSamplingMode, ChangeHashBits, End}
use Rattle.scope.specs.Table.{word}
use Rattle.scope.specs.Steps.{step_words}
use Rattle.scope.proofs.WordLaws.{found_index}
use Rattle.steps.specs.declared.rename.Renamed.{Renamed}
use Rattle.scope.specs.declared.Refusal.{Refusal}
use Rattle.scope.specs.Refusals.{number}
use Rattle.scope.proofs.RefusedLaws.{refusal_at, refusal_back}
use Rattle.steps.specs.Answers.{renamed, recorded}

-- a step from its words
step_from : List ℕ → ProofStep
step_from ws =
    let a = get_or ws 1 0 in
    let b = get_or ws 2 0 in
    get_or
    (AddClause
    ∷ AtClause (eqb a 1)
    ∷ UnitClauses
    ∷ DeleteClause (get_or (Redundant ∷ Satisfied ∷ Simplified ∷ []) a Redundant)
    ∷ Model
    ∷ Assumptions
    ∷ FailedAssumptions
    ∷ SolverVarName (record { 0 = a }) (word None (λ s. Some (record { 0 = s })) b)
    ∷ UserVarName (record { 0 = a }) (word None (λ u. Some (record { 0 = u })) b)
    ∷ DeleteVar (record { 0 = a })
    ∷ ChangeSamplingMode (record { 0 = a }) (eqb b 1)
    ∷ ChangeHashBits a
    ∷ [])
    (get_or ws 0 0) End

from_words : (s : ProofStep) → step_from (step_words s) ≡ s
unfolding step_from word
from_words AddClause = refl
from_words (AtClause true) = refl
from_words (AtClause false) = refl
from_words UnitClauses = refl
from_words (DeleteClause Redundant) = refl
from_words (DeleteClause Satisfied) = refl
from_words (DeleteClause Simplified) = refl
from_words Model = refl
from_words Assumptions = refl
from_words FailedAssumptions = refl
from_words (SolverVarName g (Some s)) = ap (SolverVarName g) (found_index None (λ s. Some (record { 0 = s })) s.0)
from_words (SolverVarName g None) = refl
from_words (UserVarName g (Some u)) = ap (UserVarName g) (found_index None (λ u. Some (record { 0 = u })) u.0)
from_words (UserVarName g None) = refl
from_words (DeleteVar g) = refl
from_words (ChangeSamplingMode g true) = refl
from_words (ChangeSamplingMode g false) = refl
from_words (ChangeHashBits b) = refl
from_words End = refl

number_one : (r q : Refusal) → number r ≡ number q → r ≡ q
number_one r q e = sym (refusal_back r) ∙ ap refusal_at e ∙ refusal_back q

pub words_one : (s r : ProofStep) → step_words s ≡ step_words r → s ≡ r
words_one s r e = sym (from_words s) ∙ ap step_from e ∙ from_words r

pub renamed_one : (r q : Result Renamed Refusal) (c : Counts) → (renamed r c).answer ≡ (renamed q c).answer → r ≡ q
renamed_one (Ok x) (Ok y) c h =
    let p : x.lits ≡ y.lits = cc in
    let q : x.hashes ≡ y.hashes = cc in
    let w : step_words x.step ≡ step_words y.step = cc in
    rw (p, q, words_one x.step y.step w)
renamed_one (Ok x) (Err r) c h = cc
renamed_one (Err r) (Ok x) c h = cc
renamed_one (Err r) (Err q) c h = let p : number r ≡ number q = cc in ap Err (number_one r q p)

pub recorded_one : (r q : Result ℕ Refusal) (c : Counts) → (recorded r c).answer ≡ (recorded q c).answer → r ≡ q
recorded_one (Ok a) (Ok b) c h = let p : a ≡ b = cc in cc
recorded_one (Ok a) (Err r) c h = cc
recorded_one (Err r) (Ok a) c h = cc
recorded_one (Err r) (Err q) c h = let p : number r ≡ number q = cc in ap Err (number_one r q p)

-- What the ledger enters of an accepted call (document 01, "Session").
use Rattle.std.specs.Prelude.{ℕ, zero, suc, ◌+◌, ◌-◌, ◌%◌, Bool, true, ◌&&◌, not, List, [], ◌∷◌, ◌++◌, map, eqb, ltb, length, take, drop}
use Rattle.base.specs.Choice.{pick}
use Rattle.base.specs.Bounded.{any_of, keep_of}
use Rattle.drat.specs.declared.Kind.TheVariants.{Add, Delete}
use Rattle.scope.specs.declared.SamplingMode.{SamplingMode}
use Rattle.scope.specs.declared.SamplingMode.TheVariants.{Sample, Witness, Hide}
use Rattle.scope.specs.declared.ProofStep.{ProofStep}
use Rattle.scope.specs.declared.ProofStep.TheVariants.{AddClause, AtClause, UnitClauses, DeleteClause, Model, Assumptions}
use Rattle.scope.specs.declared.ProofStep.TheVariants.{FailedAssumptions, SolverVarName, UserVarName, DeleteVar, ChangeSamplingMode, ChangeHashBits, End}
use Rattle.scope.specs.Notes.{Note}
use Rattle.scope.specs.Entries.{Entry, noted, hides}
use Rattle.scope.specs.Calls.{Call, lookup, map_user, new_user, pose, grant, set_mode, observe, mark, assign, remove, sweep, simplify, simplify_binary}
use Rattle.scope.specs.Calls.{rename, write, model}
use Rattle.session.specs.Ledger.{Line, line}

-- about names: that a Set mode was to Hide, then the notes
abbrev pub hidden : SamplingMode → ℕ → List Entry
hidden Sample g = []
hidden Witness g = []
hidden Hide g = hides g ∷ []

abbrev pub hidden_by : Call → List Entry
hidden_by (lookup asked i) = []
hidden_by (map_user u sampling) = []
hidden_by new_user = []
hidden_by (pose lits sampling) = []
hidden_by (grant g) = []
hidden_by (set_mode g mode) = hidden mode g
hidden_by observe = []
hidden_by (mark m s) = []
hidden_by (assign c) = []
hidden_by (remove s) = []
hidden_by sweep = []
hidden_by (simplify lits redundant) = []
hidden_by (simplify_binary lists) = []
hidden_by (rename step solver_vars lits hashes) = []
hidden_by (write step solver_vars lits hashes) = []
hidden_by model = []

unfoldable pub entries_of : Call → List Note → List Entry
entries_of call notes = hidden_by call ++ map noted notes

-- Simplify, told by the first value answered: 0 (kept) has no line, 1 (dropped) a delete of the clause asked about, 2 and 3 (shortened, binary)
-- an add of what is left and then that delete.
abbrev pub simplify_lines : List ℕ → List ℕ → List ℕ → List Note → List Line
simplify_lines [] lits rest notes = []
simplify_lines (zero ∷ vs) lits rest notes = []
simplify_lines (suc zero ∷ vs) lits rest notes = line Delete true lits notes ∷ []
simplify_lines (suc (suc zero) ∷ vs) lits rest notes = line Add true rest notes ∷ line Delete true lits notes ∷ []
simplify_lines (suc (suc (suc zero)) ∷ vs) lits rest notes = line Add true rest notes ∷ line Delete true lits notes ∷ []
simplify_lines (suc (suc (suc (suc k))) ∷ vs) lits rest notes = []

-- Write, told by the kind of step: a clause is added or deleted, units are added one by one, and the ten other kinds have no line.
abbrev pub write_lines : ProofStep → Bool → List ℕ → List Note → List Line
write_lines AddClause solver_vars lits notes = []
write_lines (AtClause redundant) solver_vars lits notes = line Add solver_vars lits notes ∷ []
write_lines UnitClauses solver_vars lits notes = map (λ c. line Add solver_vars (c ∷ []) notes) lits
write_lines (DeleteClause cause) solver_vars lits notes = line Delete solver_vars lits notes ∷ []
write_lines Model solver_vars lits notes = []
write_lines Assumptions solver_vars lits notes = []
write_lines FailedAssumptions solver_vars lits notes = []
write_lines (SolverVarName g s) solver_vars lits notes = []
write_lines (UserVarName g u) solver_vars lits notes = []
write_lines (DeleteVar g) solver_vars lits notes = []
write_lines (ChangeSamplingMode g sample) solver_vars lits notes = []
write_lines (ChangeHashBits bits) solver_vars lits notes = []
write_lines End solver_vars lits notes = []

-- Simplify binary, told by the lists given and the lists answered. Lists in words: a count, then as many entries, again and again to the end.
unfoldable pub sections_in : ℕ → List ℕ → List (List ℕ)
sections_in zero ws = []
sections_in (suc k) [] = []
sections_in (suc k) (n ∷ ws) = take n ws ∷ sections_in k (drop n ws)

-- the code next to c: of the same index, with the other sign
abbrev pub opposite : ℕ → ℕ
opposite c = pick (eqb (c % 2) 0) (c + 1) (c - 1)

-- The section of the literal l, before and after. An entry m that is no longer there was a clause of two literals, the opposite of l and m. It stood in
-- two sections; the delete is entered at the one whose opposite is the smaller code, in the order of the entries.
unfoldable pub gone_lines : ℕ → List ℕ → List ℕ → List Note → List Line
gone_lines l before after notes =
    map (λ m. line Delete true (opposite l ∷ m ∷ []) notes)
    (keep_of (λ m. not (any_of (λ x. eqb x m) after) && ltb (opposite l) m) before)

-- the sections in ascending order of their literals, the first that of l; one that is not there afterwards has no entry
unfoldable pub binary_lines : ℕ → List (List ℕ) → List (List ℕ) → List Note → List Line
binary_lines l [] after notes = []
binary_lines l (es ∷ before) [] notes = gone_lines l es [] notes ++ binary_lines (l + 1) before [] notes
binary_lines l (es ∷ before) (ks ∷ after) notes = gone_lines l es ks notes ++ binary_lines (l + 1) before after notes

-- about clauses: from the arguments, the values answered, the words filled and all notes up to then. Only Simplify, Simplify binary and Write
-- have lines.
unfoldable pub lines_of : Call → List ℕ → List ℕ → List Note → List Line
lines_of (lookup asked i) vs ws notes = []
lines_of (map_user u sampling) vs ws notes = []
lines_of new_user vs ws notes = []
lines_of (pose lits sampling) vs ws notes = []
lines_of (grant g) vs ws notes = []
lines_of (set_mode g mode) vs ws notes = []
lines_of observe vs ws notes = []
lines_of (mark m s) vs ws notes = []
lines_of (assign c) vs ws notes = []
lines_of (remove s) vs ws notes = []
lines_of sweep vs ws notes = []
lines_of (simplify lits redundant) vs ws notes = simplify_lines vs lits ws notes
lines_of (simplify_binary lists) vs ws notes = binary_lines 0 (sections_in (length lists) lists) (sections_in (length ws) ws) notes
lines_of (rename step solver_vars lits hashes) vs ws notes = []
lines_of (write step solver_vars lits hashes) vs ws notes = write_lines step solver_vars lits notes
lines_of model vs ws notes = []

-- Anchors of Simplify, Rename and Write. Where two refusals apply in a row, a remark names the later one.
use Rattle.std.specs.Prelude.{ℕ, false, true, List, [], ◌∷◌, replicate, Some, None, Option}
use Rattle.drat.specs.declared.Format.TheVariants.{Text, Binary}
use Rattle.scope.specs.declared.Solver.{Solver}
use Rattle.scope.specs.declared.User.{User}
use Rattle.scope.specs.declared.Global.{Global}
use Rattle.scope.specs.declared.DeleteClauseProof.TheVariants.{Redundant, Satisfied, Simplified}
use Rattle.scope.specs.declared.ProofStep.TheVariants.{AddClause, AtClause, UnitClauses, DeleteClause, Model, Assumptions, FailedAssumptions}
use Rattle.scope.specs.declared.ProofStep.TheVariants.{SolverVarName, UserVarName, DeleteVar, ChangeSamplingMode, ChangeHashBits, End}
use Rattle.scope.specs.Table.{Table}
use Rattle.scope.specs.Steps.{kind_of, cause_of}
use Rattle.scope.specs.Simplify.{simplify_of, delete_cause}
use Rattle.scope.specs.Write.{rename_of, write_of}
use Rattle.scope.specs.Anchors.{Anchor, ◌is◌, does, words, w1, w2, w3, w4, w6, tab, turns, writes}
use Rattle.scope.specs.AnchorsNames.{unsound, holed}

-- Solver indices 0, 1, 2, 3 are held by the globals 3, 2, 0, 1, whose DIMACS numbers are 4, 3, 1, 2. 1 is false, 2 is true, the others have
-- no value. So 2 and 5 are false, 3 and 4 are true, and 0, 1, 6, 7 are unknown.
abbrev pub held4 : Table
held4 = tab 4 0 4 4 4 4 (w4 0 0 0 0) (w4 0 0 0 0) (w4 3 4 2 1) (w4 4 3 1 2) (w4 0 1 2 0) (w4 2 2 2 2)

abbrev pub the : ℕ → Global
the g = record { 0 = g }

abbrev pub the_solver : ℕ → Option Solver
the_solver s = Some (record { 0 = s })

abbrev pub the_user : ℕ → Option User
the_user u = Some (record { 0 = u })

-- ---- Simplify: 1, 3, 8, 12, 2. 0 kept, 1 dropped, 2 shortened, 3 binary; literals left; the redundant flag; bytes.

abbrev pub simplifies : List Anchor
simplifies =
    -- 1 before 3; 3 before 8; 8 before 12, also beside a true literal; 12 before 2
    does (simplify_of Text unsound (replicate 8193 0) true 0 0) is turns 1 unsound
    ∷ does (simplify_of Text held4 (replicate 8193 8) true 0 0) is turns 3 held4
    ∷ does (simplify_of Text held4 (replicate 8192 8) true 0 0) is turns 8 held4
    ∷ does (simplify_of Text held4 (w2 2 8) true 0 0) is turns 8 held4
    ∷ does (simplify_of Text held4 (w2 4 9) true 9 99) is turns 8 held4
    ∷ does (simplify_of Text holed (w1 0) true 9 99) is turns 8 holed
    ∷ does (simplify_of Text held4 (w2 2 0) true 0 0) is turns 12 held4
    ∷ does (simplify_of Text held4 (w1 2) true 9 99) is turns 12 held4
    ∷ does (simplify_of Text held4 (w3 5 2 7) false 9 99) is turns 12 held4
    -- 2 for the literals, and for the bytes
    ∷ does (simplify_of Text held4 (w2 0 7) true 1 0) is turns 2 held4
    ∷ does (simplify_of Text held4 (w3 0 2 7) true 1 18) is turns 2 held4
    ∷ does (simplify_of Text held4 (w3 0 2 7) true 2 17) is turns 2 held4
    ∷ does (simplify_of Binary held4 (w3 2 4 0) true 0 4) is turns 2 held4
    -- kept: nothing went, two literals or not
    ∷ does (simplify_of Text held4 (w2 0 7) true 2 0) is writes (w4 0 2 0 0) held4 (w2 0 7) [] []
    ∷ does (simplify_of Text held4 (w3 1 6 0) true 3 0) is writes (w4 0 3 0 0) held4 (w3 1 6 0) [] []
    ∷ does (simplify_of Binary held4 (w1 6) false 1 0) is writes (w4 0 1 0 0) held4 (w1 6) [] []
    ∷ does (simplify_of Text held4 [] true 0 0) is writes (w4 0 0 0 0) held4 [] [] []
    -- dropped by a true literal, whatever the others are: d 3 1 4 0; d -3 0
    ∷ does (simplify_of Text held4 (w3 2 4 0) true 0 10)
    is writes (w4 1 0 0 10) held4 [] [] (100 ∷ 32 ∷ 51 ∷ 32 ∷ 49 ∷ 32 ∷ 52 ∷ 32 ∷ 48 ∷ 10 ∷ [])
    ∷ does (simplify_of Binary held4 (w3 2 4 0) false 0 5) is writes (w4 1 0 0 5) held4 [] [] (100 ∷ 6 ∷ 2 ∷ 8 ∷ 0 ∷ [])
    ∷ does (simplify_of Text held4 (w1 3) false 0 7) is writes (w4 1 0 0 7) held4 [] [] (100 ∷ 32 ∷ 45 ∷ 51 ∷ 32 ∷ 48 ∷ 10 ∷ [])
    -- shortened: 4 -2 -4 0, then d 4 3 -2 -4 0; redundant if it was, since over two are left
    ∷ does (simplify_of Text held4 (w4 0 2 7 1) true 3 24)
    is writes (w4 2 3 1 24) held4 (w3 0 7 1) []
    (52 ∷ 32 ∷ 45 ∷ 50 ∷ 32 ∷ 45 ∷ 52 ∷ 32 ∷ 48 ∷ 10 ∷ 100 ∷ 32 ∷ 52 ∷ 32 ∷ 51 ∷ 32 ∷ 45 ∷ 50 ∷ 32 ∷ 45 ∷ 52 ∷ 32 ∷ 48 ∷ 10 ∷ [])
    ∷ does (simplify_of Binary held4 (w4 0 2 7 1) false 3 11)
    is writes (w4 2 3 0 11) held4 (w3 0 7 1) [] (97 ∷ 8 ∷ 5 ∷ 9 ∷ 0 ∷ 100 ∷ 8 ∷ 6 ∷ 5 ∷ 9 ∷ 0 ∷ [])
    -- binary, never redundant: 4 -2 0, then d 4 3 -2 0; a negative false literal goes too
    ∷ does (simplify_of Text held4 (w3 0 2 7) true 2 18)
    is writes (w4 3 2 0 18) held4 (w2 0 7) [] (52 ∷ 32 ∷ 45 ∷ 50 ∷ 32 ∷ 48 ∷ 10 ∷ 100 ∷ 32 ∷ 52 ∷ 32 ∷ 51 ∷ 32 ∷ 45 ∷ 50 ∷ 32 ∷ 48 ∷ 10 ∷ [])
    ∷ does (simplify_of Binary held4 (w3 5 0 7) false 2 9)
    is writes (w4 3 2 0 9) held4 (w2 0 7) [] (97 ∷ 8 ∷ 5 ∷ 0 ∷ 100 ∷ 3 ∷ 8 ∷ 5 ∷ 0 ∷ [])
    ∷ []

-- The thirteen kinds, by their place in the table.
abbrev pub kind_anchors : List Anchor
kind_anchors =
    words (kind_of AddClause ∷ kind_of (AtClause true) ∷ kind_of UnitClauses ∷ kind_of (DeleteClause Satisfied) ∷ []) is words (w4 0 1 2 3)
    ∷ words (kind_of Model ∷ kind_of Assumptions ∷ kind_of FailedAssumptions ∷ []) is words (w3 4 5 6)
    ∷ words (kind_of (SolverVarName (the 2) (the_solver 3)) ∷ kind_of (UserVarName (the 2) (the_user 3)) ∷ kind_of (DeleteVar (the 2)) ∷ []) is words (w3 7 8 9)
    ∷ words (kind_of (ChangeSamplingMode (the 2) true) ∷ kind_of (ChangeHashBits 3) ∷ kind_of End ∷ []) is words (w3 10 11 12)
    ∷ []

-- The delete's cause is redundant, 0, for a redundant clause; else satisfied, 1, where it is dropped, simplified, 2, where it is shortened.
abbrev pub causes : List Anchor
causes =
    words (cause_of Redundant ∷ cause_of Satisfied ∷ cause_of Simplified ∷ []) is words (w3 0 1 2)
    ∷ words (cause_of (delete_cause true Satisfied) ∷ cause_of (delete_cause true Simplified) ∷ []) is words (w2 0 0)
    ∷ words (cause_of (delete_cause false Satisfied) ∷ cause_of (delete_cause false Simplified) ∷ []) is words (w2 1 2)
    ∷ []

-- ---- Rename: 1, 14, 3, 8, 2. The answer is the literals and the hashes filled, then the step: its kind and what it carries of its own.

abbrev pub renames : List Anchor
renames =
    -- 1 before 14; 14 before 3; 3 before 8, for the number of literals or for a global index at the capacity; 8 before 2; 2
    does (rename_of unsound UnitClauses true (w1 0) [] 0 0) is turns 1 unsound
    ∷ does (rename_of held4 UnitClauses false (w1 8) [] 0 0) is turns 14 held4
    ∷ does (rename_of held4 UnitClauses true (w1 0) (w2 70 71) 9 9) is turns 14 held4
    ∷ does (rename_of held4 AddClause true (replicate 8193 8) [] 0 0) is turns 3 held4
    ∷ does (rename_of held4 AddClause true (replicate 8192 8) [] 0 0) is turns 8 held4
    ∷ does (rename_of held4 AddClause false (replicate 8193 0) [] 0 0) is turns 3 held4
    ∷ does (rename_of held4 AddClause false (replicate 8192 0) [] 0 0) is turns 2 held4
    ∷ does (rename_of held4 Model false (w2 0 8) [] 0 0) is turns 3 held4
    ∷ does (rename_of held4 Model true (w2 0 8) [] 0 0) is turns 8 held4
    ∷ does (rename_of holed Assumptions true (w1 1) [] 0 0) is turns 8 holed
    ∷ does (rename_of held4 AddClause true (w2 1 6) [] 1 9) is turns 2 held4
    ∷ does (rename_of held4 (AtClause true) true (w2 1 6) (w2 70 71) 2 1) is turns 2 held4
    ∷ does (rename_of held4 UnitClauses true (w2 1 6) (w2 70 71) 2 1) is turns 2 held4
    ∷ does (rename_of held4 FailedAssumptions true (w2 1 6) (w2 70 71) 2 1) is turns 2 held4
    -- seven kinds carry literals, three of them hashes; hashes beside another kind are no part of it
    ∷ does (rename_of held4 AddClause true (w2 1 6) (w1 70) 2 0) is writes (w3 2 0 0) held4 (w2 7 2) [] []
    ∷ does (rename_of held4 (AtClause true) true (w2 1 6) (w1 70) 2 1) is writes (w4 2 1 1 1) held4 (w2 7 2) (w1 70) []
    ∷ does (rename_of held4 (AtClause false) true (w2 1 6) (w1 70) 2 1) is writes (w4 2 1 1 0) held4 (w2 7 2) (w1 70) []
    ∷ does (rename_of held4 UnitClauses true (w2 1 6) (w2 70 71) 2 2) is writes (w3 2 2 2) held4 (w2 7 2) (w2 70 71) []
    ∷ does (rename_of held4 (DeleteClause Redundant) true (w2 1 6) (w1 70) 2 0) is writes (w4 2 0 3 0) held4 (w2 7 2) [] []
    ∷ does (rename_of held4 (DeleteClause Satisfied) true (w2 1 6) [] 2 0) is writes (w4 2 0 3 1) held4 (w2 7 2) [] []
    ∷ does (rename_of held4 (DeleteClause Simplified) true (w2 1 6) [] 2 0) is writes (w4 2 0 3 2) held4 (w2 7 2) [] []
    ∷ does (rename_of held4 Model true (w2 1 6) (w1 70) 2 0) is writes (w3 2 0 4) held4 (w2 7 2) [] []
    ∷ does (rename_of held4 Assumptions true (w2 1 6) (w1 70) 2 0) is writes (w3 2 0 5) held4 (w2 7 2) [] []
    ∷ does (rename_of held4 FailedAssumptions true (w2 1 6) (w3 70 71 72) 2 3) is writes (w3 2 3 6) held4 (w2 7 2) (w3 70 71 72) []
    -- six pass as given; what stands beside them is no part of them
    ∷ does (rename_of held4 (SolverVarName (the 2) (the_solver 3)) true (w2 1 99) (w1 70) 0 0) is writes (0 ∷ 0 ∷ 7 ∷ 2 ∷ 4 ∷ []) held4 [] [] []
    ∷ does (rename_of held4 (SolverVarName (the 2) None) true (w2 1 99) (w1 70) 0 0) is writes (0 ∷ 0 ∷ 7 ∷ 2 ∷ 0 ∷ []) held4 [] [] []
    ∷ does (rename_of held4 (UserVarName (the 2) (the_user 3)) true (w2 1 99) (w1 70) 0 0) is writes (0 ∷ 0 ∷ 8 ∷ 2 ∷ 4 ∷ []) held4 [] [] []
    ∷ does (rename_of held4 (UserVarName (the 2) None) true (w2 1 99) (w1 70) 0 0) is writes (0 ∷ 0 ∷ 8 ∷ 2 ∷ 0 ∷ []) held4 [] [] []
    ∷ does (rename_of held4 (DeleteVar (the 2)) true (w2 1 99) (w1 70) 0 0) is writes (w4 0 0 9 2) held4 [] [] []
    ∷ does (rename_of held4 (ChangeSamplingMode (the 2) true) true (w1 99) (w1 70) 0 0) is writes (0 ∷ 0 ∷ 10 ∷ 2 ∷ 1 ∷ []) held4 [] [] []
    ∷ does (rename_of held4 (ChangeSamplingMode (the 2) false) false (w1 99) [] 0 0) is writes (0 ∷ 0 ∷ 10 ∷ 2 ∷ 0 ∷ []) held4 [] [] []
    ∷ does (rename_of held4 (ChangeHashBits 64) true (w1 99) (w1 70) 0 0) is writes (w4 0 0 11 64) held4 [] [] []
    ∷ does (rename_of held4 End true (w1 99) (w1 70) 0 0) is writes (w3 0 0 12) held4 [] [] []
    -- every index under its holder, sign kept; global literals as given, up to the last
    ∷ does (rename_of held4 AddClause true (0 ∷ 1 ∷ 2 ∷ 3 ∷ 4 ∷ 5 ∷ 6 ∷ 7 ∷ []) [] 8 0)
    is writes (w3 8 0 0) held4 (6 ∷ 7 ∷ 4 ∷ 5 ∷ 0 ∷ 1 ∷ 2 ∷ 3 ∷ []) [] []
    ∷ does (rename_of held4 AddClause false (w3 1 6 7) [] 3 0) is writes (w3 3 0 0) held4 (w3 1 6 7) [] []
    ∷ []

-- ---- Write: 1, 14, 3, 8, 11, 2. The answer is the bytes filled.

abbrev pub write_anchors : List Anchor
write_anchors =
    -- 1 before 14; 14 before 3; 3 before 8, and before 11; 8 before 11; 11; 2
    does (write_of Text unsound UnitClauses true (w1 0) [] 0) is turns 1 unsound
    ∷ does (write_of Text held4 UnitClauses false (w1 8) [] 0) is turns 14 held4
    ∷ does (write_of Text held4 UnitClauses true [] (w1 70) 9) is turns 14 held4
    ∷ does (write_of Text held4 AddClause true (replicate 8193 8) [] 0) is turns 3 held4
    ∷ does (write_of Text held4 AddClause true (replicate 8192 8) [] 0) is turns 8 held4
    ∷ does (write_of Text held4 AddClause false (replicate 8193 0) [] 0) is turns 3 held4
    ∷ does (write_of Text held4 AddClause false (replicate 8192 0) [] 0) is turns 11 held4
    ∷ does (write_of Text held4 Assumptions false (w2 0 8) [] 0) is turns 3 held4
    ∷ does (write_of Binary held4 FailedAssumptions true (w2 0 8) [] 0) is turns 8 held4
    ∷ does (write_of Binary holed (AtClause false) true (w1 0) [] 9) is turns 8 holed
    ∷ does (write_of Binary held4 Model true (w2 0 8) [] 0) is turns 8 held4
    ∷ does (write_of Text held4 AddClause true (w2 1 6) [] 99) is turns 11 held4
    ∷ does (write_of Binary held4 AddClause false (w2 1 6) [] 99) is turns 11 held4
    ∷ does (write_of Text held4 Assumptions true (w2 1 6) [] 99) is turns 11 held4
    ∷ does (write_of Binary held4 FailedAssumptions true (w2 1 6) (w1 70) 99) is turns 11 held4
    ∷ does (write_of Text held4 (AtClause false) true (w2 1 6) [] 6) is turns 2 held4
    ∷ does (write_of Binary held4 (DeleteClause Redundant) true (w2 1 6) [] 3) is turns 2 held4
    -- AtClause: an add, -4 2 0, with any hashes
    ∷ does (write_of Text held4 (AtClause false) true (w2 1 6) [] 7) is writes (w1 7) held4 [] [] (45 ∷ 52 ∷ 32 ∷ 50 ∷ 32 ∷ 48 ∷ 10 ∷ [])
    ∷ does (write_of Binary held4 (AtClause true) true (w2 1 6) (w1 70) 4) is writes (w1 4) held4 [] [] (w4 97 9 4 0)
    ∷ does (write_of Text held4 (AtClause true) true [] [] 2) is writes (w1 2) held4 [] [] (w2 48 10)
    -- UnitClauses: one add per unit, -4 0 and 2 0
    ∷ does (write_of Text held4 UnitClauses true (w2 1 6) (w2 70 71) 9)
    is writes (w1 9) held4 [] [] (45 ∷ 52 ∷ 32 ∷ 48 ∷ 10 ∷ 50 ∷ 32 ∷ 48 ∷ 10 ∷ [])
    ∷ does (write_of Binary held4 UnitClauses true (w2 1 6) (w2 70 71) 6) is writes (w1 6) held4 [] [] (w6 97 9 0 97 4 0)
    ∷ does (write_of Text held4 UnitClauses true [] [] 0) is writes (w1 0) held4 [] [] []
    -- DeleteClause: a delete, d -4 2 0, whatever the cause
    ∷ does (write_of Text held4 (DeleteClause Redundant) true (w2 1 6) [] 9)
    is writes (w1 9) held4 [] [] (100 ∷ 32 ∷ 45 ∷ 52 ∷ 32 ∷ 50 ∷ 32 ∷ 48 ∷ 10 ∷ [])
    ∷ does (write_of Binary held4 (DeleteClause Satisfied) true (w2 1 6) [] 4) is writes (w1 4) held4 [] [] (w4 100 9 4 0)
    ∷ does (write_of Binary held4 (DeleteClause Simplified) true (w2 1 6) [] 4) is writes (w1 4) held4 [] [] (w4 100 9 4 0)
    -- global literals as given: -1 4 0
    ∷ does (write_of Text held4 (AtClause false) false (w2 1 6) [] 7) is writes (w1 7) held4 [] [] (45 ∷ 49 ∷ 32 ∷ 52 ∷ 32 ∷ 48 ∷ 10 ∷ [])
    ∷ does (write_of Binary held4 (DeleteClause Redundant) false (w2 1 6) [] 4) is writes (w1 4) held4 [] [] (w4 100 3 8 0)
    -- the rest write nothing
    ∷ does (write_of Text held4 Model true (w2 1 6) [] 0) is writes (w1 0) held4 [] [] []
    ∷ does (write_of Text held4 (SolverVarName (the 2) (the_solver 3)) true (w1 99) [] 0) is writes (w1 0) held4 [] [] []
    ∷ does (write_of Binary held4 (UserVarName (the 2) (the_user 3)) true (w1 99) [] 0) is writes (w1 0) held4 [] [] []
    ∷ does (write_of Text held4 (DeleteVar (the 2)) true (w1 99) [] 0) is writes (w1 0) held4 [] [] []
    ∷ does (write_of Binary held4 (ChangeSamplingMode (the 2) true) true (w1 99) [] 0) is writes (w1 0) held4 [] [] []
    ∷ does (write_of Text held4 (ChangeHashBits 64) true (w1 99) [] 0) is writes (w1 0) held4 [] [] []
    ∷ does (write_of Binary held4 End true (w1 99) [] 0) is writes (w1 0) held4 [] [] []
    ∷ []

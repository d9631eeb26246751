-- Sessions computed from the definitions, with their answers and what the ledger of demand 3 then holds: its entries, which globals these
-- show, its lines, how the lines enter, and the joined bytes. A wrong definition shows here in numbers.
use Rattle.std.specs.Prelude.{Some}
use mathlib.Core.Path.{◌≡◌, refl}
use mathlib.Core.Bool.{false, true}
use mathlib.Core.List.{List, [], ◌∷◌, ◌++◌, map}
use Prim.Native.Nat.{ℕ}
use Rattle.base.specs.Answer.{Answer, accepted, refused}
use Rattle.base.specs.Bounded.{all_below, least, count, every_of, any_of, keep_of}
use Rattle.drat.specs.Numeral.{spell, further, bytes_of}
use Rattle.drat.specs.Grammar.{step_of, number, numbers, encode_step, encode}
use Rattle.drat.specs.declared.Format.TheVariants.{Text}
use Rattle.drat.specs.declared.Kind.TheVariants.{Add, Delete}
use Rattle.scope.specs.declared.Counts.{Counts}
use Rattle.scope.specs.declared.Mark.TheVariants.{Assumed, Released}
use Rattle.scope.specs.declared.SamplingMode.TheVariants.{Hide}
use Rattle.scope.specs.declared.ProofStep.TheVariants.{AddClause, AtClause, UnitClauses, DeleteClause, Model, SolverVarName}
use Rattle.scope.specs.declared.DeleteClauseProof.TheVariants.{Redundant}
use Rattle.scope.specs.Table.{Table, table_of, word, is_shown, give_user, take_user, give_solver, take_solver, put_record, put_value, drop_global, least_free, next_solver}
use Rattle.scope.specs.Table.{undeleted}
use Rattle.scope.specs.Sound.{soundb, sizesb, marksb, at_mostb, tailb, backb, namedb, deletedb, tailsb, pairsb, listsb, storedb}
use Rattle.scope.specs.Outcome.{choose, each, unless}
use Rattle.scope.specs.Open.{empty_table}
use Rattle.scope.specs.Notes.{notes_words, Note, user+, user-, solver+, solver-, deletes, changes, Held, latest, older}
use Rattle.scope.specs.Entries.{Entry, noted, hides}
use Rattle.scope.specs.Contract.{Said, Memory}
use Rattle.scope.specs.Map as M
use Rattle.scope.specs.Grant as G
use Rattle.scope.specs.Pose as P
use Rattle.scope.specs.Modes as D
use Rattle.scope.specs.Remove as R
use Rattle.scope.specs.Marks as K
use Rattle.scope.specs.Lookup.{found, lookup_of, global_from_solver_of, record_word_of}
use Rattle.scope.specs.Marks.{not_held, assign_refusal, assign_of, unheld, held_else, lits_held_else}
use Rattle.scope.specs.Write.{rename_lits, unmatched, outside, step_refusal, step_bytes, write_refusal, write_of}
use Rattle.scope.specs.Simplify.{unfalse, simplified, simplify_bytes, simplify_refusal, simplify_of}
use Rattle.scope.specs.Binary.{cutsb, sections_of, each_section, times, has_mirror, mirrored, kept_at, deletes_at, sections_for, filled_codes, kept_words, kept_count}
use Rattle.scope.specs.Binary.{delete_bytes, binary_refusal, binary_of}
use Rattle.scope.specs.Calls.{map_user, pose, grant, set_mode, observe, mark, assign, remove, sweep, simplify, simplify_binary, write, lending, perform}
use Rattle.session.specs.Ledger.{notes_of, shown_by, Line, line, plus, minus, given, nil, cons, Enters}
use Rattle.session.specs.Entered.{entries_of, sections_in, gone_lines, binary_lines, lines_of}
use Rattle.session.specs.Session.{Turn, turn, turn_does, State, start, enter, after_turn, run}
use Rattle.session.specs.Assumed.{AssumedBy}
use Rattle.session.specs.Made.{notes_in, none_lent, Made, made, Program, ends, calls, seen, ledger}

-- the answers, call by call
abbrev answers : State → List Turn → List Answer
answers σ [] = []
answers σ (x ∷ xs) = (turn_does Text x σ.table).answer ∷ answers (after_turn Text σ x) xs

-- ---- an index that goes from one global to another

-- User 2 is mapped and global 2 granted solver index 0; a clause is written, global 2 hidden and observed, all swept, global 1 granted, which
-- takes index 0, and the same clause written again. A map beyond the capacity and a write of index 1, which nobody holds, are refused.
abbrev handed_on : List Turn
handed_on =
    turn (map_user 2 false) (lending 9 0 0 0)
    ∷ turn (map_user 9 false) (lending 9 0 0 0)
    ∷ turn (grant 2) (lending 3 0 0 0)
    ∷ turn (write (AtClause false) true (1 ∷ []) []) (lending 0 0 0 5)
    ∷ turn (write (AtClause false) true (2 ∷ []) []) (lending 0 0 0 9)
    ∷ turn (set_mode 2 Hide) (lending 6 0 0 0)
    ∷ turn observe (lending 6 1 0 0)
    ∷ turn sweep (lending 6 0 0 0)
    ∷ turn (grant 1) (lending 3 0 0 0)
    ∷ turn (write (AtClause false) true (1 ∷ []) []) (lending 0 0 0 5)
    ∷ []

-- the lines of the clause, each with the notes so far
abbrev handed_lines : List Line
handed_lines =
    line Add true (1 ∷ []) (user+ 0 0 ∷ user+ 1 1 ∷ user+ 2 2 ∷ solver+ 2 0 ∷ [])
    ∷ line Add true (1 ∷ [])
    (user+ 0 0 ∷ user+ 1 1 ∷ user+ 2 2 ∷ solver+ 2 0 ∷ user- 2 ∷ changes 2 false ∷ user+ 2 2 ∷ solver- 2 ∷ solver+ 1 0 ∷ [])
    ∷ []

abbrev handed_answers : List Answer
handed_answers =
    accepted (2 ∷ 3 ∷ [])
    ∷ refused 3 []
    ∷ accepted (0 ∷ 1 ∷ [])
    ∷ accepted (5 ∷ [])
    ∷ refused 8 []
    ∷ accepted (1 ∷ [])
    ∷ accepted (1 ∷ 2 ∷ [])
    ∷ accepted (1 ∷ [])
    ∷ accepted (0 ∷ 1 ∷ [])
    ∷ accepted (5 ∷ [])
    ∷ []

-- `-3 0` and then `-2 0`
pub handed_on_lem :
    (answers (start (empty_table 8)) handed_on ≡ handed_answers)
    × ((run Text (start (empty_table 8)) handed_on).log
    ≡ noted (user+ 0 0)
    ∷ noted (user+ 1 1)
    ∷ noted (user+ 2 2)
    ∷ noted (solver+ 2 0)
    ∷ hides 2
    ∷ noted (user- 2)
    ∷ noted (changes 2 false)
    ∷ noted (user+ 2 2)
    ∷ noted (solver- 2)
    ∷ noted (solver+ 1 0)
    ∷ [])
    × ((run Text (start (empty_table 8)) handed_on).lines ≡ handed_lines)
    × ((run Text (start (empty_table 8)) handed_on).bytes ≡ 45 ∷ 51 ∷ 32 ∷ 48 ∷ 10 ∷ 45 ∷ 50 ∷ 32 ∷ 48 ∷ 10 ∷ [])
unfolding all_below least count any_of spell further bytes_of number numbers encode_step encode word is_shown give_user take_user give_solver take_solver put_record
    drop_global soundb listsb storedb sizesb marksb at_mostb tailb backb namedb deletedb tailsb pairsb choose each unless empty_table least_free M.global_for
    M.map_one M.fill_gap M.map_user M.next_user undeleted M.to_map M.unsampled M.map_refusal M.map_of next_solver G.grant_one G.grant G.grant_refusal G.grant_of
    D.is_unused D.delete_if_unused D.show D.hide D.change D.set_mode D.set_mode_refusal D.set_mode_of D.is_hidden D.observe_one D.observe D.observe_refusal D.observe_of
    R.remove_held R.learn R.sweep_held R.sweep_one R.sweep R.sweep_refusal R.sweep_of not_held held_else rename_lits unmatched outside unheld lits_held_else step_refusal
    step_bytes write_refusal write_of notes_of perform turn_does entries_of lines_of enter after_turn run
handed_on_lem = (refl, refl, refl, refl)

-- the clause enters under global 2, then under global 1
pub handed_enters : Enters handed_lines (step_of Add (5 ∷ []) ∷ step_of Add (3 ∷ []) ∷ [])
unfolding any_of
handed_enters =
    cons (record { kind = refl; lits = cons (minus {s = 0} {g = 2} (older (older (older (latest refl refl))))) nil })
    (cons (record { kind = refl; lits = cons (minus {s = 0} {g = 1} (older (older (older (older (older (older (older (older (latest refl refl)))))))))) nil })
    nil)

-- ---- globals hidden and shown

-- Users 0 to 2 are mapped and global 1 granted; globals 1 and 2 are hidden: 2, which is unused, is deleted (D), 1 is not. Then all are observed.
abbrev hiding : List Turn
hiding =
    turn (map_user 2 false) (lending 9 0 0 0)
    ∷ turn (grant 1) (lending 3 0 0 0)
    ∷ turn (set_mode 1 Hide) (lending 6 0 0 0)
    ∷ turn (set_mode 2 Hide) (lending 6 0 0 0)
    ∷ []

abbrev hidden_log : List Entry
hidden_log =
    noted (user+ 0 0)
    ∷ noted (user+ 1 1)
    ∷ noted (user+ 2 2)
    ∷ noted (solver+ 1 0)
    ∷ hides 1
    ∷ noted (user- 1)
    ∷ hides 2
    ∷ noted (user- 2)
    ∷ noted (deletes 2)
    ∷ []

pub hidden_log_lem :
    ((run Text (start (empty_table 8)) hiding).log ≡ hidden_log)
    × ((run Text (run Text (start (empty_table 8)) hiding) (turn observe (lending 6 1 0 0) ∷ [])).log
    ≡ hidden_log ++ noted (changes 1 false) ∷ noted (user+ 1 1) ∷ [])
unfolding all_below least count any_of word is_shown give_user take_user give_solver put_record drop_global soundb listsb storedb sizesb marksb at_mostb tailb backb
    namedb deletedb tailsb pairsb choose each unless empty_table least_free M.global_for M.map_one M.fill_gap M.map_user M.next_user undeleted M.to_map M.unsampled
    M.map_refusal M.map_of next_solver G.grant_one G.grant G.grant_refusal G.grant_of D.is_unused D.delete_if_unused D.show D.hide D.change D.set_mode D.set_mode_refusal
    D.set_mode_of D.is_hidden D.observe_one D.observe D.observe_refusal D.observe_of not_held held_else notes_of perform turn_does entries_of lines_of enter after_turn run
hidden_log_lem = (refl, refl)

-- of the globals 0 to 3, only 0 is shown, and then 0 and 1
pub hidden_shown :
    (map (shown_by hidden_log) (0 ∷ 1 ∷ 2 ∷ 3 ∷ []) ≡ true ∷ false ∷ false ∷ false ∷ [])
    × (map (shown_by (hidden_log ++ noted (changes 1 false) ∷ noted (user+ 1 1) ∷ [])) (0 ∷ 1 ∷ 2 ∷ 3 ∷ []) ≡ true ∷ true ∷ false ∷ false ∷ [])
unfolding any_of shown_by
hidden_shown = (refl, refl)

-- ---- every clause step

-- Users 3, 0, 1, 2 are posed: their globals hold the solver indices 0, 1, 2, 3. Index 0 becomes false. Simplify shortens a clause, makes one
-- binary, drops one, keeps one; another with index 4, which nobody holds, is refused, though its first literal is true. A naming step
-- that gives index 1 to global 3 is written, which is no note. Then two units, a delete, a global literal; units without their hashes (14) and
-- an AddClause (11) are refused; a Model writes nothing.
abbrev clauses : List Turn
clauses =
    turn (pose (6 ∷ 0 ∷ 2 ∷ 4 ∷ []) false) (lending 24 4 0 0)
    ∷ turn (assign 1) (lending 0 0 0 0)
    ∷ turn (simplify (0 ∷ 2 ∷ 4 ∷ 7 ∷ []) true) (lending 0 4 0 40)
    ∷ turn (simplify (0 ∷ 2 ∷ 5 ∷ []) true) (lending 0 4 0 40)
    ∷ turn (simplify (1 ∷ 2 ∷ []) false) (lending 0 4 0 40)
    ∷ turn (simplify (2 ∷ 4 ∷ []) false) (lending 0 4 0 40)
    ∷ turn (simplify (1 ∷ 8 ∷ []) false) (lending 0 4 0 40)
    ∷ turn (write (SolverVarName (record { 0 = 3 }) (Some (record { 0 = 1 }))) true [] []) (lending 0 0 0 40)
    ∷ turn (write UnitClauses true (2 ∷ 5 ∷ []) (9 ∷ 9 ∷ [])) (lending 0 0 0 40)
    ∷ turn (write (DeleteClause Redundant) true (4 ∷ []) []) (lending 0 0 0 40)
    ∷ turn (write (AtClause true) false (15 ∷ []) []) (lending 0 0 0 40)
    ∷ turn (write UnitClauses true (2 ∷ []) []) (lending 0 0 0 40)
    ∷ turn (write AddClause true (2 ∷ []) []) (lending 0 0 0 40)
    ∷ turn (write Model true (2 ∷ []) []) (lending 0 0 0 40)
    ∷ []

abbrev posed : List Note
posed = user+ 0 0 ∷ user+ 1 1 ∷ user+ 2 2 ∷ user+ 3 3 ∷ solver+ 3 0 ∷ solver+ 0 1 ∷ solver+ 1 2 ∷ solver+ 2 3 ∷ []

abbrev clause_lines : List Line
clause_lines =
    line Add true (2 ∷ 4 ∷ 7 ∷ []) posed
    ∷ line Delete true (0 ∷ 2 ∷ 4 ∷ 7 ∷ []) posed
    ∷ line Add true (2 ∷ 5 ∷ []) posed
    ∷ line Delete true (0 ∷ 2 ∷ 5 ∷ []) posed
    ∷ line Delete true (1 ∷ 2 ∷ []) posed
    ∷ line Add true (2 ∷ []) posed
    ∷ line Add true (5 ∷ []) posed
    ∷ line Delete true (4 ∷ []) posed
    ∷ line Add false (15 ∷ []) posed
    ∷ []

-- Simplify says what came of the clause, how many literals, the add's redundant flag, how many bytes.
abbrev clause_answers : List Answer
clause_answers =
    accepted (4 ∷ 8 ∷ [])
    ∷ accepted []
    ∷ accepted (2 ∷ 3 ∷ 1 ∷ 22 ∷ [])
    ∷ accepted (3 ∷ 2 ∷ 0 ∷ 18 ∷ [])
    ∷ accepted (1 ∷ 0 ∷ 0 ∷ 9 ∷ [])
    ∷ accepted (0 ∷ 2 ∷ 0 ∷ 0 ∷ [])
    ∷ refused 8 []
    ∷ accepted (0 ∷ [])
    ∷ accepted (9 ∷ [])
    ∷ accepted (6 ∷ [])
    ∷ accepted (5 ∷ [])
    ∷ refused 14 []
    ∷ refused 11 []
    ∷ accepted (0 ∷ [])
    ∷ []

-- `1 2 -3 0`, `d 4 1 2 -3 0`, `1 -2 0`, `d 4 1 -2 0`, `d -4 1 0`, `1 0`, `-2 0`, `d 2 0`, `-8 0`
pub all_clauses :
    (answers (start (empty_table 8)) clauses ≡ clause_answers)
    × ((run Text (start (empty_table 8)) clauses).log ≡ map noted posed)
    × ((run Text (start (empty_table 8)) clauses).lines ≡ clause_lines)
    × ((run Text (start (empty_table 8)) clauses).bytes
    ≡ 49 ∷ 32 ∷ 50 ∷ 32 ∷ 45 ∷ 51 ∷ 32 ∷ 48 ∷ 10
    ∷ 100 ∷ 32 ∷ 52 ∷ 32 ∷ 49 ∷ 32 ∷ 50 ∷ 32 ∷ 45 ∷ 51 ∷ 32 ∷ 48 ∷ 10
    ∷ 49 ∷ 32 ∷ 45 ∷ 50 ∷ 32 ∷ 48 ∷ 10
    ∷ 100 ∷ 32 ∷ 52 ∷ 32 ∷ 49 ∷ 32 ∷ 45 ∷ 50 ∷ 32 ∷ 48 ∷ 10
    ∷ 100 ∷ 32 ∷ 45 ∷ 52 ∷ 32 ∷ 49 ∷ 32 ∷ 48 ∷ 10
    ∷ 49 ∷ 32 ∷ 48 ∷ 10
    ∷ 45 ∷ 50 ∷ 32 ∷ 48 ∷ 10
    ∷ 100 ∷ 32 ∷ 50 ∷ 32 ∷ 48 ∷ 10
    ∷ 45 ∷ 56 ∷ 32 ∷ 48 ∷ 10
    ∷ [])
unfolding all_below least count any_of keep_of spell further bytes_of number numbers encode_step encode word is_shown give_user give_solver put_record drop_global
    put_value soundb listsb storedb sizesb marksb at_mostb tailb backb namedb deletedb tailsb pairsb choose each unless empty_table least_free M.global_for
    M.map_one M.fill_gap M.map_user undeleted M.unsampled next_solver G.grant_one G.grant P.pose_one P.pose P.wanted P.users_to_map P.pose_refusal P.pose_of not_held
    held_else assign_refusal assign_of rename_lits unmatched outside unheld lits_held_else step_refusal step_bytes write_refusal write_of unfalse simplified
    simplify_bytes simplify_refusal simplify_of notes_of perform turn_does entries_of lines_of enter after_turn run
all_clauses = (refl, refl, refl, refl)

held0 : Held 0 3 posed
unfolding any_of
held0 = older (older (older (older (latest refl refl))))

held1 : Held 1 0 posed
unfolding any_of
held1 = older (older (older (older (older (latest refl refl)))))

held2 : Held 2 1 posed
unfolding any_of
held2 = older (older (older (older (older (older (latest refl refl))))))

held3 : Held 3 2 posed
unfolding any_of
held3 = older (older (older (older (older (older (older (latest refl refl)))))))

pub all_enter :
    Enters clause_lines
    (step_of Add (0 ∷ 2 ∷ 5 ∷ [])
    ∷ step_of Delete (6 ∷ 0 ∷ 2 ∷ 5 ∷ [])
    ∷ step_of Add (0 ∷ 3 ∷ [])
    ∷ step_of Delete (6 ∷ 0 ∷ 3 ∷ [])
    ∷ step_of Delete (7 ∷ 0 ∷ [])
    ∷ step_of Add (0 ∷ [])
    ∷ step_of Add (3 ∷ [])
    ∷ step_of Delete (2 ∷ [])
    ∷ step_of Add (15 ∷ [])
    ∷ [])
all_enter =
    cons (record { kind = refl; lits = cons (plus held1) (cons (plus held2) (cons (minus held3) nil)) })
    (cons (record { kind = refl; lits = cons (plus held0) (cons (plus held1) (cons (plus held2) (cons (minus held3) nil))) })
    (cons (record { kind = refl; lits = cons (plus held1) (cons (minus held2) nil) })
    (cons (record { kind = refl; lits = cons (plus held0) (cons (plus held1) (cons (minus held2) nil)) })
    (cons (record { kind = refl; lits = cons (minus held0) (cons (plus held1) nil) })
    (cons (record { kind = refl; lits = cons (plus held1) nil })
    (cons (record { kind = refl; lits = cons (minus held2) nil })
    (cons (record { kind = refl; lits = cons (plus held2) nil }) (cons (record { kind = refl; lits = cons given nil }) nil))))))))

-- ---- binary clauses

-- The same four indices, 0 false. The clauses of 1 and 6, of 0 and 2, and of 2 and 4: the first two go, each with one delete. The lists answered are
-- given again, and nothing goes. Then 15, since 6 under 0 has no mirror. Then code 6 is true, and of the section of code 3 one entry goes, with a
-- delete, and one stays; entries that are their own mirrors go from the section of 0, with no delete, and stay in that of 2.
abbrev pairs : List Turn
pairs =
    turn (pose (6 ∷ 0 ∷ 2 ∷ 4 ∷ []) false) (lending 24 4 0 0)
    ∷ turn (assign 1) (lending 0 0 0 0)
    ∷ turn (simplify_binary (1 ∷ 6 ∷ 1 ∷ 2 ∷ 0 ∷ 2 ∷ 0 ∷ 4 ∷ 0 ∷ 1 ∷ 2 ∷ 0 ∷ 1 ∷ 1 ∷ [])) (lending 0 10 0 17)
    ∷ turn (simplify_binary (0 ∷ 0 ∷ 0 ∷ 1 ∷ 4 ∷ 0 ∷ 1 ∷ 2 ∷ 0 ∷ 0 ∷ [])) (lending 0 10 0 0)
    ∷ turn (simplify_binary (1 ∷ 6 ∷ 0 ∷ 0 ∷ 0 ∷ 0 ∷ 0 ∷ 0 ∷ 0 ∷ [])) (lending 0 99 0 99)
    ∷ turn (assign 6) (lending 0 0 0 0)
    ∷ turn (simplify_binary (2 ∷ 1 ∷ 1 ∷ 0 ∷ 2 ∷ 3 ∷ 3 ∷ 2 ∷ 6 ∷ 4 ∷ 0 ∷ 1 ∷ 2 ∷ 0 ∷ 1 ∷ 2 ∷ [])) (lending 0 12 0 8)
    ∷ []

abbrev pair_lines : List Line
pair_lines = line Delete true (1 ∷ 6 ∷ []) posed ∷ line Delete true (0 ∷ 2 ∷ []) posed ∷ line Delete true (2 ∷ 6 ∷ []) posed ∷ []

-- `d -4 3 0`, `d 4 1 0`, `d 1 3 0`; words, half the number of entries, bytes
pub all_pairs :
    (answers (start (empty_table 8)) pairs
    ≡ accepted (4 ∷ 8 ∷ []) ∷ accepted [] ∷ accepted (10 ∷ 1 ∷ 17 ∷ []) ∷ accepted (10 ∷ 1 ∷ 0 ∷ []) ∷ refused 15 [] ∷ accepted []
    ∷ accepted (12 ∷ 2 ∷ 8 ∷ []) ∷ [])
    × ((run Text (start (empty_table 8)) pairs).lines ≡ pair_lines)
    × ((run Text (start (empty_table 8)) pairs).bytes
    ≡ 100 ∷ 32 ∷ 45 ∷ 52 ∷ 32 ∷ 51 ∷ 32 ∷ 48 ∷ 10
    ∷ 100 ∷ 32 ∷ 52 ∷ 32 ∷ 49 ∷ 32 ∷ 48 ∷ 10
    ∷ 100 ∷ 32 ∷ 49 ∷ 32 ∷ 51 ∷ 32 ∷ 48 ∷ 10
    ∷ [])
unfolding all_below least count every_of any_of keep_of spell further bytes_of number numbers encode_step encode word is_shown give_user give_solver put_value soundb
    listsb storedb sizesb marksb at_mostb tailb backb namedb deletedb tailsb pairsb choose each unless empty_table least_free M.global_for M.map_one M.fill_gap
    M.map_user undeleted M.unsampled next_solver G.grant_one G.grant P.pose_one P.pose P.wanted P.users_to_map P.pose_refusal P.pose_of not_held held_else assign_refusal
    assign_of rename_lits unheld lits_held_else cutsb sections_of each_section times has_mirror mirrored kept_at deletes_at sections_for filled_codes kept_words kept_count
    delete_bytes binary_refusal binary_of notes_of perform turn_does entries_of sections_in gone_lines binary_lines lines_of enter after_turn run
all_pairs = (refl, refl, refl)

pub pairs_enter : Enters pair_lines (step_of Delete (7 ∷ 4 ∷ []) ∷ step_of Delete (6 ∷ 0 ∷ []) ∷ step_of Delete (0 ∷ 4 ∷ []) ∷ [])
pairs_enter =
    cons (record { kind = refl; lits = cons (minus held0) (cons (plus held3) nil) })
    (cons (record { kind = refl; lits = cons (plus held0) (cons (plus held1) nil) })
    (cons (record { kind = refl; lits = cons (plus held1) (cons (plus held3) nil) }) nil))

-- ---- an index that an assumption names

-- Capacity 1: global 0 is granted solver index 0, which is assumed.
abbrev assuming : List Turn
assuming =
    turn (map_user 0 false) (lending 3 0 0 0) ∷ turn (grant 0) (lending 3 0 0 0) ∷ turn (mark Assumed 0) (lending 0 0 0 0) ∷ []

-- It is not removed and not swept, and a clause with it is written. Released, it is removed, and the clause is refused.
abbrev held_on : List Turn
held_on =
    assuming
    ++ turn (remove 0) (lending 3 0 0 0)
    ∷ turn sweep (lending 6 0 0 0)
    ∷ turn (write (AtClause false) true (1 ∷ []) []) (lending 0 0 0 5)
    ∷ turn (mark Released 0) (lending 0 0 0 0)
    ∷ turn (remove 0) (lending 3 0 0 0)
    ∷ turn (write (AtClause false) true (1 ∷ []) []) (lending 0 0 0 5)
    ∷ []

abbrev held_answers : List Answer
held_answers =
    accepted (0 ∷ 1 ∷ []) ∷ accepted (0 ∷ 1 ∷ []) ∷ accepted []
    ∷ refused 16 []
    ∷ accepted (0 ∷ [])
    ∷ accepted (5 ∷ [])
    ∷ accepted []
    ∷ accepted (1 ∷ [])
    ∷ refused 8 []
    ∷ []

-- `-1 0`; and before it Lookup says that global 0 holds the index, and that its record is 27, which is assumed
pub held_on_lem :
    (answers (start (empty_table 1)) held_on ≡ held_answers)
    × ((run Text (start (empty_table 1)) held_on).lines ≡ line Add true (1 ∷ []) (user+ 0 0 ∷ solver+ 0 0 ∷ []) ∷ [])
    × ((run Text (start (empty_table 1)) held_on).bytes ≡ 45 ∷ 49 ∷ 32 ∷ 48 ∷ 10 ∷ [])
    × AssumedBy (run Text (start (empty_table 1)) assuming).table 0 0
unfolding all_below least count any_of spell further bytes_of number numbers encode_step encode word is_shown give_user give_solver take_solver put_record drop_global
    soundb listsb storedb sizesb marksb at_mostb tailb backb namedb deletedb tailsb pairsb choose each unless empty_table least_free M.global_for M.map_one
    M.fill_gap M.map_user undeleted M.to_map M.unsampled M.map_refusal M.map_of next_solver G.grant_one G.grant G.grant_refusal G.grant_of D.is_unused D.delete_if_unused
    K.mark K.mark_refusal K.mark_of R.remove_held R.remove R.remove_refusal R.remove_of R.learn R.sweep_held R.sweep_one R.sweep R.sweep_refusal R.sweep_of not_held
    held_else rename_lits unmatched outside unheld lits_held_else step_refusal step_bytes write_refusal write_of found lookup_of global_from_solver_of record_word_of
    notes_of perform turn_does entries_of lines_of enter after_turn run
held_on_lem = (refl, refl, refl, record { held = refl; word = 27; recorded = refl; assumed = refl })

-- ---- a program, as it stands in memory

abbrev pub counts_at : ℕ → ℕ → Counts
counts_at names solvers = record { capacity = 1; user = names; global = names; solver = solvers; used = names; next = solvers }

abbrev pub saying : List ℕ → Counts → Said
saying values c = record { answer = accepted values; counts = c }

-- the table given and the lists left; the words for notes before and after
abbrev pub keeping : Table → (Counts → Table) → List ℕ → List ℕ → Memory
keeping t leaves was is = record { table = t; leaves = leaves; notes = was; noted = is }

abbrev pub named : Counts → Table
named c = table_of c (1 ∷ []) (1 ∷ []) (0 ∷ []) (0 ∷ []) (0 ∷ []) (9 ∷ [])

abbrev pub granted : Counts → Table
granted c = table_of c (1 ∷ []) (1 ∷ []) (1 ∷ []) (1 ∷ []) (0 ∷ []) (9 ∷ [])

-- Capacity 1: Map 0, Grant 0, and Write of solver code 1. The words for notes held S(2,0) past the third, and hold it still. The bytes are
-- `-1 0`, with one more as it was.
abbrev pub mapping : Made
mapping =
    made (map_user 0 false) (saying (0 ∷ 1 ∷ []) (counts_at 1 0))
    (keeping (empty_table 1) named (7 ∷ 7 ∷ 7 ∷ 1 ∷ 2 ∷ 1 ∷ []) (0 ∷ 0 ∷ 1 ∷ 1 ∷ 2 ∷ 1 ∷ [])) none_lent none_lent none_lent

abbrev pub granting : Made
granting =
    made (grant 0) (saying (0 ∷ 1 ∷ []) (counts_at 1 1))
    (keeping (named (counts_at 1 0)) granted (0 ∷ 0 ∷ 1 ∷ 1 ∷ 2 ∷ 1 ∷ []) (1 ∷ 0 ∷ 1 ∷ 1 ∷ 2 ∷ 1 ∷ [])) none_lent none_lent none_lent

abbrev pub writing : Made
writing =
    made (write (AtClause false) true (1 ∷ []) []) (saying (5 ∷ []) (counts_at 1 1)) (keeping (granted (counts_at 1 1)) granted [] []) none_lent none_lent
    (record { lent = 7 ∷ 7 ∷ 7 ∷ 7 ∷ 7 ∷ 7 ∷ []; left = 45 ∷ 49 ∷ 32 ∷ 48 ∷ 10 ∷ 7 ∷ [] })

abbrev pub program : List Made
program = mapping ∷ granting ∷ writing ∷ []

pub program_met : Program Text (empty_table 1) program
unfolding all_below least count any_of spell further bytes_of number numbers encode_step encode word is_shown give_user give_solver soundb listsb storedb sizesb
    marksb at_mostb tailb backb namedb deletedb tailsb pairsb choose each unless empty_table notes_words least_free M.global_for M.map_one M.fill_gap M.map_user
    undeleted M.to_map M.unsampled M.map_refusal M.map_of next_solver G.grant_one G.grant G.grant_refusal G.grant_of not_held held_else rename_lits unmatched outside
    unheld lits_held_else step_refusal step_bytes write_refusal write_of perform turn_does
program_met =
    calls {m = mapping} (record { meets = record { answer = refl; table = refl; noted = refl }; words = refl; more = refl; bytes = refl })
    (calls {m = granting} (record { meets = record { answer = refl; table = refl; noted = refl }; words = refl; more = refl; bytes = refl })
    (calls {m = writing} (record { meets = record { answer = refl; table = refl; noted = refl }; words = refl; more = refl; bytes = refl }) ends))

pub program_ledger :
    ((ledger (start (empty_table 1)) program).log ≡ noted (user+ 0 0) ∷ noted (solver+ 0 0) ∷ [])
    × ((ledger (start (empty_table 1)) program).lines ≡ line Add true (1 ∷ []) (user+ 0 0 ∷ solver+ 0 0 ∷ []) ∷ [])
    × ((ledger (start (empty_table 1)) program).bytes ≡ 45 ∷ 49 ∷ 32 ∷ 48 ∷ 10 ∷ [])
unfolding notes_of notes_in word entries_of lines_of enter seen ledger
program_ledger = (refl, refl, refl)

-- The worked cases of document 01 ("Worked at the counter"), as a table. K has eight places, and user 2 is mapped in it.
use Rattle.std.specs.Prelude.{ℕ, ◌+◌, ◌-◌, ◌*◌, ◌≡◌, false, true, List, [], ◌∷◌, ◌++◌, replicate}
use Rattle.base.specs.Choice.{pick}
use Rattle.base.specs.Answer.{Answer, accepted, refused}
use Rattle.drat.specs.Numeral.{decimal, leb128, bytes_of}
use Rattle.drat.specs.Grammar.{number}
use Rattle.drat.specs.Filled.{read_of}
use Rattle.drat.specs.declared.Format.{Format}
use Rattle.drat.specs.declared.Format.TheVariants.{Text, Binary}
use Rattle.scope.specs.declared.SamplingMode.TheVariants.{Sample, Hide}
use Rattle.scope.specs.declared.Mark.TheVariants.{Assumed}
use Rattle.scope.specs.declared.ProofStep.TheVariants.{AtClause, DeleteClause}
use Rattle.scope.specs.declared.DeleteClauseProof.TheVariants.{Redundant}
use Rattle.scope.specs.Literals.{Dimacs}
use Rattle.scope.specs.Table.{Table, table_of}
use Rattle.scope.specs.Notes.{Note, user+, user-, solver-, deletes, changes}
use Rattle.scope.specs.Open.{open_counts, empty_table, open_of}
use Rattle.scope.specs.Map.{map_of, new_user_of}
use Rattle.scope.specs.Grant.{grant_of}
use Rattle.scope.specs.Modes.{set_mode_of, observe_of}
use Rattle.scope.specs.Marks.{mark_of}
use Rattle.scope.specs.Remove.{sweep_of}
use Rattle.scope.specs.Write.{write_of}

-- what is looked at: notes, an answer, bytes
pub data CaseSeen : Type 0 where
  notes : List Note → CaseSeen
  answer : Answer → CaseSeen
  bytes : List ℕ → CaseSeen

-- a case's number, what the definitions give, and what document 01 says
pub record Case : Type 0 where
  pub number : ℕ
  pub gives : CaseSeen
  pub says : CaseSeen

abbrev case : ℕ → CaseSeen → CaseSeen → Case
case n x y = record { number = n; gives = x; says = y }

-- In every case they are the same.
abbrev pub CasesAgree : List Case → Type 0
CasesAgree [] = Unit {0}
CasesAgree (c ∷ cs) = (c.gives ≡ c.says) × CasesAgree cs

-- A DIMACS number, the literal code that it is the number of, and its bytes: its decimal digits, after a minus if it is negative, with a
-- blank after them; twice its magnitude, plus 1 if it is negative, in LEB128. `number_bytes` ties them to the writer's.
abbrev pub plus : ℕ → Dimacs
plus n = record { negative = false; magnitude = n }

abbrev pub minus : ℕ → Dimacs
minus n = record { negative = true; magnitude = n }

abbrev pub literal_of : Dimacs → ℕ
literal_of d = 2 * (d.magnitude - 1) + pick d.negative 1 0

abbrev pub dimacs_bytes : Format → Dimacs → List ℕ
dimacs_bytes Text d = pick d.negative (45 ∷ []) [] ++ (bytes_of decimal d.magnitude ++ 32 ∷ [])
dimacs_bytes Binary d = bytes_of leb128 (2 * d.magnitude + pick d.negative 1 0)

-- the tables of the cases
abbrev pub K : Table
K = (map_of (empty_table 8) 2 false 9).table

abbrev pub hidden1 : Table
hidden1 = (set_mode_of K 1 Hide 6).table

abbrev pub granted2 : Table
granted2 = (grant_of K 2 3).table

abbrev pub hidden2 : Table
hidden2 = (set_mode_of granted2 2 Hide 6).table

abbrev pub mapped2 : Table
mapped2 = (map_of hidden2 2 false 3).table

abbrev pub assumed2 : Table
assumed2 = (mark_of granted2 Assumed 0).table

abbrev pub full : Table
full = (map_of (empty_table 2) 1 false 6).table

-- six lists of length n for a capacity
abbrev pub lists : ℕ → ℕ → Table
lists n capacity =
    table_of (open_counts capacity) (replicate n 0) (replicate n 0) (replicate n 0) (replicate n 0) (replicate n 0) (replicate n 0)

abbrev pub cases : List Case
cases =
    case 1 (notes (map_of (empty_table 8) 2 false 9).notes) (notes (user+ 0 0 ∷ user+ 1 1 ∷ user+ 2 2 ∷ []))
    ∷ case 2 (notes (set_mode_of K 1 Hide 6).notes) (notes (user- 1 ∷ deletes 1 ∷ []))
    ∷ case 2 (answer (new_user_of hidden1 3).answer) (answer (accepted (1 ∷ 1 ∷ 1 ∷ [])))
    ∷ case 3 (answer (grant_of K 2 3).answer) (answer (accepted (0 ∷ 1 ∷ [])))
    ∷ case 3 (notes (set_mode_of granted2 2 Hide 6).notes) (notes (user- 2 ∷ []))
    ∷ case 3 (answer (map_of hidden2 2 false 3).answer) (answer (accepted (3 ∷ 1 ∷ [])))
    ∷ case 4 (notes (observe_of mapped2 1 6).notes) (notes (changes 2 false ∷ user+ 2 3 ∷ []))
    ∷ case 5 (notes (sweep_of granted2 6).notes) (notes (solver- 2 ∷ []))
    ∷ case 6 (bytes (write_of Text granted2 (AtClause false) true (1 ∷ []) [] 5).bytes) (bytes (45 ∷ 51 ∷ 32 ∷ 48 ∷ 10 ∷ []))
    ∷ case 6 (bytes (write_of Binary granted2 (AtClause false) true (1 ∷ []) [] 3).bytes) (bytes (0x61 ∷ 0x07 ∷ 0x00 ∷ []))
    ∷ case 7 (bytes (write_of Text K (DeleteClause Redundant) true [] [] 4).bytes) (bytes (100 ∷ 32 ∷ 48 ∷ 10 ∷ []))
    ∷ case 7 (bytes (write_of Binary K (DeleteClause Redundant) true [] [] 2).bytes) (bytes (0x64 ∷ 0x00 ∷ []))
    ∷ case 8 (bytes (number Binary (literal_of (plus 63)))) (bytes (0x7e ∷ []))
    ∷ case 8 (bytes (number Binary (literal_of (plus 64)))) (bytes (0x80 ∷ 0x01 ∷ []))
    ∷ case 8 (bytes (number Binary (literal_of (plus 4096)))) (bytes (0x80 ∷ 0x40 ∷ []))
    ∷ case 8 (bytes (number Binary (literal_of (minus 4096)))) (bytes (0x81 ∷ 0x40 ∷ []))
    ∷ case 8 (bytes (number Text (literal_of (plus 63)))) (bytes (54 ∷ 51 ∷ 32 ∷ []))
    ∷ case 8 (bytes (number Text (literal_of (plus 64)))) (bytes (54 ∷ 52 ∷ 32 ∷ []))
    ∷ case 8 (bytes (number Text (literal_of (plus 4096)))) (bytes (52 ∷ 48 ∷ 57 ∷ 54 ∷ 32 ∷ []))
    ∷ case 8 (bytes (number Text (literal_of (minus 4096)))) (bytes (45 ∷ 52 ∷ 48 ∷ 57 ∷ 54 ∷ 32 ∷ []))
    ∷ case 9 (answer (open_of (lists 0 0)).answer) (answer (refused 10 []))
    ∷ case 9 (answer (open_of (lists 4097 4097)).answer) (answer (refused 10 []))
    ∷ case 9 (answer (open_of (lists 1 1)).answer) (answer (accepted []))
    ∷ case 9 (answer (open_of (lists 4096 4096)).answer) (answer (accepted []))
    ∷ case 10 (answer (map_of full 2 false 3).answer) (answer (refused 3 []))
    ∷ case 10 (answer (new_user_of full 3).answer) (answer (refused 5 []))
    ∷ case 11 (answer (read_of Text (49 ∷ 32 ∷ 48 ∷ 10 ∷ 50 ∷ 32 ∷ 48 ∷ []) 9 9 9).answer) (answer (accepted (2 ∷ 2 ∷ [])))
    ∷ case 11 (answer (read_of Text (48 ∷ 49 ∷ 32 ∷ 48 ∷ 10 ∷ []) 9 9 9).answer) (answer (refused 13 (0 ∷ [])))
    ∷ case 12 (answer (set_mode_of granted2 2 Sample 0).answer) (answer (accepted (0 ∷ [])))
    ∷ case 12 (answer (set_mode_of assumed2 2 Sample 0).answer) (answer (refused 7 []))
    ∷ []

-- A session (document 01): any list of calls after one accepted Open, and what demand 3 says of it.
use Rattle.std.specs.Prelude.{ℕ, ◌≡◌, true, ◌↔◌, List, [], ◌∷◌, ◌++◌}
use Rattle.base.specs.Answer.{Answer, accepted, refused}
use Rattle.drat.specs.Grammar.{Step, Spells}
use Rattle.drat.specs.declared.Format.{Format}
use Rattle.scope.specs.Table.{Table}
use Rattle.scope.specs.Sound.{soundb, Shown}
use Rattle.scope.specs.Notes.{Held}
use Rattle.scope.specs.Outcome.{Outcome}
use Rattle.scope.specs.Lookup.{global_from_user_of, user_from_global_of, solver_from_global_of, global_from_solver_of, record_word_of}
use Rattle.scope.specs.Entries.{Entry}
use Rattle.scope.specs.Calls.{Call, Rooms, perform}
use Rattle.session.specs.Ledger.{notes_of, shown_by, Line, Enters}
use Rattle.session.specs.Entered.{entries_of, lines_of}

-- One turn of a session: a call, and the rooms lent to it.
pub record Turn : Type 0 where
  pub call : Call
  pub rooms : Rooms

abbrev pub turn : Call → Rooms → Turn
turn call rooms = record { call = call; rooms = rooms }

-- what it does, in the session's format
unfoldable pub turn_does : Format → Turn → Table → Outcome
turn_does f x t = perform f x.call x.rooms t

-- The table as the last call left it, the ledger with its entries and its lines, and the proof bytes joined up to then.
pub record State : Type 0 where
  pub table : Table
  pub log : List Entry
  pub lines : List Line
  pub bytes : List ℕ

-- before the first call
abbrev pub start : Table → State
start t = record { table = t; log = []; lines = []; bytes = [] }

-- One call more, with its outcome and its answer. Refused, it changes neither ledger nor bytes. Accepted, it adds its entries, its lines, with
-- all notes up to and with its own, and its bytes.
unfoldable pub enter : State → Call → Outcome → Answer → State
enter σ call o (refused n vs) = record { table = o.table; log = σ.log; lines = σ.lines; bytes = σ.bytes }
enter σ call o (accepted vs) =
    let log = σ.log ++ entries_of call o.notes in
    record {
      table = o.table;
      log = log;
      lines = σ.lines ++ lines_of call vs o.words (notes_of log);
      bytes = σ.bytes ++ o.bytes;
    }

unfoldable pub after_turn : Format → State → Turn → State
after_turn f σ x = let o = turn_does f x σ.table in enter σ x.call o o.answer

unfoldable pub run : Format → State → List Turn → State
run f σ [] = σ
run f σ (x ∷ xs) = run f (after_turn f σ x) xs

-- a Lookup of the table is accepted and says this
abbrev pub Says : (Table → ℕ → Outcome) → Table → ℕ → ℕ → Type 0
Says look t i j = (look t i).answer ≡ accepted (j ∷ [])

-- the global has a user name; its record is undeleted and not Hide
abbrev pub HasUser : Table → ℕ → Type 0
HasUser t g = (u : ℕ) × Says user_from_global_of t g u

abbrev pub IsShown : Table → ℕ → Type 0
IsShown t g = (r : ℕ) × Says record_word_of t g r × Shown r

-- What holds after a session.
pub record Holds (f : Format) (σ : State) : Type 0 where
  -- no Lookup is refused
  pub sound : soundb σ.table ≡ true
  -- both pairs of maps agree: what one says of an index, the other says back
  pub users : (u g : ℕ) → Says global_from_user_of σ.table u g ↔ Says user_from_global_of σ.table g u
  pub solvers : (s g : ℕ) → Says global_from_solver_of σ.table s g ↔ Says solver_from_global_of σ.table g s
  -- the globals with a user name are those that their record shows, and those are the ones that the entries show
  pub named : (g : ℕ) → HasUser σ.table g ↔ IsShown σ.table g
  pub shown : (g : ℕ) → (shown_by σ.log g ≡ true) ↔ IsShown σ.table g
  -- the notes suffice to tell the holder of every solver index
  pub holder : (s g : ℕ) → Held s g (notes_of σ.log) ↔ Says global_from_solver_of σ.table s g
  -- the ledger's lines enter as these steps, the bytes spell them, and the bytes spell no others
  pub steps : List Step
  pub entered : Enters σ.lines steps
  pub reading : Spells f σ.bytes steps
  pub only : (x : List Step) → Spells f σ.bytes x → x ≡ steps

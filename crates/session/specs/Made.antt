-- A program's session: the calls as they were made, with the memory lent to them. The ledger is fed each call's arguments, its answer, and
-- what stands in that memory as far as the answer says it was filled.
use Rattle.std.specs.Prelude.{ℕ, zero, suc, ◌≡◌, List, [], ◌∷◌, ◌++◌, eqb, length, take}
use Rattle.std.proofs.lemmas.List.Edits.{sets}
use Rattle.base.specs.Lent.{Lent, old, new}
use Rattle.base.specs.Answer.{values_of}
use Rattle.drat.specs.declared.Format.{Format}
use Rattle.scope.specs.Table.{Table, word}
use Rattle.scope.specs.Notes.{Note, user+, user-, solver+, solver-, deletes, changes}
use Rattle.scope.specs.Outcome.{Outcome}
use Rattle.scope.specs.Contract.{Said, Memory, Meets}
use Rattle.scope.specs.Calls.{Call, lookup, map_user, new_user, pose, grant, set_mode, observe}
use Rattle.scope.specs.Calls.{mark, assign, remove, sweep, simplify, simplify_binary, rename, write, model, lending}
use Rattle.session.specs.Session.{Turn, turn, turn_does, State, enter}

-- ---- the notes in memory

-- by its three words; there is none of a kind above 3
abbrev pub note_in : ℕ → ℕ → ℕ → List Note
note_in zero g x = word (user- g) (λ u. user+ g u) x ∷ []
note_in (suc zero) g x = word (solver- g) (λ s. solver+ g s) x ∷ []
note_in (suc (suc zero)) g x = deletes g ∷ []
note_in (suc (suc (suc zero))) g x = changes g (eqb x 1) ∷ []
note_in (suc (suc (suc (suc k)))) g x = []

-- the first n notes
unfoldable pub notes_in : ℕ → List ℕ → List Note
notes_in zero ws = []
notes_in (suc n) [] = []
notes_in (suc n) (k ∷ []) = []
notes_in (suc n) (k ∷ g ∷ []) = []
notes_in (suc n) (k ∷ g ∷ x ∷ ws) = note_in k g x ++ notes_in n ws

-- ---- how much was filled

-- so many notes, words and bytes
pub record FilledCounts : Type 0 where
  pub notes : ℕ
  pub words : ℕ
  pub bytes : ℕ

abbrev filled_counts : ℕ → ℕ → ℕ → FilledCounts
filled_counts n w b = record { notes = n; words = w; bytes = b }

abbrev pub nth : ℕ → List ℕ → ℕ
nth i [] = 0
nth zero (v ∷ vs) = v
nth (suc i) (v ∷ vs) = nth i vs

abbrev pub last_or : ℕ → List ℕ → ℕ
last_or d [] = d
last_or d (v ∷ vs) = last_or v vs

-- What the values answered say was filled: the count of notes stands last, the number of words first; Simplify answers its number of
-- literals second and of bytes fourth, Simplify binary its number of bytes third, Write its number of bytes.
abbrev pub filled_by : Call → List ℕ → FilledCounts
filled_by (lookup asked i) vs = filled_counts 0 0 0
filled_by (map_user u sampling) vs = filled_counts (last_or 0 vs) 0 0
filled_by new_user vs = filled_counts (last_or 0 vs) 0 0
filled_by (pose lits sampling) vs = filled_counts (last_or 0 vs) (nth 0 vs) 0
filled_by (grant g) vs = filled_counts (last_or 0 vs) 0 0
filled_by (set_mode g mode) vs = filled_counts (last_or 0 vs) 0 0
filled_by observe vs = filled_counts (last_or 0 vs) (nth 0 vs) 0
filled_by (mark m s) vs = filled_counts 0 0 0
filled_by (assign c) vs = filled_counts 0 0 0
filled_by (remove s) vs = filled_counts (last_or 0 vs) 0 0
filled_by sweep vs = filled_counts (last_or 0 vs) 0 0
filled_by (simplify lits redundant) vs = filled_counts 0 (nth 1 vs) (nth 3 vs)
filled_by (simplify_binary lists) vs = filled_counts 0 (nth 0 vs) (nth 2 vs)
filled_by (rename step solver_vars lits hashes) vs = filled_counts 0 (nth 0 vs) 0
filled_by (write step solver_vars lits hashes) vs = filled_counts 0 0 (nth 0 vs)
filled_by model vs = filled_counts 0 (nth 0 vs) 0

-- ---- a call made

-- A slice that a call may fill, when the call begins and when it ends; none, where none is lent.
pub record Fillable : Type 0 where
  pub lent : List ℕ
  pub left : List ℕ

abbrev pub fillable : Lent → Fillable
fillable x = record { lent = old x; left = new x }

abbrev pub none_lent : Fillable
none_lent = record { lent = []; left = [] }

-- From its start it has these words, and past them what it had.
abbrev pub Has : Fillable → List ℕ → Type 0
Has p ws = p.left ≡ sets p.lent 0 ws

-- The call with its arguments, what it said, the table and the notes in memory, and the other slices that it may fill.
pub record Made : Type 0 where
  pub call : Call
  pub said : Said
  pub memory : Memory
  pub words : Fillable
  pub more : Fillable
  pub bytes : Fillable

abbrev pub made : Call → Said → Memory → Fillable → Fillable → Fillable → Made
made call said memory words more bytes =
    record { call = call; said = said; memory = memory; words = words; more = more; bytes = bytes }

-- the turn of a session that it is: the rooms are what was lent
abbrev pub turn_of : Made → Turn
turn_of m = turn m.call (lending (length m.memory.notes) (length m.words.lent) (length m.more.lent) (length m.bytes.lent))

-- the table that it leaves
abbrev pub leaves : Made → Table
leaves m = m.memory.leaves m.said.counts

-- It met its contract: it does what the definition gives of the table and of the rooms lent.
pub record Met (f : Format) (m : Made) : Type 0 where
  pub meets : Meets (λ t room. turn_does f (turn_of m) t) m.said m.memory
  pub words : Has m.words (turn_does f (turn_of m) m.memory.table).words
  pub more : Has m.more (turn_does f (turn_of m) m.memory.table).more
  pub bytes : Has m.bytes (turn_does f (turn_of m) m.memory.table).bytes

-- Calls that met their contracts, the first on the table t, each other on the table that the one before left.
pub data Program (f : Format) : Table → List Made → Type 0 where
  ends : {t : Table} → Program f t []
  calls : {m : Made} {ms : List Made} → Met f m → Program f (leaves m) ms → Program f m.memory.table (m ∷ ms)

-- What the ledger is fed of a call: its answer, and of the memory as much as the answer says was filled, no word more.
unfoldable pub seen : Made → Outcome
seen m =
    let n = filled_by m.call (values_of m.said.answer) in
    record {
      answer = m.said.answer;
      table = leaves m;
      notes = notes_in n.notes m.memory.noted;
      words = take n.words m.words.left;
      more = [];
      bytes = take n.bytes m.bytes.left;
    }

-- what the ledger holds after it
unfoldable pub ledger : State → List Made → State
ledger σ [] = σ
ledger σ (m ∷ ms) = ledger (enter σ m.call (seen m) m.said.answer) ms

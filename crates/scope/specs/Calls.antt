-- The calls of a session (demand 3's list, and those that orders of document 02 add to it) with their arguments, the room lent to a call for what it
-- fills, and what each call does.
use Rattle.std.specs.Prelude.{ℕ, Bool, List}
use Rattle.drat.specs.declared.Format.{Format}
use Rattle.scope.specs.declared.SamplingMode.{SamplingMode}
use Rattle.scope.specs.declared.Mark.{Mark}
use Rattle.scope.specs.declared.ProofStep.{ProofStep}
use Rattle.scope.specs.Table.{Table}
use Rattle.scope.specs.Outcome.{Outcome}
use Rattle.scope.specs.Lookup.{global_from_user_of, user_from_global_of, solver_from_global_of, global_from_solver_of, record_word_of, assignment_word_of}
use Rattle.scope.specs.Map.{map_of, new_user_of}
use Rattle.scope.specs.Grant.{grant_of}
use Rattle.scope.specs.Pose.{pose_of}
use Rattle.scope.specs.Modes.{set_mode_of, observe_of}
use Rattle.scope.specs.Marks.{mark_of, assign_of}
use Rattle.scope.specs.Remove.{remove_of, sweep_of}
use Rattle.scope.specs.Simplify.{simplify_of}
use Rattle.scope.specs.Binary.{binary_of}
use Rattle.scope.specs.Write.{rename_of, write_of}
use Rattle.scope.specs.Models.{model_of}

-- what a Lookup is asked for
pub data Asked : Type 0 where
  global_from_user user_from_global solver_from_global global_from_solver record_word assignment_word : Asked

pub data Call : Type 0 where
  lookup : (asked : Asked) (index : ℕ) → Call
  map_user : (user : ℕ) (sampling : Bool) → Call
  new_user : Call
  pose : (lits : List ℕ) (sampling : Bool) → Call
  grant : (global : ℕ) → Call
  set_mode : (global : ℕ) (mode : SamplingMode) → Call
  observe : Call
  mark : (m : Mark) (solver : ℕ) → Call
  assign : (lit : ℕ) → Call
  remove : (solver : ℕ) → Call
  sweep : Call
  simplify : (lits : List ℕ) (redundant : Bool) → Call
  simplify_binary : (lists : List ℕ) → Call
  rename : (step : ProofStep) (solver_vars : Bool) (lits hashes : List ℕ) → Call
  write : (step : ProofStep) (solver_vars : Bool) (lits hashes : List ℕ) → Call
  model : Call

-- The lengths of the slices lent for notes, words, further words and bytes; where a call fills none of a sort, its length is not looked at.
pub record Rooms : Type 0 where
  pub notes : ℕ
  pub words : ℕ
  pub more : ℕ
  pub bytes : ℕ

abbrev pub lending : ℕ → ℕ → ℕ → ℕ → Rooms
lending notes words more bytes = record { notes = notes; words = words; more = more; bytes = bytes }

abbrev pub look_up : Asked → Table → ℕ → Outcome
look_up global_from_user t i = global_from_user_of t i
look_up user_from_global t i = user_from_global_of t i
look_up solver_from_global t i = solver_from_global_of t i
look_up global_from_solver t i = global_from_solver_of t i
look_up record_word t i = record_word_of t i
look_up assignment_word t i = assignment_word_of t i

-- What a call does to a table, with these rooms, where proofs are written in this format.
unfoldable pub perform : Format → Call → Rooms → Table → Outcome
perform f (lookup asked i) rooms t = look_up asked t i
perform f (map_user u sampling) rooms t = map_of t u sampling rooms.notes
perform f new_user rooms t = new_user_of t rooms.notes
perform f (pose lits sampling) rooms t = pose_of t lits sampling rooms.words rooms.notes
perform f (grant g) rooms t = grant_of t g rooms.notes
perform f (set_mode g mode) rooms t = set_mode_of t g mode rooms.notes
perform f observe rooms t = observe_of t rooms.words rooms.notes
perform f (mark m s) rooms t = mark_of t m s
perform f (assign c) rooms t = assign_of t c
perform f (remove s) rooms t = remove_of t s rooms.notes
perform f sweep rooms t = sweep_of t rooms.notes
perform f (simplify lits redundant) rooms t = simplify_of f t lits redundant rooms.words rooms.bytes
perform f (simplify_binary lists) rooms t = binary_of f t lists rooms.words rooms.bytes
perform f (rename step solver_vars lits hashes) rooms t = rename_of t step solver_vars lits hashes rooms.words rooms.more
perform f (write step solver_vars lits hashes) rooms t = write_of f t step solver_vars lits hashes rooms.bytes
perform f model rooms t = model_of t rooms.words rooms.more

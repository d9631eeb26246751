-- The note that the code's enum stands for.
use Rattle.std.specs.Prelude.{ℕ, get_or}
use Rattle.scope.specs.Notes as N
use Rattle.scope.specs.declared.Note.{Note}
use Rattle.scope.specs.declared.Note.TheVariants.{UserGranted, UserWithdrawn, SolverGranted, SolverWithdrawn, Deleted, ModeChanged}

abbrev pub note_of : Note → N.Note
note_of (UserGranted g u) = N.user+ g.0 u.0
note_of (UserWithdrawn g) = N.user- g.0
note_of (SolverGranted g s) = N.solver+ g.0 s.0
note_of (SolverWithdrawn g) = N.solver- g.0
note_of (Deleted g) = N.deletes g.0
note_of (ModeChanged g sample) = N.changes g.0 sample

-- its last word
abbrev pub last_of : Note → ℕ
last_of n = get_or (N.note_words (note_of n)) 2 0

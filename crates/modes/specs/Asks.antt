-- What the operations inside Set mode and Observe ask of the table.
use Rattle.std.specs.Prelude.{ℕ, ◌+◌, ◌*◌, ◌≤◌, ◌<◌, ◌≡◌, List, ◌≢◌, length}
use Rattle.std.proofs.lemmas.List.Edits.{sets}
use Rattle.scope.specs.declared.Counts.{Counts}
use Rattle.scope.specs.Table.{Table, table_of, mode_of, record_of}
use Rattle.scope.specs.Sound.{Sound}
use Rattle.scope.specs.Outcome.{Result}
use Rattle.scope.specs.Modes.{hide, set_mode, observe_one, observe}
use Rattle.scope.specs.Cursor.{AllMapped}
use Rattle.changes.specs.Leaves.{Room}
use Rattle.changes.specs.Solvers.{Solvers, table_with}

-- A sound table with an undeleted global.
pub record There (t : Table) (g : ℕ) : Type 0 where
  pub sound : Sound t
  pub undeleted : record_of t g < 36

-- The global is hidden, and the new mode is another.
pub record Shows (t : Table) (g m from : ℕ) : Type 0 where
  pub there : There t g
  pub hidden : mode_of (record_of t g) ≡ 2
  pub mode : m < 2
  pub mapped : AllMapped t.global_from_user t.counts.user from

-- The same of the lists that are lent, with some lists of solver indices, and there is room for two notes from `at` on.
pub record ShowAsks (c : Counts) (gu ug records : List ℕ) (g m from at room : ℕ) : Type 0 where
  pub solvers : Solvers
  pub shows : Shows (table_with c gu ug records solvers) g m from
  pub words : at + 6 ≤ room

-- The global is not hidden.
pub record Hides (t : Table) (g : ℕ) : Type 0 where
  pub there : There t g
  pub shown : mode_of (record_of t g) ≢ 2

-- The same of the lists that are lent, with some others, and there is room for the notes from `at` on.
pub record HideAsks (c : Counts) (gu ug sg records : List ℕ) (g at room : ℕ) : Type 0 where
  pub gs : List ℕ
  pub a : List ℕ
  pub hides : Hides (table_of c gu ug sg gs a records) g
  pub words : Room (hide g (table_of c gu ug sg gs a records)) at room

-- The mode is one of the three, users below the cursor `from` are mapped, and there is room for the notes.
pub record Sets (t : Table) (g m from room : ℕ) : Type 0 where
  pub there : There t g
  pub mode : m < 3
  pub mapped : AllMapped t.global_from_user t.counts.user from
  pub words : 3 * length (set_mode g m t).notes ≤ room

-- The same of the lists that are lent, with some others.
pub record SetAsks (c : Counts) (gu ug sg records : List ℕ) (g m from room : ℕ) : Type 0 where
  pub gs : List ℕ
  pub a : List ℕ
  pub sets : Sets (table_of c gu ug sg gs a records) g m from room

-- ---- Observe

-- The values of x stand from the place n on, words elsewhere are as they were, and the next place is past them.
pub record UsersFilled (x : Result (List ℕ)) (n next : ℕ) (words words' : List ℕ) : Type 0 where
  pub values : words' ≡ sets words n x.value
  pub moved : next ≡ n + length x.value

-- A sound table with the cursor `from`; there is room for the user of g from the place n on.
pub record Observes (t : Table) (g from n outs : ℕ) : Type 0 where
  pub sound : Sound t
  pub below : g < t.counts.global
  pub mapped : AllMapped t.global_from_user t.counts.user from
  pub words : n + length (observe_one g t).value ≤ outs

-- The same of the lists that are lent, with some lists of solver indices, and there is room for the notes from `at` on.
pub record ObserveAsks (c : Counts) (gu ug records : List ℕ) (g from n outs at room : ℕ) : Type 0 where
  pub solvers : Solvers
  pub observes : Observes (table_with c gu ug records solvers) g from n outs
  pub words : Room (observe_one g (table_with c gu ug records solvers)) at room

-- A sound table with the cursor `from`; there is room for the users and for the notes.
pub record ObservesAll (t : Table) (from outs room : ℕ) : Type 0 where
  pub sound : Sound t
  pub mapped : AllMapped t.global_from_user t.counts.user from
  pub users : length (observe t).value ≤ outs
  pub words : 3 * length (observe t).notes ≤ room

-- The same of the lists that are lent, with some lists of solver indices.
pub record ObserveAllAsks (c : Counts) (gu ug records : List ℕ) (from outs room : ℕ) : Type 0 where
  pub solvers : Solvers
  pub observes : ObservesAll (table_with c gu ug records solvers) from outs room

-- What the operations inside Remove and Sweep ask of the table.
use Rattle.std.specs.Prelude.{ℕ, ◌+◌, ◌*◌, ◌≤◌, ◌<◌, ◌≡◌, true, List, length, get_or}
use Rattle.scope.specs.declared.Counts.{Counts}
use Rattle.scope.specs.Table.{table_of, fresh_record, least_free}
use Rattle.scope.specs.Sound.{soundb}
use Rattle.scope.specs.Remove.{sweep}
use Rattle.changes.specs.Leaves.{Room}
use Rattle.changes.specs.Live.{Live}
use Rattle.removal.specs.Counting.{removal_notes, notes_by}

-- The global g is undeleted, both it and the solver index s have their words, s is below the watermark, and the least free index is stored.
pub record Removable (c : Counts) (ug sg gs records : List ℕ) (g s : ℕ) : Type 0 where
  pub live : Live c ug sg records g
  pub solver : s < length gs
  pub below : s < c.solver
  pub next : c.next ≡ least_free gs c.solver

-- Removable, and there is room for the notes of the removal from `at` on.
pub record RemoveAsks (c : Counts) (ug sg gs records : List ℕ) (g s at room : ℕ) : Type 0 where
  pub held : Removable c ug sg gs records g s
  pub words : at + 3 * removal_notes (get_or ug g 0) (get_or records g fresh_record) ≤ room

-- Removable, and the value of s has its word, of at most 2.
pub record Holding (c : Counts) (ug sg gs assignment records : List ℕ) (g s : ℕ) : Type 0 where
  pub held : Removable c ug sg gs records g s
  pub value : s < length assignment
  pub small : get_or assignment s 0 ≤ 2

-- That is so of the global that holds the solver index s, if one does.
abbrev pub Sweepable : Counts → List ℕ → List ℕ → List ℕ → List ℕ → List ℕ → ℕ → Type 0
Sweepable c ug sg gs assignment records s = (g : ℕ) → get_or gs s 0 ≡ g + 1 → Holding c ug sg gs assignment records g s

-- The same, and there is room for the notes of the sweep of s from `at` on.
pub record SweepAsks (c : Counts) (ug sg gs assignment records : List ℕ) (s at room : ℕ) : Type 0 where
  pub sweepable : Sweepable c ug sg gs assignment records s
  pub words : at + 3 * notes_by ug gs assignment records s ≤ room

-- The lists that are lent are of a sound table, with some list gu, and there is room for the notes of its sweep.
pub record SweepAllAsks (c : Counts) (ug sg gs assignment records : List ℕ) (room : ℕ) : Type 0 where
  pub gu : List ℕ
  pub sound : soundb (table_of c gu ug sg gs assignment records) ≡ true
  pub words : Room (sweep (table_of c gu ug sg gs assignment records)) 0 room

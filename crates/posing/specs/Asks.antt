-- What the steps inside Pose ask.
use Rattle.std.specs.Prelude.{ℕ, ◌+◌, ◌*◌, ◌≤◌, ◌<◌, ◌≡◌, true, List, length}
use Rattle.scope.specs.Table.{Table, undeleted}
use Rattle.scope.specs.Sound.{soundb}
use Rattle.scope.specs.Outcome.{Result, ◌then◌}
use Rattle.scope.specs.Map.{map_user, to_map}
use Rattle.scope.specs.Grant.{grant}
use Rattle.scope.specs.Pose.{pose, users_to_map}
use Rattle.scope.specs.Distinct.{Within}

-- a user is mapped, and its global granted a solver index
abbrev pub pose_user : ℕ → Table → Result ℕ
pose_user u t = map_user u t then grant

-- The table is sound, the user below the capacity, there are globals for the users to map, and from `at` on there is room for the notes.
pub record PlaceAsks (t : Table) (u at room : ℕ) : Type 0 where
  pub sound : soundb t ≡ true
  pub within : u < t.counts.capacity
  pub enough : undeleted t + to_map t u ≤ t.counts.capacity
  pub words : at + 3 * length (pose_user u t).notes ≤ room

-- the same for all literals, and room for their solver literals
pub record PoseAsks (t : Table) (lits : List ℕ) (outs room : ℕ) : Type 0 where
  pub sound : soundb t ≡ true
  pub within : Within lits t.counts.capacity
  pub enough : undeleted t + users_to_map t lits ≤ t.counts.capacity
  pub words : 3 * length (pose lits t).notes ≤ room
  pub places : length lits ≤ outs
  pub few : length lits ≤ 8192

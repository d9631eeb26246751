-- The sections as queues: what is taken of each, up to its head; and the walk over them.
use Rattle.std.specs.Prelude.{ℕ, ◌+◌, ◌≤◌, ◌<◌, ◌≡◌, List, get_or}
use Rattle.drat.specs.Writing.{part}
use Rattle.scope.specs.Literals.{not_lit}
use Rattle.scope.specs.Binary.{times}

-- the entries of the section of l before its head
abbrev pub taken : List ℕ → List ℕ → List ℕ → ℕ → List ℕ
taken lists place head l = part (get_or place l 0 + 1) (get_or head l 0) lists

-- what is taken is mirrored
pub record Even (lists : List ℕ) (n : ℕ) (place head : List ℕ) : Type 0 where
  pub begun : (l : ℕ) → l < n → get_or place l 0 + 1 ≤ get_or head l 0
  pub both : (l m : ℕ) → l < n → m < n → times m (taken lists place head l) ≡ times (not_lit l) (taken lists place head (not_lit m))

-- The head of the section of x is at h; its entry's mirror is in another section, that of y.
pub record Facing (lists : List ℕ) (n : ℕ) (place head : List ℕ) (x h y : ℕ) : Type 0 where
  pub low : x < n
  pub is : get_or head x 0 ≡ h
  pub ahead : h < get_or place (x + 1) 0
  pub other : y < n
  pub mirror : y ≡ not_lit (get_or lists h 0)
  pub apart : y ≡ x → ⊥

-- The walk has turns left. The path has room for 8192 sections.
pub record Going (next waiting turns : ℕ) : Type 0 where
  pub room : waiting ≤ 8192
  pub some : 0 < turns
  pub fits : next + turns ≤ 9223372036854775808

-- A turn of the walk: the path stays within its room, a turn is used, and the next section is at most one further.
pub record Turned (next turns next' waiting' turns' : ℕ) : Type 0 where
  pub room : waiting' ≤ 8192
  pub fewer : turns' < turns
  pub further : next' + turns' ≤ next + turns

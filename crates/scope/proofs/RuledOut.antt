-- What promise c rules out, as laws of the definitions. A table that turns away every name, or says "short" or "no free global" with nothing
-- tried: where there is room a name is taken (and each call does its work: Works, WorksLists). An invented note count: NoteCounts. A
-- grant of index 0 to everybody: `grant_sound` (two globals never hold one index) and `grants_apart`. A sweep of its first index only:
-- `sweep_complete`. An idle table: `map_user_mapped` and `grant_granted` (the name asked for is there afterwards).
use Prim.Native.Nat.{ℕ, ◌+◌, ◌*◌, ◌<◌, ◌≤◌}
use mathlib.Core.Path.{◌≡◌, ◌∙◌}
use mathlib.Core.Bool.{Bool, false, ◌&&◌}
use mathlib.Core.Logic.{◌≢◌}
use native.Mathlib.Omega.{arith}
use lib.ListN.{length, get_or}
use borrow.Author.Tests.{lt-leb, le-ltb}
use Rattle.scope.specs.Table.{Table, record_of, undeleted}
use Rattle.scope.specs.Sound.{Sound}
use Rattle.scope.specs.Map.{to_map, unsampled, map_user, new_user, next_user, map_refusal, new_user_refusal}
use Rattle.scope.specs.Grant.{grant, grant_refusal}
use Rattle.scope.proofs.SoundLaws.{sound_to}
use Rattle.scope.proofs.MapLaws.{MapRoom, map_user_count, next_user_to_map}
use Rattle.scope.proofs.GrantLaws.{grant_granted, to_grant, grant_count}

-- ---- a name is taken where there is room

pub map_accepted : (t : Table) (u : ℕ) (sampling : Bool) (room : ℕ) → MapRoom t u → sampling && unsampled t u ≡ false → 3 * to_map t u ≤ room
    → map_refusal t u sampling room ≡ 0
unfolding map_refusal
map_accepted t u sampling room m s h =
    let c = map_user_count t u in
    rw (
      sound_to t m.sound,
      lt-leb t.counts.capacity u m.within,
      s,
      le-ltb t.counts.capacity (undeleted t + to_map t u) m.room,
      le-ltb room (3 * length (map_user u t).notes) (omega arith),
    )

pub new_user_accepted : (t : Table) (room : ℕ) → Sound t → undeleted t + 1 ≤ t.counts.capacity → 3 ≤ room → new_user_refusal t room ≡ 0
unfolding new_user_refusal new_user
new_user_accepted t room p h k =
    let c = map_user_count t (next_user t) in
    let d = next_user_to_map t p in
    rw (sound_to t p, le-ltb t.counts.capacity (undeleted t + 1) h, le-ltb room (3 * length (map_user (next_user t) t).notes) (omega arith))

pub grant_accepted : (t : Table) (g room : ℕ) → Sound t → g < t.counts.global → record_of t g < 36 → 3 * to_grant t g ≤ room
    → grant_refusal t g room ≡ 0
unfolding grant_refusal
grant_accepted t g room p h k l =
    let c = grant_count t g in
    rw (sound_to t p, lt-leb t.counts.global g h, lt-leb 36 (record_of t g) k, le-ltb room (3 * length (grant g t).notes) (omega arith))

-- ---- two globals are never granted one index

pub grants_apart : (t : Table) (g h : ℕ) → Sound t → record_of t g < 36 → h ≢ g → get_or t.solver_from_global h 0 ≢ (grant g t).value + 1
grants_apart t g h p k n e =
    let d = grant_granted t g p k in
    let a = (d.sound.solver.inverse (grant g t).value h).1 (d.other h n ∙ e) in
    let b = d.holds in
    n (omega arith)

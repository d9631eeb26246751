-- Laws of one user: mapped, then granted.
use Prim.Native.Nat.{ℕ, zero, suc, ◌+◌, ◌<◌}
use mathlib.Core.Path.{◌≡◌, refl, sym, ap, ◌∙◌, subst}
use mathlib.Core.List.{List}
use native.Mathlib.Omega.{arith}
use lib.ListN.{length, get_or, length-append}
use Rattle.scope.specs.Table.{Table}
use Rattle.scope.specs.Outcome.{Result}
use Rattle.scope.specs.Map.{map_user}
use Rattle.scope.specs.Grant.{grant}
use Rattle.scope.proofs.ResultLaws.{word_none, word_some}
use Rattle.scope.proofs.SoundLaws.{sound_of, sound_to}
use Rattle.scope.proofs.MapLaws.{MapRoom, map_user_has, map_user_mapped, mapped_global}
use Rattle.scope.proofs.GrantLaws.{grant_has, grant_granted}
use Rattle.scope.specs.Cursor.{NoneFree}
use Rattle.changes.specs.Leaves.{Leaves}
use Rattle.changes.proofs.LeavesLaws.{leaves_stay, leaves_then, leaves_length}
use Rattle.granting.specs.Asks.{GrantAsks}
use Rattle.mapping.specs.Parts.{free}
use Rattle.mapping.specs.Asks.{MapAsks}
use Rattle.held.specs.Parts.{held_word}
use Rattle.posing.specs.Asks.{pose_user, PlaceAsks}

map_room : (t : Table) (u at room : ℕ) → PlaceAsks t u at room → MapRoom t u
map_room t u at room h = record { sound = sound_of t h.sound; within = h.within; room = h.enough }

-- the notes of both
place_notes : (t : Table) (u : ℕ) → length (pose_user u t).notes ≡ length (map_user u t).notes + length (grant (map_user u t).value (map_user u t).table).notes
place_notes t u = length-append (map_user u t).notes (grant (map_user u t).value (map_user u t).table).notes

pub place_map_asks : (t : Table) (u at room : ℕ) → PlaceAsks t u at room → MapAsks t u at room
place_map_asks t u at room h =
    let n = (map_user_mapped t u (map_room t u at room h)).count in
    let e = place_notes t u in
    let w = h.words in
    record { sound = h.sound; within = h.within; enough = h.enough; words = omega arith }

pub place_grant_asks : (t : Table) (u at g at1 : ℕ) (t1 : Table) (words words1 : List ℕ) → PlaceAsks t u at (length words)
    → g ≡ (map_user u t).value → Leaves (map_user u t) at at1 t1 words words1 → GrantAsks t1 g at1 (length words1)
place_grant_asks t u at g at1 t1 words words1 h v m =
    let x = map_user_mapped t u (map_room t u at _ h) in
    let k = mapped_global (map_user u t).table u (map_user u t).value x.sound x.has in
    let e = place_notes t u in
    let w = h.words in
    let q = m.moved in
    let n = leaves_length _ _ _ _ _ _ m in
    subst (λ (s : Table). GrantAsks s g at1 (length words1)) (sym m.table)
    (subst (λ (j : ℕ). GrantAsks (map_user u t).table j at1 (length words1)) (sym v)
    (record { sound = sound_to _ x.sound; below = k.1; alive = k.0; words = omega arith }))

pub place_leaves : (t : Table) (u at g at1 s at2 : ℕ) (t1 t2 : Table) (words words1 words2 : List ℕ)
    → g ≡ (map_user u t).value → Leaves (map_user u t) at at1 t1 words words1
    → s ≡ (grant g t1).value → Leaves (grant g t1) at1 at2 t2 words1 words2
    → (s ≡ (pose_user u t).value) × Leaves (pose_user u t) at at2 t2 words words2
place_leaves t u at g at1 s at2 t1 t2 words words1 words2 e a f b = (
  f ∙ (λ i. (grant (e i) (a.table i)).value),
  leaves_then (grant (map_user u t).value) a (subst (λ (j : ℕ). Leaves (grant j t1) at1 at2 t2 words1 words2) e b),
)

-- a grant leaves the globals alone
pub global_ahead : (g at1 at2 from : ℕ) (t1 t2 : Table) (words1 words2 : List ℕ)
    → GrantAsks t1 g at1 (length words1)
    → Leaves (grant g t1) at1 at2 t2 words1 words2
    → NoneFree (free t1.records) t1.counts.global from
    → NoneFree (free t2.records) t2.counts.global from
global_ahead g at1 at2 from t1 t2 words1 words2 h m p =
    let x = (grant_granted t1 g (sound_of t1 h.sound) h.alive).same in
    let a : t2.records ≡ t1.records = ap (λ (s : Table). s.records) m.table ∙ x.records in
    let b : t2.counts.global ≡ t1.counts.global = ap (λ (s : Table). s.counts.global) m.table ∙ x.global in
    rw (a, b) p

-- a user that has a solver index already: nothing changes
pub place_held : (t : Table) (u s at : ℕ) (words : List ℕ) → held_word t.global_from_user t.solver_from_global u ≡ s + 1
    → (s ≡ (pose_user u t).value) × Leaves (pose_user u t) at at t words words
unfolding held_word
place_held t u s at words e = go (get_or t.global_from_user u 0) refl
  where
    go : (w : ℕ) → get_or t.global_from_user u 0 ≡ w → (s ≡ (pose_user u t).value) × Leaves (pose_user u t) at at t words words
    go zero q = absurd (let z = sym (word_none 0 (λ g. get_or t.solver_from_global g 0) _ q) ∙ e in omega arith)
    go (suc g) q =
        let m : get_or t.global_from_user u 0 ≡ g + 1 = omega arith in
        let h = sym (word_some 0 (λ g. get_or t.solver_from_global g 0) _ g m) ∙ e in
        let a = sym (map_user_has t u g m) in
        let b = sym (grant_has t g s h) in
        place_leaves t u at g at s at t t words words words
        (ap (λ (x : Result ℕ). x.value) a) (subst (λ (x : Result ℕ). Leaves x at at t words words) a (leaves_stay t at words))
        (ap (λ (x : Result ℕ). x.value) b) (subst (λ (x : Result ℕ). Leaves x at at t words words) b (leaves_stay t at words))

-- the solver index is one of the capacity
pub place_small : (t : Table) (u : ℕ) → MapRoom t u → (pose_user u t).value < t.counts.capacity
place_small t u r =
    let x = map_user_mapped t u r in
    let k = mapped_global (map_user u t).table u (map_user u t).value x.sound x.has in
    let y = (grant_granted (map_user u t).table (map_user u t).value x.sound k.0).below in
    let z = x.sound.sizes in
    let c = x.same.capacity in
    omega arith

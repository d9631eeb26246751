-- Laws of the loop over the literals.
use Prim.Native.Nat.{ℕ, ◌+◌, ◌≤◌, ◌<◌}
use mathlib.Core.Path.{◌≡◌, refl, sym, ap, ◌∙◌, subst}
use mathlib.Core.Bool.{true}
use mathlib.Core.List.{List, [], ◌∷◌, ◌++◌}
use native.Mathlib.Omega.{arith}
use lib.ListN.{length, get_or, set}
use lib.Seq.{sets, length-sets}
use Rattle.base.proofs.SetsLaws.{store_next}
use Rattle.scope.specs.Literals.{code_of, index_of, sign_of}
use Rattle.scope.specs.Table.{Table}
use Rattle.scope.specs.Sound.{soundb}
use Rattle.scope.specs.Outcome.{each}
use Rattle.scope.specs.Pose.{pose_one, pose}
use Rattle.scope.proofs.SoundLaws.{sound_of, sound_to}
use Rattle.scope.proofs.ResultLaws.{each_value}
use Rattle.scope.proofs.PoseLaws.{PoseRoom, pose_step, pose_room, pose_posed, pose_part_words, Posed}
use Rattle.changes.specs.Leaves.{Leaves}
use Rattle.changes.proofs.LeavesLaws.{leaves_giving, leaves_length, SameSizes, same_sizes}
use Rattle.changes.proofs.TurnLaws.{each_up, each_count, turns_none, turns_more}
use Rattle.posing.specs.Asks.{pose_user, PlaceAsks, PoseAsks}
use Rattle.posing.proofs.PlaceLaws.{place_small}

-- The first i literals are done.
pub record LitsDone (t : Table) (lits : List ℕ) (i at : ℕ) (s : Table) (words words' out out' : List ℕ) : Type 0 where
  pub most : i ≤ length lits
  pub step : Leaves (each i (pose_step lits) t) 0 at s words words'
  pub filled : out' ≡ sets out 0 (each i (pose_step lits) t).value

pub lits_start : (t : Table) (lits words out : List ℕ) → LitsDone t lits 0 0 t words words out out
unfolding each
lits_start t lits words out = record { most = omega arith; step = turns_none (pose_step lits) t words; filled = refl }

pose_room_asked : (t : Table) (lits : List ℕ) (outs room : ℕ) → PoseAsks t lits outs room → PoseRoom t lits
pose_room_asked t lits outs room h = record { sound = sound_of t h.sound; within = h.within.at; room = h.enough }

-- ---- one turn

pub turn_asks : (t : Table) (lits : List ℕ) (outs i at : ℕ) (s : Table) (words words' out out' : List ℕ) → PoseAsks t lits outs (length words) → i < length lits
    → LitsDone t lits i at s words words' out out' → PlaceAsks s (index_of (get_or lits i 0)) at (length words')
unfolding pose pose_one
turn_asks t lits outs i at s words words' out out' h l d =
    let r = pose_room t lits (pose_room_asked t lits outs _ h) i l in
    let m = d.step.moved in
    let n = leaves_length _ _ _ _ _ _ d.step in
    let a = each_count i (pose_step lits) t in
    let b = each_up (pose_step lits) t (i + 1) (length lits) (omega arith) in
    let w = h.words in
    subst (λ (x : Table). PlaceAsks x (index_of (get_or lits i 0)) at (length words')) (sym d.step.table)
    (record { sound = sound_to _ r.sound; within = r.within; enough = r.room; words = omega arith })

pub turn_small : (t : Table) (lits : List ℕ) (outs i at v : ℕ) (s : Table) (words words' out out' : List ℕ) → PoseAsks t lits outs (length words)
    → i < length lits
    → LitsDone t lits i at s words words' out out' → v ≡ (pose_user (index_of (get_or lits i 0)) s).value → v < 4096
turn_small t lits outs i at v s words words' out out' h l d e =
    let p = pose_room_asked t lits outs _ h in
    let r = pose_room t lits p i l in
    let x = place_small _ _ r in
    let c = (pose_posed t lits p i (omega arith)).capacity in
    let z = (sound_of t h.sound).sizes in
    let q : v ≡ (pose_user (index_of (get_or lits i 0)) (each i (pose_step lits) t).table).value =
    e ∙ ap (λ (y : Table). (pose_user (index_of (get_or lits i 0)) y).value) d.step.table in
    omega arith

pub lits_more : (t : Table) (lits : List ℕ) (i at v next w : ℕ) (s s2 : Table) (words words1 words2 out out1 : List ℕ) → i < length lits
    → LitsDone t lits i at s words words1 out out1
    → v ≡ (pose_user (index_of (get_or lits i 0)) s).value
    → Leaves (pose_user (index_of (get_or lits i 0)) s) at next s2 words1 words2
    → w ≡ code_of v (sign_of (get_or lits i 0))
    → LitsDone t lits (i + 1) next s2 words words2 out (set out1 i w)
unfolding pose_one
lits_more t lits i at v next w s s2 words words1 words2 out out1 l d e m q =
    let c = get_or lits i 0 in
    let n = pose_part_words t lits i in
    let x = e ∙ ap (λ (y : Table). (pose_user (index_of c) y).value) d.step.table in
    record {
      most = omega arith;
      step = turns_more i (pose_step lits) t at next s s2 words words1 words2 d.step (leaves_giving m);
      filled = store_next out out1 (each i (pose_step lits) t).value 0 i w d.filled (omega arith)
          ∙ ap (λ (j : ℕ). sets out 0 ((each i (pose_step lits) t).value ++ (j ∷ []))) (q ∙ ap (λ (j : ℕ). code_of j (sign_of c)) x)
          ∙ ap (λ (k : List ℕ). sets out 0 k) (sym (each_value (pose_step lits) t i));
    }

-- ---- the end

pub lits_end : (t : Table) (lits : List ℕ) (i at : ℕ) (s : Table) (words words' out out' : List ℕ) → length lits ≤ i
    → LitsDone t lits i at s words words' out out'
    → Leaves (pose lits t) 0 at s words words' × (out' ≡ sets out 0 (pose lits t).value)
unfolding pose
lits_end t lits i at s words words' out out' l d =
    let e : i ≡ length lits = let x = d.most in omega arith in (
      subst (λ (n : ℕ). Leaves (each n (pose_step lits) t) 0 at s words words') e d.step,
      d.filled ∙ ap (λ (n : ℕ). sets out 0 (each n (pose_step lits) t).value) e,
    )

-- the table is sound
pub lits_sound : (t : Table) (lits : List ℕ) (outs i at : ℕ) (s : Table) (words words' out out' : List ℕ) → PoseAsks t lits outs (length words)
    → LitsDone t lits i at s words words' out out' → soundb s ≡ true
lits_sound t lits outs i at s words words' out out' h d =
    subst (λ (x : Table). soundb x ≡ true) (sym d.step.table) (sound_to _ (pose_posed t lits (pose_room_asked t lits outs _ h) i d.most).sound)

-- the slices keep their lengths
pub lits_sizes : (t : Table) (lits : List ℕ) (outs i at : ℕ) (s : Table) (words words' out out' : List ℕ) → PoseAsks t lits outs (length words)
    → LitsDone t lits i at s words words' out out' → SameSizes t s words words'
lits_sizes t lits outs i at s words words' out out' h d =
    let p = pose_room_asked t lits outs _ h in
    let o = subst (λ (x : Table). Posed t lits i x) (sym d.step.table) (pose_posed t lits p i d.most) in
    let c = o.capacity in
    same_sizes t s words words' (sound_of t h.sound).sizes o.sound.sizes (omega arith) (leaves_length _ _ _ _ _ _ d.step)

pub lits_outs : (t : Table) (lits : List ℕ) (i at : ℕ) (s : Table) (words words' out out' : List ℕ) → LitsDone t lits i at s words words' out out'
    → length out' ≡ length out
lits_outs t lits i at s words words' out out' d = ap length d.filled ∙ simp length-sets

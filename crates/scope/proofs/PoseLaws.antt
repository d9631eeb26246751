-- Laws of Pose. After any prefix of the literals the table is sound; its free users, its watermark and its counts are told by the table at
-- entry and the prefix. So the count that refusal 5 makes at entry is what is mapped.
use Prim.Native.Nat.{ℕ, zero, suc, ◌+◌, ◌<◌, ◌≤◌}
use mathlib.Core.Path.{◌≡◌, refl, sym, ap, ◌∙◌}
use mathlib.Core.Bool.{Bool, true, false, ◌&&◌, ◌||◌, not, true≢false}
use mathlib.Core.Logic.{◌≢◌}
use mathlib.Core.List.{List, [], ◌∷◌}
use native.Mathlib.Omega.{arith}
use native.Mathlib.Decide.{ℕ_discrete}
use native.Mathlib.Numerals.{add-one}
use lib.Dec.{eqb, ltb, leb}
use lib.ListN.{length, get_or, take, drop, length-append, take-append-drop}
use lib.Seq.{take-length}
use borrow.Author.Tests.{eq-eqb, ne_eqb, leb-false, ltb-false}
use Rattle.base.specs.Choice.{pick}
use Rattle.base.specs.Bounded.{count, any_of}
use Rattle.base.proofs.CountLaws.{count_never}
use Rattle.base.proofs.MemberLaws.{any_append, any_more, or_first, any_none}
use Rattle.scope.specs.Literals.{index_of}
use Rattle.scope.specs.Table.{Table, word, undeleted}
use Rattle.scope.specs.Sound.{Sound}
use Rattle.scope.specs.Outcome.{Result, giving, each}
use Rattle.scope.specs.Map.{map_user, to_map}
use Rattle.scope.specs.Grant.{grant}
use Rattle.scope.specs.Pose.{pose_one, pose, wanted, users_to_map}
use Rattle.scope.specs.Distinct.{named}
use Rattle.scope.proofs.MoveLaws.{reach_sound}
use Rattle.scope.proofs.ResultLaws.{Good, good_more, each_keeps, each_good}
use Rattle.scope.proofs.MapLaws.{MapRoom, Mapped, map_user_mapped, mapped_global, is_ungranted, ungranted_free, ungranted_has}
use Rattle.scope.proofs.GrantLaws.{GrantDone, grant_granted, to_grant}
use Rattle.scope.proofs.WantedLaws.{is_free, takes_in, to_map_count, map_frees, map_covers, count_either, count_within, count_point}

-- ---- the literals of a prefix

-- a user above v is named
abbrev pub is_passed : List ℕ → ℕ → Bool
is_passed lits v = any_of (λ c. ltb v (index_of c)) lits

-- how many named users are without a solver index
unfoldable pub users_to_grant : Table → List ℕ → ℕ
users_to_grant t lits = count t.counts.capacity (λ v. named lits v && is_ungranted t v)

any_part : (p : ℕ → Bool) (lits : List ℕ) (i : ℕ) → any_of p (take i lits) ≡ true → any_of p lits ≡ true
any_part p lits i e =
    ap (any_of p) (sym (take-append-drop i lits)) ∙ any_append p (take i lits) (drop i lits) ∙ or_first (any_of p (take i lits)) (any_of p (drop i lits)) e

-- ---- laws of tests: F free, U from the watermark up, N named, P passed, E the user named next, L below it, G without solver index

free_more : (F N P U E L : Bool) → (F && not (N || (U && P))) && not (E || ((U && not (N || P)) && L)) ≡ F && not ((N || E) || (U && (P || L)))
free_more false N P U E L = refl
free_more true true P U E L = refl
free_more true false P false E L = refl
free_more true false true true true L = refl
free_more true false true true false L = refl
free_more true false false true E L = refl

cover_more : (N P U E L : Bool) → (U && not (N || P)) && not (E || L) ≡ U && not ((N || E) || (P || L))
cover_more N P false E L = refl
cover_more true P true E L = refl
cover_more false true true true L = refl
cover_more false true true false L = refl
cover_more false false true E L = refl

wanted_more : (F N P U E L : Bool)
    → F && ((N || E) || (U && (P || L))) ≡ (F && (N || (U && P))) || ((F && not (N || (U && P))) && (E || ((U && not (N || P)) && L)))
wanted_more false N P U E L = refl
wanted_more true true P U E L = refl
wanted_more true false P false E L = refl
wanted_more true false true true true L = refl
wanted_more true false true true false L = refl
wanted_more true false false true E L = refl

wanted_apart : (F X Y : Bool) → F && X ≡ true → (F && not X) && Y ≡ false
wanted_apart false X Y e = refl
wanted_apart true true Y e = refl
wanted_apart true false Y e = absurd (true≢false (sym e))

grant_more : (N E G : Bool) → (N || E) && G ≡ (N && G) || (E && (G && not N))
grant_more true true true = refl
grant_more true true false = refl
grant_more true false true = refl
grant_more true false false = refl
grant_more false true true = refl
grant_more false true false = refl
grant_more false false G = refl

grant_apart : (N E G : Bool) → N && G ≡ true → E && (G && not N) ≡ false
grant_apart true true true e = refl
grant_apart true true false e = refl
grant_apart true false G e = refl
grant_apart false E G e = absurd (true≢false (sym e))

ungranted_more : (G N E : Bool) → (G && not N) && not E ≡ G && not (N || E)
ungranted_more false N E = refl
ungranted_more true true E = refl
ungranted_more true false E = refl

-- ---- a prefix

-- the conditions that Pose's refusals leave
pub record PoseRoom (t : Table) (lits : List ℕ) : Type 0 where
  pub sound : Sound t
  pub within : (i : ℕ) → i < length lits → index_of (get_or lits i 0) < t.counts.capacity
  pub room : undeleted t + users_to_map t lits ≤ t.counts.capacity

pub pose_room_of : (t : Table) (lits : List ℕ) → Sound t → any_of (λ c. leb t.counts.capacity (index_of c)) lits ≡ false
    → ltb t.counts.capacity (undeleted t + users_to_map t lits) ≡ false → PoseRoom t lits
pose_room_of t lits p a b =
    record {
      sound = p;
      within = λ i l. leb-false t.counts.capacity (index_of (get_or lits i 0)) (any_none (λ c. leb t.counts.capacity (index_of c)) lits i 0 a l);
      room = ltb-false t.counts.capacity (undeleted t + users_to_map t lits) b;
    }

-- after the first i literals
pub record Posed (t : Table) (lits : List ℕ) (i : ℕ) (s : Table) : Type 0 where
  pub sound : Sound s
  pub capacity : s.counts.capacity ≡ t.counts.capacity
  pub frees : (v : ℕ) → is_free s v ≡ is_free t v && not (named (take i lits) v || (leb t.counts.user v && is_passed (take i lits) v))
  pub covers : (v : ℕ) → leb s.counts.user v ≡ leb t.counts.user v && not (named (take i lits) v || is_passed (take i lits) v)
  pub undeleted : undeleted s ≡ undeleted t + users_to_map t (take i lits)
  pub ungranted : (v : ℕ) → is_ungranted s v ≡ is_ungranted t v && not (named (take i lits) v)

-- one literal more: the users it maps
pub to_map_more : (t : Table) (lits : List ℕ) (i : ℕ) (s : Table) → PoseRoom t lits → i < length lits → Posed t lits i s
    → users_to_map t (take (i + 1) lits) ≡ users_to_map t (take i lits) + to_map s (index_of (get_or lits i 0))
unfolding users_to_map wanted
to_map_more t lits i s r l o =
    let u = index_of (get_or lits i 0) in
    let c = o.capacity in
    let w = r.within i l in
    let a =
    count_either t.counts.capacity (wanted t (take i lits)) (λ v. is_free s v && takes_in s.counts.user u v) (wanted t (take (i + 1) lits))
    (λ v. rw (any_more (λ c. eqb (index_of c) v) lits i 0 l, any_more (λ c. ltb v (index_of c)) lits i 0 l, o.frees v, o.covers v)
    (wanted_more (is_free t v) (named (take i lits) v) (is_passed (take i lits) v) (leb t.counts.user v) (eqb u v) (ltb v u)))
    (λ v e. rw (o.frees v) (wanted_apart (is_free t v) (named (take i lits) v || (leb t.counts.user v && is_passed (take i lits) v)) _ e)) in
    let b = to_map_count s u o.sound (omega arith) in
    let d = ap (λ (n : ℕ). count n (λ v. is_free s v && takes_in s.counts.user u v)) c in
    omega arith

-- a prefix maps no more than all
pub to_map_part : (t : Table) (lits : List ℕ) (i : ℕ) → users_to_map t (take i lits) ≤ users_to_map t lits
unfolding users_to_map wanted
to_map_part t lits i =
    count_within t.counts.capacity (wanted t (take i lits)) (wanted t lits)
    (λ v e.
    part (is_free t v) (leb t.counts.user v) (named (take i lits) v) (is_passed (take i lits) v) (named lits v) (is_passed lits v)
    (any_part (λ c. eqb (index_of c) v) lits i) (any_part (λ c. ltb v (index_of c)) lits i) e)
  where
    part : (F U N P N' P' : Bool) → (N ≡ true → N' ≡ true) → (P ≡ true → P' ≡ true) → F && (N || (U && P)) ≡ true → F && (N' || (U && P')) ≡ true
    part false U N P N' P' f g e = e
    part true U true P N' P' f g e = rw (f refl)
    part true true false true N' P' f g e = rw (g refl) (last N')
      where
        last : (b : Bool) → b || true ≡ true
        last true = refl
        last false = refl
    part true true false false N' P' f g e = absurd (true≢false (sym e))
    part true false false P N' P' f g e = absurd (true≢false (sym e))

-- there is room for the next literal's user
pub pose_turn_room : (t : Table) (lits : List ℕ) (i : ℕ) (s : Table) → PoseRoom t lits → i < length lits → Posed t lits i s
    → MapRoom s (index_of (get_or lits i 0))
pose_turn_room t lits i s r l o =
    let a = to_map_more t lits i s r l o in
    let b = to_map_part t lits (i + 1) in
    let c = o.capacity in
    let d = o.undeleted in
    let e = r.room in
    let w = r.within i l in
    record { sound = o.sound; within = omega arith; room = omega arith }

-- ---- one literal

-- the user's global is granted a solver index
pub record OnePosed (s : Table) (u : ℕ) (x y : Result ℕ) : Type 0 where
  pub mapped : Mapped s u x
  pub granted : GrantDone x.table x.value y

pub pose_one_posed : (s : Table) (u : ℕ) → MapRoom s u → OnePosed s u (map_user u s) (grant (map_user u s).value (map_user u s).table)
pose_one_posed s u m =
    let x = map_user_mapped s u m in
    record {
      mapped = x;
      granted = grant_granted (map_user u s).table (map_user u s).value x.sound
          (mapped_global (map_user u s).table u (map_user u s).value x.sound x.has).0;
    }

-- a grant to the global of u gives u a solver index, and no other user
grant_ungranted : (t : Table) (u g : ℕ) (y : Result ℕ) → Sound t → get_or t.global_from_user u 0 ≡ g + 1 → GrantDone t g y → (v : ℕ)
    → is_ungranted y.table v ≡ is_ungranted t v && not (eqb u v)
grant_ungranted t u g y p h d v = go (ℕ_discrete u v) (get_or t.global_from_user v 0) refl
  where
    q : get_or y.table.global_from_user v 0 ≡ get_or t.global_from_user v 0
    q = ap (λ (l : List ℕ). get_or l v 0) d.same.global_from_user

    none : (b : Bool) → false ≡ b && false
    none true = refl
    none false = refl

    all : (b : Bool) → b ≡ b && true
    all true = refl
    all false = refl

    go : Dec (u ≡ v) → (w : ℕ) → get_or t.global_from_user v 0 ≡ w → is_ungranted y.table v ≡ is_ungranted t v && not (eqb u v)
    go (yes e) w z =
        let a : get_or y.table.global_from_user v 0 ≡ g + 1 = q ∙ ap (λ (k : ℕ). get_or t.global_from_user k 0) (sym e) ∙ h in
        let b = d.has in
        rw (eq-eqb u v e, ungranted_has y.table v g a, ne_eqb (get_or y.table.solver_from_global g 0) 0 (omega arith)) (none (is_ungranted t v))
    go (no e) zero z = rw (ne_eqb u v e, ungranted_free y.table v (q ∙ z), ungranted_free t v z)
    go (no e) (suc k) z =
        let z' : get_or t.global_from_user v 0 ≡ k + 1 = omega arith in
        let apart : k ≢ g = λ x.
        let a = (p.user.inverse v k).0 z' in
        let b = (p.user.inverse u g).0 h in
        let c = ap (λ (j : ℕ). get_or t.user_from_global j 0) x in
        e (omega arith) in
        rw (ne_eqb u v e, ungranted_has y.table v k (q ∙ z'), ungranted_has t v k z', d.other k apart) (all (eqb (get_or t.solver_from_global k 0) 0))

-- the undeleted globals are the records' affair
undeleted_same : (t s : Table) → s.counts.capacity ≡ t.counts.capacity → s.records ≡ t.records → undeleted s ≡ undeleted t
unfolding undeleted
undeleted_same t s a b = rw (a, b)

pose_step_lem : (t : Table) (lits : List ℕ) (i : ℕ) (s : Table) (x y : Result ℕ) → PoseRoom t lits → i < length lits → Posed t lits i s
    → OnePosed s (index_of (get_or lits i 0)) x y → Posed t lits (i + 1) y.table
pose_step_lem t lits i s x y r l o k =
    let u = index_of (get_or lits i 0) in
    let m = k.mapped in
    let d = k.granted in
    let a = to_map_more t lits i s r l o in
    let b = undeleted_same x.table y.table d.same.capacity d.same.records in
    let c = m.undeleted in
    let e = o.undeleted in
    record {
      sound = d.sound;
      capacity = d.same.capacity ∙ m.same.capacity ∙ o.capacity;
      frees = λ v. rw (
        d.same.global_from_user,
        map_frees s u x o.sound m v,
        o.frees v,
        o.covers v,
        any_more (λ c. eqb (index_of c) v) lits i 0 l,
        any_more
            (λ c. ltb v (index_of c)) lits i 0 l,
      )
          (free_more (is_free t v) (named (take i lits) v) (is_passed (take i lits) v) (leb t.counts.user v) (eqb u v) (ltb v u));
      covers = λ v. rw (
        d.same.user,
        map_covers s u x m v,
        o.covers v,
        any_more (λ c. eqb (index_of c) v) lits i 0 l,
        any_more (λ c. ltb v (index_of c)) lits i
            0 l,
      )
          (cover_more (named (take i lits) v) (is_passed (take i lits) v) (leb t.counts.user v) (eqb u v) (ltb v u));
      undeleted = omega arith;
      ungranted = λ v. grant_ungranted x.table u x.value y m.sound m.has d v
          ∙ rw (m.ungranted v, o.ungranted v, any_more (λ c. eqb (index_of c) v) lits i 0 l)
          (ungranted_more (is_ungranted t v) (named (take i lits) v) (eqb u v));
    }

-- ---- Pose

abbrev pub pose_step : List ℕ → ℕ → Table → Result (List ℕ)
pose_step lits i s = giving (λ c. c ∷ []) (pose_one (get_or lits i 0) s)

pub pose_one_table : (c : ℕ) (s : Table) → (pose_one c s).table ≡ (grant (map_user (index_of c) s).value (map_user (index_of c) s).table).table
unfolding pose_one
pose_one_table c s = refl

to_map_none : (t : Table) → users_to_map t [] ≡ 0
unfolding users_to_map wanted any_of
to_map_none t = count_never t.counts.capacity (wanted t []) (λ v. none (is_free t v) (leb t.counts.user v))
  where
    none : (F U : Bool) → F && (false || (U && false)) ≡ false
    none true true = refl
    none true false = refl
    none false U = refl

pose_start : (t : Table) (lits : List ℕ) → Sound t → Posed t lits 0 t
unfolding any_of
pose_start t lits p =
    let e = to_map_none t in
    record {
      sound = p;
      capacity = refl;
      frees = λ v. whole (is_free t v) (leb t.counts.user v);
      covers = λ v. all (leb t.counts.user v);
      undeleted = omega arith;
      ungranted = λ v. all (is_ungranted t v);
    }
  where
    all : (b : Bool) → b ≡ b && true
    all true = refl
    all false = refl

    whole : (F U : Bool) → F ≡ F && not (false || (U && false))
    whole true true = refl
    whole true false = refl
    whole false U = refl

pub pose_posed : (t : Table) (lits : List ℕ) → PoseRoom t lits → (i : ℕ) → i ≤ length lits → Posed t lits i (each i (pose_step lits) t).table
unfolding pose_one
pose_posed t lits r =
    each_keeps (pose_step lits) t (Posed t lits) (length lits) (pose_start t lits r.sound)
    (λ i s l o. pose_step_lem t lits i s _ _ r l o (pose_one_posed s (index_of (get_or lits i 0)) (pose_turn_room t lits i s r l o)))

pub pose_one_reach : (c : ℕ) (s : Table) → MapRoom s (index_of c) → Good s (pose_one c s)
unfolding pose_one
pose_one_reach c s m =
    let k = pose_one_posed s (index_of c) m in
    good_more (map_user (index_of c) s).notes (grant (map_user (index_of c) s).value (map_user (index_of c) s).table).notes k.mapped.good k.granted.good

pub pose_one_sound : (c : ℕ) (s : Table) → MapRoom s (index_of c) → Sound (pose_one c s).table
pose_one_sound c s m = reach_sound (pose_one_reach c s m) m.sound

-- at every turn there is room for the literal's user
pub pose_room : (t : Table) (lits : List ℕ) → PoseRoom t lits → (i : ℕ) → i < length lits
    → MapRoom (each i (pose_step lits) t).table (index_of (get_or lits i 0))
pose_room t lits r i l = pose_turn_room t lits i (each i (pose_step lits) t).table r l (pose_posed t lits r i (omega arith))

-- a prefix is a path, and leaves a sound table
pub pose_part_reach : (t : Table) (lits : List ℕ) → PoseRoom t lits → (i : ℕ) → i ≤ length lits → Good t (each i (pose_step lits) t)
pose_part_reach t lits r =
    each_good (pose_step lits) t (Posed t lits) (length lits) (pose_posed t lits r)
    (λ i s l o. pose_one_reach (get_or lits i 0) s (pose_turn_room t lits i s r l o))

pub pose_part_sound : (t : Table) (lits : List ℕ) → PoseRoom t lits → (i : ℕ) → i ≤ length lits → Sound (each i (pose_step lits) t).table
pose_part_sound t lits r i l = (pose_posed t lits r i l).sound

pub pose_reach : (t : Table) (lits : List ℕ) → PoseRoom t lits → Good t (pose lits t)
unfolding pose
pose_reach t lits r = pose_part_reach t lits r (length lits) (omega arith)

pub pose_sound : (t : Table) (lits : List ℕ) → PoseRoom t lits → Sound (pose lits t).table
pose_sound t lits r = reach_sound (pose_reach t lits r) r.sound

-- ---- how many notes

to_grant_none : (t : Table) → users_to_grant t [] ≡ 0
unfolding users_to_grant any_of
to_grant_none t = count_never t.counts.capacity (λ v. named [] v && is_ungranted t v) (λ v. refl)

-- one literal more: whether it is granted a solver index
pub to_grant_more : (t : Table) (lits : List ℕ) (i : ℕ) (s : Table) → PoseRoom t lits → i < length lits → Posed t lits i s
    → users_to_grant t (take (i + 1) lits) ≡ users_to_grant t (take i lits) + pick (is_ungranted s (index_of (get_or lits i 0))) 1 0
unfolding users_to_grant
to_grant_more t lits i s r l o =
    let u = index_of (get_or lits i 0) in
    let a =
    count_either t.counts.capacity (λ v. named (take i lits) v && is_ungranted t v) (λ v. eqb u v && is_ungranted s v)
    (λ v. named (take (i + 1) lits) v && is_ungranted t v)
    (λ v. rw (any_more (λ c. eqb (index_of c) v) lits i 0 l, o.ungranted v) (grant_more (named (take i lits) v) (eqb u v) (is_ungranted t v)))
    (λ v e. rw (o.ungranted v) (grant_apart (named (take i lits) v) (eqb u v) (is_ungranted t v) e)) in
    let b = count_point t.counts.capacity u (is_ungranted s) (r.within i l) in
    omega arith

to_grant_word : (t : Table) (u g : ℕ) → get_or t.global_from_user u 0 ≡ g + 1 → to_grant t g ≡ pick (is_ungranted t u) 1 0
unfolding to_grant word
to_grant_word t u g h = rw (ungranted_has t u g h) (go (get_or t.solver_from_global g 0))
  where
    go : (w : ℕ) → word {A = ℕ} 1 (λ s. 0) w ≡ pick (eqb w 0) 1 0
    go zero = refl
    go (suc s) = rw (ne_eqb (suc s) 0 (omega arith))

-- a note for each user that is mapped, and for each solver index that is granted
pub pose_one_count : (c : ℕ) (s : Table) → MapRoom s (index_of c)
    → length (pose_one c s).notes ≡ to_map s (index_of c) + pick (is_ungranted s (index_of c)) 1 0
unfolding pose_one
pose_one_count c s m =
    let u = index_of c in
    let k = pose_one_posed s u m in
    let a = length-append (map_user u s).notes (grant (map_user u s).value (map_user u s).table).notes in
    let b = k.mapped.count in
    let d = k.granted.count in
    let e = to_grant_word (map_user u s).table u (map_user u s).value k.mapped.has in
    let f = ap (λ (b : Bool). pick {A = ℕ} b 1 0) (k.mapped.ungranted u) in
    omega arith

pub pose_part_count : (t : Table) (lits : List ℕ) → PoseRoom t lits → (i : ℕ) → i ≤ length lits
    → length (each i (pose_step lits) t).notes ≡ users_to_map t (take i lits) + users_to_grant t (take i lits)
unfolding each
pose_part_count t lits r zero l = let a = to_map_none t in let b = to_grant_none t in omega arith
pose_part_count t lits r (suc i) l =
    let s = (each i (pose_step lits) t).table in
    let o = pose_posed t lits r i (omega arith) in
    let a = length-append (each i (pose_step lits) t).notes (pose_one (get_or lits i 0) s).notes in
    let b = pose_part_count t lits r i (omega arith) in
    let c = pose_one_count (get_or lits i 0) s (pose_room t lits r i l) in
    let d = to_map_more t lits i s r l o in
    let e = to_grant_more t lits i s r l o in
    let f = ap (λ (k : ℕ). users_to_map t (take k lits)) (add-one i) in
    let g = ap (λ (k : ℕ). users_to_grant t (take k lits)) (add-one i) in
    omega arith

pub pose_count : (t : Table) (lits : List ℕ) → PoseRoom t lits → length (pose lits t).notes ≡ users_to_map t lits + users_to_grant t lits
unfolding pose
pose_count t lits r =
    pose_part_count t lits r (length lits) (omega arith)
    ∙ ap (λ (ls : List ℕ). users_to_map t ls + users_to_grant t ls) (take-length lits)

-- a word for each literal
pub pose_part_words : (t : Table) (lits : List ℕ) (i : ℕ) → length (each i (pose_step lits) t).value ≡ i
unfolding each
pose_part_words t lits zero = refl
pose_part_words t lits (suc i) =
    let a = length-append (each i (pose_step lits) t).value (pose_step lits i (each i (pose_step lits) t).table).value in
    let b = pose_part_words t lits i in
    omega arith

-- Laws of the inner mapping: the gap below a user is filled by the function itself, and the user is mapped after it.
use Prim.Native.Nat.{ℕ, ◌+◌, ◌-◌, ◌^◌, ◌≤◌, ◌<◌, max}
use mathlib.Core.Path.{◌≡◌, refl, sym, ap, ◌∙◌, subst}
use mathlib.Core.Bool.{true}
use mathlib.Core.List.{List, [], ◌∷◌}
use mathlib.Core.Logic.{⊎_elim}
use native.Mathlib.Omega.{arith}
use lib.ListN.{length, get_or, set}
use lib.Seq.{sets}
use Rattle.base.proofs.Truth.{split}
use Rattle.scope.specs.declared.Counts.{Counts}
use Rattle.scope.specs.declared.Global.{Global}
use Rattle.scope.specs.Table.{Table, table_of, map_counts, give_user, with_used, cover_user}
use Rattle.scope.specs.Sound.{soundb}
use Rattle.scope.specs.Notes.{notes_words}
use Rattle.scope.specs.Outcome.{Result, stay, each}
use Rattle.scope.specs.Map.{global_for, map_one, fill_gap, map_user}
use Rattle.scope.proofs.SoundLaws.{sound_of, sound_to}
use Rattle.scope.proofs.MapLaws.{Mappable, map_one_fresh, gap_step, Filled, GapRoom, fill_gap_filled, to_map_free, map_user_free, map_user_has, fill_gap_count}
use Rattle.scope.specs.Cursor.{NoneFree}
use Rattle.changes.specs.Leaves.{Leaves}
use Rattle.changes.proofs.LeavesLaws.{leaves_stay, leaves_giving, leaves_then, leaves_length}
use Rattle.changes.proofs.TurnLaws.{turns_more}
use Rattle.mapping.specs.Parts.{free, free_for}
use Rattle.mapping.specs.declared.Mapped.{Mapped}
use Rattle.mapping.specs.Asks.{MapAsks, Rest, rest_of, counts_with, counts_after, table_beside, UpAsks, UpLeaves}
use Rattle.mapping.proofs.FreeLaws.{taken_passed}

-- a user below the capacity is a small number
pub user_small : (t : Table) (u : ℕ) → soundb t ≡ true → u < t.counts.capacity → u < 4096
user_small t u y l = let z = (sound_of t y).sizes in omega arith

-- The users from the watermark up to i are mapped, where i is at most u or the watermark.
pub record Gap (t : Table) (u at i next : ℕ) (s : Table) (words words' : List ℕ) : Type 0 where
  pub low : t.counts.user ≤ i
  pub high : i ≤ max t.counts.user u
  pub done : Leaves (fill_gap (i - t.counts.user) t) at next s words words'

-- the same with any rest of the table
pub record GapWith (capacity users globals used : ℕ) (gu ug records : List ℕ) (u at i next users' globals' used' : ℕ)
    (gu' ug' records' words words' : List ℕ) : Type 0 where
  pub with : (x : Rest) → MapAsks (table_beside capacity users globals used gu ug records x) u at (length words)
      → Gap (table_beside capacity users globals used gu ug records x) u at i next (table_beside capacity users' globals' used' gu' ug' records' x) words words'

pub gap_start : (t : Table) (u at : ℕ) (words : List ℕ) → Gap t u at t.counts.user at t words words
unfolding fill_gap each
gap_start t u at words =
    let e : t.counts.user - t.counts.user ≡ 0 = omega arith in
    record { low = omega arith; high = omega arith; done = rw e (leaves_stay t at words) }

-- a user at or above the watermark has no global
unmapped : (t : Table) (u : ℕ) → soundb t ≡ true → t.counts.user ≤ u → get_or t.global_from_user u 0 ≡ 0
unmapped t u y l = (sound_of t y).user.atail u l

gap_room : (t : Table) (u at room i : ℕ) → MapAsks t u at room → t.counts.user ≤ i → i ≤ max t.counts.user u → GapRoom t (i - t.counts.user)
gap_room t u at room i h l m =
    let p = sound_of t h.sound in
    let z = p.sizes in
    let w = h.within in
    let r = h.enough in
    ⊎_elim
    (λ (k : u < t.counts.user). record { sound = p; within = omega arith; room = omega arith })
    (λ (k : t.counts.user ≤ u).
    let e = to_map_free t u (unmapped t u h.sound k) in
    record { sound = p; within = omega arith; room = omega arith })
    (split u t.counts.user)

gap_fills : (t : Table) (u at room i next : ℕ) (s : Table) (words words' : List ℕ) → MapAsks t u at room → Gap t u at i next s words words'
    → Filled t (i - t.counts.user) s
gap_fills t u at room i next s words words' h g =
    subst (λ (x : Table). Filled t (i - t.counts.user) x) (sym g.done.table)
    (fill_gap_filled t (i - t.counts.user) (gap_room t u at room i h g.low g.high))

-- ---- one turn: the user i is at the watermark of s

mark_asks : (t : Table) (u at i next : ℕ) (s : Table) (words words' : List ℕ) → MapAsks t u at (length words) → Gap t u at i next s words words'
    → t.counts.user ≤ u → i ≤ u
    → MapAsks s i next (length words')
mark_asks t u at i next s words words' h g o l =
    let f = gap_fills t u at _ i next s words words' h g in
    let a = f.user in
    let b = f.same.capacity in
    let d = f.undeleted in
    let k = g.low in
    let e = to_map_free t u (unmapped t u h.sound o) in
    let q = to_map_free s i (f.sound.user.atail i (omega arith)) in
    let m = g.done.moved in
    let c = fill_gap_count (i - t.counts.user) t in
    let n = leaves_length _ _ _ _ _ _ g.done in
    let w = h.words in
    let r = h.enough in
    let v = h.within in
    record { sound = sound_to s f.sound; within = omega arith; enough = omega arith; words = omega arith }

pub gap_asks : (t : Table) (u at i next : ℕ) (s : Table) (words words' : List ℕ) → MapAsks t u at (length words) → Gap t u at i next s words words' → i < u
    → MapAsks s i next (length words')
gap_asks t u at i next s words words' h g l = let k = g.low in mark_asks t u at i next s words words' h g (omega arith) (omega arith)

-- at its watermark a user is mapped with no gap
map_here : (s : Table) (i : ℕ) → get_or s.global_from_user i 0 ≡ 0 → i ≤ s.counts.user → map_user i s ≡ map_one i s
unfolding fill_gap each
map_here s i e l =
    let q : i - s.counts.user ≡ 0 = omega arith in
    map_user_free s i e ∙ rw q refl

pub gap_more : (t : Table) (u at i next next2 : ℕ) (s s2 : Table) (words words1 words2 : List ℕ) → MapAsks t u at (length words)
    → Gap t u at i next s words words1 → i < u
    → Leaves (map_user i s) next next2 s2 words1 words2
    → Gap t u at (i + 1) next2 s2 words words2
unfolding fill_gap
gap_more t u at i next next2 s s2 words words1 words2 h p l m =
    let f = gap_fills t u at _ i next s words words1 h p in
    let a = f.user in
    let k = p.low in
    let n = i - t.counts.user in
    let e : i + 1 - t.counts.user ≡ n + 1 = omega arith in
    let q : t.counts.user + n ≡ i = omega arith in
    let x = map_here s i (f.sound.user.atail i (omega arith)) (omega arith) in
    let m1 = subst (λ (y : Result ℕ). Leaves y next next2 s2 words1 words2) (x ∙ ap (λ (j : ℕ). map_one j s) (sym q)) m in
    record {
      low = omega arith;
      high = omega arith;
      done = rw e (turns_more n (gap_step t) t next next2 s s2 words words1 words2 p.done (leaves_giving m1));
    }

-- ---- the user itself, with no gap below it

pub own_free : (t : Table) (u : ℕ) → global_for t u ≡ free_for t.records t.counts.global u
unfolding global_for free_for free
own_free t u = refl

-- the user has a global
pub last_kept : (s : Table) (u at g : ℕ) (words : List ℕ) → get_or s.global_from_user u 0 ≡ g + 1
    → (g ≡ (map_user u s).value) × Leaves (map_user u s) at at s words words
last_kept s u at g words e =
    subst (λ (x : Result ℕ). (g ≡ x.value) × Leaves x at at s words words) (sym (map_user_has s u g e)) (refl, leaves_stay s at words)

-- the user has none: what the search and `map_one` ask, where g is the global taken
pub record OneAsks (s : Table) (u g at room : ℕ) : Type 0 where
  pub marked : s.counts.global ≤ length s.records
  pub place : u < length s.global_from_user
  pub row : u < length s.records
  pub within : u < s.counts.capacity
  pub used : s.counts.used + 1 < 2 ^ 32
  pub global_place : g < length s.user_from_global
  pub global_row : g < length s.records
  pub global_within : g < s.counts.capacity
  pub words : at + 3 ≤ room

-- and what it leaves
pub record OneLeft (s : Table) (u at : ℕ) (c : Counts) (g : Global) (from next : ℕ) (gu ug rc notes noted : List ℕ) : Type 0 where
  pub global : g.0 ≡ free_for s.records s.counts.global u
  pub counts : c ≡ map_counts s.counts u g.0 (get_or s.records g.0 47)
  pub cursor : NoneFree (free s.records) s.counts.global from
  pub moved : next ≡ at + 3
  pub users : gu ≡ set s.global_from_user u (g.0 + 1)
  pub globals : ug ≡ set s.user_from_global g.0 (u + 1)
  pub rows : rc ≡ set s.records g.0 9
  pub words : noted ≡ sets notes at (0 ∷ g.0 ∷ (u + 1) ∷ [])

-- from the global taken, t, and the cursor after its search
pub one_left : (s : Table) (u at : ℕ) (c : Counts) (g t : Global) (from past next : ℕ) (gu ug rc notes noted : List ℕ)
    → g ≡ t → past ≡ from
    → t.0 ≡ free_for s.records s.counts.global u
    → NoneFree (free s.records) s.counts.global from
    → c ≡ map_counts s.counts u t.0 (get_or s.records t.0 47)
    → next ≡ at + 3
    → gu ≡ set s.global_from_user u (t.0 + 1)
    → ug ≡ set s.user_from_global t.0 (u + 1)
    → rc ≡ set s.records t.0 9
    → noted ≡ sets notes at (0 ∷ t.0 ∷ (u + 1) ∷ [])
    → OneLeft s u at c g past next gu ug rc notes noted
one_left s u at c g t from past next gu ug rc notes noted p q a b d m x y z w =
    subst (λ (k : Global). OneLeft s u at c k past next gu ug rc notes noted) (sym p)
    (subst (λ (k : ℕ). OneLeft s u at c t k next gu ug rc notes noted) (sym q)
    (record { global = a; counts = d; cursor = b; moved = m; users = x; globals = y; rows = z; words = w }))

one_leaves : (s : Table) (u at : ℕ) (c : Counts) (g : Global) (from next : ℕ) (gu ug rc notes noted : List ℕ)
    → OneLeft s u at c g from next gu ug rc notes noted
    → (g.0 ≡ (map_one u s).value) × Leaves (map_one u s) at next (table_of c gu ug s.solver_from_global s.global_from_solver s.assignment rc) notes noted
unfolding map_one give_user notes_words global_for free_for free
one_leaves s u at c g from next gu ug rc notes noted o = (
  o.global,
  record {
    table = (λ i. table_of (o.counts i) (o.users i) (o.globals i) s.solver_from_global s.global_from_solver s.assignment (o.rows i))
        ∙ ap (λ (w : ℕ). table_of (map_counts s.counts u w (get_or s.records w 47)) (set s.global_from_user u (w + 1))
        (set s.user_from_global w (u + 1)) s.solver_from_global s.global_from_solver s.assignment (set s.records w 9)) o.global;
    noted = o.words ∙ ap (λ (w : ℕ). sets notes at (0 ∷ w ∷ (u + 1) ∷ [])) o.global;
    moved = let x = o.moved in omega arith;
  },
)

module _ (s : Table) (u at room : ℕ) (h : MapAsks s u at room) (l : u ≤ s.counts.user) (e : get_or s.global_from_user u 0 ≡ 0) where
  last_mappable : Mappable s u
  last_mappable =
      let p = sound_of s h.sound in
      let n = to_map_free s u e in
      let z = p.sizes in
      let w = h.within in
      let r = h.enough in
      record { sound = p; free = e; within = omega arith; mark = omega arith; room = omega arith }

  pub last_asks : (g : ℕ) → g ≡ free_for s.records s.counts.global u → OneAsks s u g at room
  last_asks g q =
      let m = last_mappable in
      let v = (map_one_fresh s u m).within in
      let o = own_free s u in
      let z = m.sound.sizes in
      let b = m.sound.stored.used in
      let w = m.within in
      let r = m.room in
      let t = h.words in
      let x = to_map_free s u e in
      record {
        marked = omega arith;
        place = omega arith;
        row = omega arith;
        within = omega arith;
        used = omega arith;
        global_place = omega arith;
        global_row = omega arith;
        global_within = omega arith;
        words = omega arith;
      }

  -- what it leaves
  pub last_done : (c : Counts) (g : Global) (from next : ℕ) (gu ug rc words words2 : List ℕ) → OneLeft s u at c g from next gu ug rc words words2
      → ((g.0 ≡ (map_user u s).value) × Leaves (map_user u s) at next (table_of c gu ug s.solver_from_global s.global_from_solver s.assignment rc) words
      words2)
      × NoneFree (free rc) c.global from
  last_done c g from next gu ug rc words words2 o =
      let q : c.global ≡ max s.counts.global (g.0 + 1) = ap (λ (d : Counts). d.global) o.counts in
      let r = (last_asks g.0 o.global).global_row in (
        subst (λ (x : Result ℕ). (g.0 ≡ x.value) × Leaves x at next (table_of c gu ug s.solver_from_global s.global_from_solver s.assignment rc)
            words words2)
            (sym (map_here s u e l)) (one_leaves s u at c g from next gu ug rc words words2 o),
        rw o.rows (taken_passed s.records s.counts.global c.global g.0 from r (omega arith) o.cursor),
      )

-- ---- the user itself after its gap

module _ (t : Table) (u at i next : ℕ) (s : Table) (words words' : List ℕ) (h : MapAsks t u at (length words)) (p : Gap t u at i next s words words')
    (l : u ≤ i) where
  -- below the watermark there was no gap
  no_gap : u < t.counts.user → Leaves {A = List ℕ} (stay [] t) at next s words words'
  unfolding fill_gap each
  no_gap k =
      let a = p.low in
      let b = p.high in
      let q : i - t.counts.user ≡ 0 = omega arith in
      subst (λ (n : ℕ). Leaves (fill_gap n t) at next s words words') q p.done

  -- the gap ends at the user
  gap_end : t.counts.user ≤ u → i ≡ u
  gap_end k = let a = p.low in let b = p.high in omega arith

  pub end_asks : MapAsks s u next (length words') × (u ≤ s.counts.user)
  end_asks = ⊎_elim
      (λ (k : u < t.counts.user).
      let d = no_gap k in
      let m = d.moved in
      let n = leaves_length _ _ _ _ _ _ d in
      let w = h.words in
      subst (λ (x : Table). MapAsks x u next (length words') × (u ≤ x.counts.user)) (sym d.table)
      (record { sound = h.sound; within = h.within; enough = h.enough; words = omega arith }, omega arith))
      (λ (k : t.counts.user ≤ u).
      let e = gap_end k in
      let a = (gap_fills t u at _ i next s words words' h p).user in (
        subst (λ (j : ℕ). MapAsks s j next (length words')) e (mark_asks t u at i next s words words' h p k (omega arith)),
        omega arith,
      ))
      (split u t.counts.user)

  pub end_done : (g next2 : ℕ) (s2 : Table) (words2 : List ℕ) → (g ≡ (map_user u s).value) × Leaves (map_user u s) next next2 s2 words' words2
      → (g ≡ (map_user u t).value) × Leaves (map_user u t) at next2 s2 words words2
  end_done g next2 s2 words2 m = ⊎_elim
      (λ (k : u < t.counts.user).
      let d = no_gap k in
      (m.0 ∙ ap (λ (x : Table). (map_user u x).value) d.table, leaves_then (map_user u) d m.1))
      (λ (k : t.counts.user ≤ u).
      let e = gap_end k in
      let f = gap_fills t u at _ i next s words words' h p in
      let a = f.user in
      let q : i - t.counts.user ≡ u - t.counts.user = omega arith in
      let d = subst (λ (n : ℕ). Leaves (fill_gap n t) at next s words words') q p.done in
      let b = subst (λ (x : Result ℕ). (g ≡ x.value) × Leaves x next next2 s2 words' words2)
      (map_here s u (f.sound.user.atail u (omega arith)) (omega arith)) m in
      subst (λ (x : Result ℕ). (g ≡ x.value) × Leaves x at next2 s2 words words2) (sym (map_user_free t u (unmapped t u h.sound k)))
      (b.0 ∙ ap (λ (x : Table). (map_one u x).value) d.table, leaves_then (map_one u) d b.1))
      (split u t.counts.user)

-- ---- on a whole table

pub up_asks : (t : Table) (u at room : ℕ) → MapAsks t u at room
    → UpAsks t.counts.capacity t.counts.user t.counts.global t.counts.used t.global_from_user t.user_from_global t.records u at room
up_asks t u at room h = record { rest = rest_of t; asks = h }

pub up_leaves : (t : Table) (u at : ℕ) (m : Mapped) (c' : Counts) (gu' ug' records' words words' : List ℕ) → MapAsks t u at (length words)
    → UpLeaves t.counts.capacity t.counts.user t.counts.global t.counts.used t.global_from_user t.user_from_global t.records u at
    m gu' ug' records' words words'
    → c' ≡ counts_after t.counts m
    → (m.global.0 ≡ (map_user u t).value)
    × Leaves (map_user u t) at m.at (table_of c' gu' ug' t.solver_from_global t.global_from_solver t.assignment records') words words'
up_leaves t u at m c' gu' ug' records' words words' h l e = rw e (l.with (rest_of t) h)

-- the counts of one mapping, made with 0 for those that it was not lent, with any others
pub one_counts : (capacity users globals used u g n : ℕ) (d : Counts)
    → d ≡ with_used (used + n) (cover_user (record { capacity = capacity; user = users; global = globals; solver = 0; used = used; next = 0 }) u g)
    → (x : Rest) → counts_with capacity d.user d.global d.used x ≡ with_used (used + n) (cover_user (counts_with capacity users globals used x) u g)
one_counts capacity users globals used u g n d e x = λ i. counts_with capacity (e i).user (e i).global (e i).used x

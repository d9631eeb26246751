-- Laws of Map and New user: where a mapping goes, that it keeps a table sound, what it counts and what it leaves alone.
use Prim.Native.Nat.{ℕ, zero, suc, ◌+◌, ◌-◌, ◌<◌, ◌≤◌, max}
use mathlib.Core.Path.{◌≡◌, refl, sym, ap, ◌∙◌, subst}
use mathlib.Core.Bool.{Bool, true, false, ◌||◌}
use mathlib.Core.Logic.{◌≢◌}
use mathlib.Core.List.{List, [], ◌∷◌}
use native.Mathlib.Omega.{arith}
use native.Mathlib.Decide.{dec_lt, ℕ_discrete}
use lib.Dec.{eqb, ltb, leb}
use lib.ListN.{length, get_or, set, length-append}
use lib.Seq.{get_or-set_same, get_or-set_other}
use borrow.Author.Tests.{eq-eqb, ne_eqb, le-leb, lt-leb, leb-true, leb-false, lt-ltb, le-ltb, ltb-false}
use Rattle.base.specs.Choice.{pick}
use Rattle.base.specs.Bounded.{least}
use Rattle.base.proofs.LeastLaws.{Least, least_has}
use Rattle.base.proofs.CountLaws.{count_least, count_more}
use Rattle.scope.specs.Table.{Table, word, record_of, is_deleted, is_undeleted, give_user, undeleted}
use Rattle.scope.specs.Sound.{Sound}
use Rattle.scope.specs.Outcome.{Result, stay, ◌then◌, giving, each}
use Rattle.scope.specs.Map.{global_for, map_one, fill_gap, map_user, next_user, new_user, to_map}
use Rattle.scope.proofs.PairLaws.{free_at, free_most, free_before, no_gap}
use Rattle.scope.proofs.MoveLaws.{stop, reach_one, reach_sound, gives_user}
use Rattle.scope.proofs.ResultLaws.{Good, good_more, word_none, word_some, each_keeps, each_good}

-- ---- the global that is taken

-- it is deleted or at the watermark, and in range
pub record Fresh (t : Table) (u g : ℕ) : Type 0 where
  pub gone : 36 ≤ record_of t g
  pub within : g < t.counts.capacity
  pub mark : u < max t.counts.global (g + 1)

pub fresh : (u : ℕ) (t : Table) → Sound t → u < t.counts.capacity → u ≤ t.counts.global → undeleted t < t.counts.capacity
    → Fresh t u (global_for t u)
unfolding global_for undeleted
fresh u t p hu hw room = go (ℕ_discrete u t.counts.global) (dec_lt (record_of t u) 36)
  where
    k : ℕ
    k = least t.counts.global (λ g. is_deleted (record_of t g))

    q : Least t.counts.global (λ g. is_deleted (record_of t g)) k
    q = least_has t.counts.global (λ g. is_deleted (record_of t g))

    searched : u ≢ t.counts.global → Dec (k < t.counts.global) → Fresh t u k
    searched n (yes l) = record { gone = leb-true 36 (record_of t k) (q.here l); within = let z = p.sizes.globals in omega arith; mark = omega arith }
    searched n (no l) =
        record {
          gone = let e = p.rows.tail k (omega arith) in omega arith;
          within = capped (dec_lt k t.counts.capacity);
          mark = omega arith;
        }
      where
        capped : Dec (k < t.counts.capacity) → k < t.counts.capacity
        capped (yes c) = c
        capped (no c) =
            let h = q.within in
            let e =
            count_least t.counts.capacity t.counts.capacity (is_undeleted t.records) (omega arith)
            (λ i a. lt-ltb (record_of t i) 36 (leb-false 36 (record_of t i) (q.before i (omega arith)))) in
            absurd (omega arith)

    go : Dec (u ≡ t.counts.global) → Dec (record_of t u < 36) → Fresh t u (pick (eqb u t.counts.global || is_deleted (record_of t u)) u k)
    go (yes e) d =
        rw (eq-eqb u t.counts.global e)
        (record { gone = let z = p.rows.tail u (omega arith) in omega arith; within = hu; mark = omega arith })
    go (no n) (no d) =
        rw (ne_eqb u t.counts.global n, le-leb 36 (record_of t u) (omega arith)) (record { gone = omega arith; within = hu; mark = omega arith })
    go (no n) (yes d) = rw (ne_eqb u t.counts.global n, lt-leb 36 (record_of t u) d) (searched n (dec_lt k t.counts.global))

-- a deleted global has no user
pub gone_user : (t : Table) (g : ℕ) → Sound t → 36 ≤ record_of t g → get_or t.user_from_global g 0 ≡ 0
gone_user t g p h = go (ℕ_discrete (get_or t.user_from_global g 0) 0)
  where
    go : Dec (get_or t.user_from_global g 0 ≡ 0) → get_or t.user_from_global g 0 ≡ 0
    go (yes e) = e
    go (no n) = let z = (p.rows.row g).named n in absurd (omega arith)

-- ---- one mapping

-- The conditions under which a user is mapped: it has no global, it is at most at the global watermark, and a global is free.
pub record Mappable (t : Table) (u : ℕ) : Type 0 where
  pub sound : Sound t
  pub free : get_or t.global_from_user u 0 ≡ 0
  pub within : u < t.counts.capacity
  pub mark : u ≤ t.counts.global
  pub room : undeleted t < t.counts.capacity

pub map_one_fresh : (t : Table) (u : ℕ) → Mappable t u → Fresh t u (global_for t u)
map_one_fresh t u m = fresh u t m.sound m.within m.mark m.room

pub map_one_reach : (t : Table) (u : ℕ) → Mappable t u → Good t (map_one u t)
unfolding map_one
map_one_reach t u m =
    let f = map_one_fresh t u m in
    reach_one (gives_user (global_for t u) u 9)
    (record {
      no_global = m.free;
      no_user = gone_user t (global_for t u) m.sound f.gone;
      user = m.within;
      global = f.within;
      mark = f.mark;
      shown = (omega arith, omega arith);
    })
    (omega arith) (λ e n. absurd (n ((m.sound.rows.row (global_for t u)).gone f.gone).2))

pub map_one_sound : (t : Table) (u : ℕ) → Mappable t u → Sound (map_one u t).table
map_one_sound t u m = reach_sound (map_one_reach t u m) m.sound

-- the undeleted globals are one more
pub map_one_undeleted : (t : Table) (u : ℕ) → Mappable t u → undeleted (map_one u t).table ≡ undeleted t + 1
unfolding undeleted map_one give_user
map_one_undeleted t u m =
    let f = map_one_fresh t u m in
    let z = m.sound.sizes in
    let w = f.within in
    let g = global_for t u in
    let e =
    count_more t.counts.capacity (global_for t u) (is_undeleted t.records) (is_undeleted (set t.records (global_for t u) 9)) f.within
    (λ i n. rw (get_or-set_other t.records (global_for t u) i 9 47 n))
    (le-ltb (record_of t (global_for t u)) 36 f.gone)
    (rw (get_or-set_same t.records (global_for t u) 9 47 (omega arith))) in
    omega arith

-- what mapping users leaves alone
pub record SameSolvers (t s : Table) : Type 0 where
  pub capacity : s.counts.capacity ≡ t.counts.capacity
  pub solver : s.counts.solver ≡ t.counts.solver
  pub solver_from_global : s.solver_from_global ≡ t.solver_from_global
  pub global_from_solver : s.global_from_solver ≡ t.global_from_solver
  pub assignment : s.assignment ≡ t.assignment

pub same_solvers : {t s r : Table} → SameSolvers t s → SameSolvers s r → SameSolvers t r
same_solvers a b =
    record {
      capacity = b.capacity ∙ a.capacity;
      solver = b.solver ∙ a.solver;
      solver_from_global = b.solver_from_global ∙ a.solver_from_global;
      global_from_solver = b.global_from_solver ∙ a.global_from_solver;
      assignment = b.assignment ∙ a.assignment;
    }

pub map_one_same : (t : Table) (u : ℕ) → SameSolvers t (map_one u t).table
unfolding map_one give_user
map_one_same t u = record { capacity = refl; solver = refl; solver_from_global = refl; global_from_solver = refl; assignment = refl }

pub map_one_value : (t : Table) (u : ℕ) → (map_one u t).value ≡ global_for t u
unfolding map_one
map_one_value t u = refl

pub map_one_user : (t : Table) (u : ℕ) → (map_one u t).table.counts.user ≡ max t.counts.user (u + 1)
unfolding map_one give_user
map_one_user t u = refl

pub map_one_has : (t : Table) (u : ℕ) → Sound t → u < t.counts.capacity → get_or (map_one u t).table.global_from_user u 0 ≡ (map_one u t).value + 1
unfolding map_one give_user
map_one_has t u p h = get_or-set_same t.global_from_user u (global_for t u + 1) 0 (let z = p.sizes in omega arith)

pub map_one_other : (t : Table) (u v : ℕ) → v ≢ u → get_or (map_one u t).table.global_from_user v 0 ≡ get_or t.global_from_user v 0
unfolding map_one give_user
map_one_other t u v n = get_or-set_other t.global_from_user u v (global_for t u + 1) 0 n

-- the user v has no solver index
unfoldable pub is_ungranted : Table → ℕ → Bool
is_ungranted t v = word true (λ g. eqb (get_or t.solver_from_global g 0) 0) (get_or t.global_from_user v 0)

pub ungranted_free : (t : Table) (v : ℕ) → get_or t.global_from_user v 0 ≡ 0 → is_ungranted t v ≡ true
unfolding is_ungranted
ungranted_free t v e = word_none true (λ g. eqb (get_or t.solver_from_global g 0) 0) _ e

pub ungranted_has : (t : Table) (v g : ℕ) → get_or t.global_from_user v 0 ≡ g + 1 → is_ungranted t v ≡ eqb (get_or t.solver_from_global g 0) 0
unfolding is_ungranted
ungranted_has t v g e = word_some true (λ g. eqb (get_or t.solver_from_global g 0) 0) _ g e

pub ungranted_same : (t s : Table) (v : ℕ) → get_or s.global_from_user v 0 ≡ get_or t.global_from_user v 0 → s.solver_from_global ≡ t.solver_from_global
    → is_ungranted s v ≡ is_ungranted t v
unfolding is_ungranted
ungranted_same t s v a b = rw (a, b)

-- mapping a user grants nobody a solver index, and takes none from anybody
pub map_one_ungranted : (t : Table) (u : ℕ) → Mappable t u → (v : ℕ) → is_ungranted (map_one u t).table v ≡ is_ungranted t v
map_one_ungranted t u m v = go (ℕ_discrete v u)
  where
    go : Dec (v ≡ u) → is_ungranted (map_one u t).table v ≡ is_ungranted t v
    go (yes e) =
        let f = map_one_fresh t u m in
        let h = ap (λ (k : ℕ). get_or (map_one u t).table.global_from_user k 0) e ∙ map_one_has t u m.sound m.within in
        let z = ((m.sound.rows.row (global_for t u)).gone f.gone).2 in
        let w = ap (λ (l : List ℕ). get_or l (global_for t u) 0) (map_one_same t u).solver_from_global ∙ z in
        ungranted_has (map_one u t).table v (global_for t u) (h ∙ ap (λ (k : ℕ). k + 1) (map_one_value t u))
        ∙ eq-eqb (get_or (map_one u t).table.solver_from_global (global_for t u) 0) 0 w
        ∙ sym (ungranted_free t v (ap (λ (k : ℕ). get_or t.global_from_user k 0) e ∙ m.free))
    go (no e) = ungranted_same t (map_one u t).table v (map_one_other t u v e) (map_one_same t u).solver_from_global

-- ---- the gap: i users from the watermark up

abbrev pub gap_step : Table → ℕ → Table → Result (List ℕ)
gap_step t i s = giving (λ g. g ∷ []) (map_one (t.counts.user + i) s)

pub record Filled (t : Table) (i : ℕ) (s : Table) : Type 0 where
  pub sound : Sound s
  pub same : SameSolvers t s
  pub user : s.counts.user ≡ t.counts.user + i
  pub undeleted : undeleted s ≡ undeleted t + i
  pub below : (v : ℕ) → v < t.counts.user → get_or s.global_from_user v 0 ≡ get_or t.global_from_user v 0
  pub filled : (v : ℕ) → t.counts.user ≤ v → v < t.counts.user + i → get_or s.global_from_user v 0 ≢ 0
  pub ungranted : (v : ℕ) → is_ungranted s v ≡ is_ungranted t v

-- there is room for n users from the watermark up
pub record GapRoom (t : Table) (n : ℕ) : Type 0 where
  pub sound : Sound t
  pub within : t.counts.user + n ≤ t.counts.capacity
  pub room : undeleted t + n ≤ t.counts.capacity

gap_mappable : (t : Table) (n i : ℕ) (s : Table) → GapRoom t n → i < n → Filled t i s → Mappable s (t.counts.user + i)
gap_mappable t n i s r l f =
    let e = f.same.capacity in
    let z = f.sound.sizes in
    record {
      sound = f.sound;
      free = f.sound.user.atail (t.counts.user + i) (omega arith);
      within = omega arith;
      mark = omega arith;
      room = omega arith;
    }

gap_step_lem : (t : Table) (n i : ℕ) (s : Table) → GapRoom t n → i < n → Filled t i s → Filled t (i + 1) (gap_step t i s).table
gap_step_lem t n i s r l f =
    let m = gap_mappable t n i s r l f in
    let c = map_one_user s (t.counts.user + i) in
    let d = map_one_undeleted s (t.counts.user + i) m in
    let x = f.user in
    let y = f.undeleted in
    record {
      sound = map_one_sound s (t.counts.user + i) m;
      same = same_solvers f.same (map_one_same s (t.counts.user + i));
      user = omega arith;
      undeleted = omega arith;
      below = λ v h. map_one_other s (t.counts.user + i) v (omega arith) ∙ f.below v h;
      filled = λ v a b. here v a b (ℕ_discrete v (t.counts.user + i));
      ungranted = λ v. map_one_ungranted s (t.counts.user + i) m v ∙ f.ungranted v;
    }
  where
    here : (v : ℕ) → t.counts.user ≤ v → v < t.counts.user + (i + 1) → Dec (v ≡ t.counts.user + i)
        → get_or (map_one (t.counts.user + i) s).table.global_from_user v 0 ≢ 0
    here v a b (yes e) z =
        let m = gap_mappable t n i s r l f in
        let h = map_one_has s (t.counts.user + i) m.sound m.within in
        let w = ap (λ (k : ℕ). get_or (map_one (t.counts.user + i) s).table.global_from_user k 0) e in
        omega arith
    here v a b (no e) z = f.filled v a (omega arith) (sym (map_one_other s (t.counts.user + i) v e) ∙ z)

pub gap_filled : (t : Table) (n : ℕ) → GapRoom t n → (i : ℕ) → i ≤ n → Filled t i (each i (gap_step t) t).table
gap_filled t n r =
    each_keeps (gap_step t) t (Filled t) n
    (record {
      sound = r.sound;
      same = record { capacity = refl; solver = refl; solver_from_global = refl; global_from_solver = refl; assignment = refl };
      user = omega arith;
      undeleted = omega arith;
      below = λ v h. refl;
      filled = λ v a b. absurd (omega arith);
      ungranted = λ v. refl;
    })
    (λ i s l f. gap_step_lem t n i s r l f)

pub fill_gap_filled : (t : Table) (n : ℕ) → GapRoom t n → Filled t n (fill_gap n t).table
unfolding fill_gap
fill_gap_filled t n r = gap_filled t n r n (omega arith)

pub fill_gap_reach : (t : Table) (n : ℕ) → GapRoom t n → Good t (fill_gap n t)
unfolding fill_gap
fill_gap_reach t n r =
    each_good (gap_step t) t (Filled t) n (gap_filled t n r)
    (λ i s l f. map_one_reach s (t.counts.user + i) (gap_mappable t n i s r l f))
    n (omega arith)

pub fill_gap_sound : (t : Table) (n : ℕ) → GapRoom t n → Sound (fill_gap n t).table
fill_gap_sound t n r = (fill_gap_filled t n r).sound

-- a note for each user of the gap
gap_count : (i : ℕ) (t : Table) → length (each i (gap_step t) t).notes ≡ i
unfolding each map_one
gap_count zero t = refl
gap_count (suc i) t =
    let h = gap_count i t in
    length-append (each i (gap_step t) t).notes (map_one (t.counts.user + i) (each i (gap_step t) t).table).notes ∙ omega arith

pub fill_gap_count : (n : ℕ) (t : Table) → length (fill_gap n t).notes ≡ n
unfolding fill_gap
fill_gap_count n t = gap_count n t

-- ---- Map

pub to_map_free : (t : Table) (u : ℕ) → get_or t.global_from_user u 0 ≡ 0 → to_map t u ≡ u - t.counts.user + 1
unfolding to_map
to_map_free t u e = word_none (u - t.counts.user + 1) (λ g. 0) _ e

pub to_map_has : (t : Table) (u g : ℕ) → get_or t.global_from_user u 0 ≡ g + 1 → to_map t u ≡ 0
unfolding to_map
to_map_has t u g e = word_some (u - t.counts.user + 1) (λ g. 0) _ g e

pub map_user_free : (t : Table) (u : ℕ) → get_or t.global_from_user u 0 ≡ 0 → map_user u t ≡ (fill_gap (u - t.counts.user) t then (λ gs. map_one u))
unfolding map_user
map_user_free t u e = word_none (fill_gap (u - t.counts.user) t then (λ gs. map_one u)) (λ g. stay g t) _ e

pub map_user_has : (t : Table) (u g : ℕ) → get_or t.global_from_user u 0 ≡ g + 1 → map_user u t ≡ stay g t
unfolding map_user
map_user_has t u g e = word_some (fill_gap (u - t.counts.user) t then (λ gs. map_one u)) (λ g. stay g t) _ g e

-- the conditions that Map's refusals leave
pub record MapRoom (t : Table) (u : ℕ) : Type 0 where
  pub sound : Sound t
  pub within : u < t.counts.capacity
  pub room : undeleted t + to_map t u ≤ t.counts.capacity

pub map_room_of : (t : Table) (u : ℕ) → Sound t → leb t.counts.capacity u ≡ false → ltb t.counts.capacity (undeleted t + to_map t u) ≡ false
    → MapRoom t u
map_room_of t u p a b =
    record { sound = p; within = leb-false t.counts.capacity u a; room = ltb-false t.counts.capacity (undeleted t + to_map t u) b }

-- what Map comes to
pub record Mapped (t : Table) (u : ℕ) (x : Result ℕ) : Type 0 where
  pub good : Good t x
  pub sound : Sound x.table
  pub same : SameSolvers t x.table
  pub user : x.table.counts.user ≡ max t.counts.user (u + 1)
  pub undeleted : undeleted x.table ≡ undeleted t + to_map t u
  pub has : get_or x.table.global_from_user u 0 ≡ x.value + 1
  pub gap : (v : ℕ) → t.counts.user ≤ v → v < u → get_or x.table.global_from_user v 0 ≢ 0
  pub other : (v : ℕ) → v ≢ u → v < t.counts.user → get_or x.table.global_from_user v 0 ≡ get_or t.global_from_user v 0
  pub ungranted : (v : ℕ) → is_ungranted x.table v ≡ is_ungranted t v
  pub count : length x.notes ≡ to_map t u

-- of a user without global: the gap below it, then itself
pub map_gap_room : (t : Table) (u : ℕ) → MapRoom t u → get_or t.global_from_user u 0 ≡ 0 → GapRoom t (u - t.counts.user)
map_gap_room t u m e =
    let q = to_map_free t u e in
    let z = m.sound.sizes in
    let w = m.within in
    let r = m.room in
    record { sound = m.sound; within = omega arith; room = omega arith }

pub map_last_mappable : (t : Table) (u : ℕ) → MapRoom t u → get_or t.global_from_user u 0 ≡ 0 → Mappable (fill_gap (u - t.counts.user) t).table u
map_last_mappable t u m e =
    let q = to_map_free t u e in
    let w = m.within in
    let r = m.room in
    let f = fill_gap_filled t (u - t.counts.user) (map_gap_room t u m e) in
    let x = f.user in
    let y = f.undeleted in
    let c = f.same.capacity in
    let z = f.sound.sizes in
    record { sound = f.sound; free = free f (dec_lt u t.counts.user); within = omega arith; mark = omega arith; room = omega arith }
  where
    free : Filled t (u - t.counts.user) (fill_gap (u - t.counts.user) t).table → Dec (u < t.counts.user)
        → get_or (fill_gap (u - t.counts.user) t).table.global_from_user u 0 ≡ 0
    free f (yes l) = f.below u l ∙ e
    free f (no n) = let x = f.user in f.sound.user.atail u (omega arith)

map_free_mapped : (t : Table) (u : ℕ) → MapRoom t u → get_or t.global_from_user u 0 ≡ 0
    → Mapped t u (fill_gap (u - t.counts.user) t then (λ gs. map_one u))
unfolding map_one
map_free_mapped t u m e =
    let q = to_map_free t u e in
    let s = (fill_gap (u - t.counts.user) t).table in
    let f = fill_gap_filled t (u - t.counts.user) (map_gap_room t u m e) in
    let k = map_last_mappable t u m e in
    let g = good_more (fill_gap (u - t.counts.user) t).notes (map_one u s).notes (fill_gap_reach t (u - t.counts.user) (map_gap_room t u m e))
    (map_one_reach s u k) in
    let x = f.user in
    let y = f.undeleted in
    let d = map_one_undeleted s u k in
    let c = map_one_user s u in
    record {
      good = g;
      sound = map_one_sound s u k;
      same = same_solvers f.same (map_one_same s u);
      user = omega arith;
      undeleted = omega arith;
      has = map_one_has s u k.sound k.within;
      gap = λ v a b z. f.filled v a (omega arith) (sym (map_one_other s u v (omega arith)) ∙ z);
      other = λ v n b. map_one_other s u v n ∙ f.below v b;
      ungranted = λ v. map_one_ungranted s u k v ∙ f.ungranted v;
      count = length-append (fill_gap (u - t.counts.user) t).notes (map_one u s).notes ∙ omega (arith, fill_gap_count (u - t.counts.user) t);
    }

map_has_mapped : (t : Table) (u g : ℕ) → Sound t → get_or t.global_from_user u 0 ≡ g + 1 → Mapped t u (stay g t)
map_has_mapped t u g p e =
    let q = to_map_has t u g e in
    let l = below_user (dec_lt u t.counts.user) in
    record {
      good = stop;
      sound = p;
      same = record { capacity = refl; solver = refl; solver_from_global = refl; global_from_solver = refl; assignment = refl };
      user = omega arith;
      undeleted = omega arith;
      has = e;
      gap = λ v a b. absurd (omega arith);
      other = λ v n b. refl;
      ungranted = λ v. refl;
      count = sym q;
    }
  where
    below_user : Dec (u < t.counts.user) → u < t.counts.user
    below_user (yes l) = l
    below_user (no n) = let z = p.user.atail u (omega arith) in absurd (omega arith)

pub map_user_mapped : (t : Table) (u : ℕ) → MapRoom t u → Mapped t u (map_user u t)
map_user_mapped t u m = go (get_or t.global_from_user u 0) refl
  where
    go : (w : ℕ) → get_or t.global_from_user u 0 ≡ w → Mapped t u (map_user u t)
    go zero e = subst (λ (x : Result ℕ). Mapped t u x) (sym (map_user_free t u e)) (map_free_mapped t u m e)
    go (suc g) e =
        let q : get_or t.global_from_user u 0 ≡ g + 1 = omega arith in
        subst (λ (x : Result ℕ). Mapped t u x) (sym (map_user_has t u g q)) (map_has_mapped t u g m.sound q)

pub map_user_reach : (t : Table) (u : ℕ) → MapRoom t u → Good t (map_user u t)
map_user_reach t u m = (map_user_mapped t u m).good

pub map_user_sound : (t : Table) (u : ℕ) → MapRoom t u → Sound (map_user u t).table
map_user_sound t u m = (map_user_mapped t u m).sound

-- the count of notes, whether or not there is room
pub map_user_count : (t : Table) (u : ℕ) → length (map_user u t).notes ≡ to_map t u
unfolding map_one
map_user_count t u = go (get_or t.global_from_user u 0) refl
  where
    go : (w : ℕ) → get_or t.global_from_user u 0 ≡ w → length (map_user u t).notes ≡ to_map t u
    go zero e =
        let q = to_map_free t u e in
        let s = (fill_gap (u - t.counts.user) t).table in
        ap (λ (x : Result ℕ). length x.notes) (map_user_free t u e)
        ∙ length-append (fill_gap (u - t.counts.user) t).notes (map_one u s).notes
        ∙ omega (arith, fill_gap_count (u - t.counts.user) t)
    go (suc g) e =
        let q : get_or t.global_from_user u 0 ≡ g + 1 = omega arith in
        ap (λ (x : Result ℕ). length x.notes) (map_user_has t u g q) ∙ sym (to_map_has t u g q)

-- a mapped user's global is below the watermark, and undeleted
pub mapped_global : (t : Table) (u g : ℕ) → Sound t → get_or t.global_from_user u 0 ≡ g + 1 → (record_of t g < 36) × (g < t.counts.global)
mapped_global t u g p e =
    let w = (p.user.inverse u g).0 e in
    let s = (p.rows.row g).named (λ z. omega arith) in
    (s.0, go (dec_lt g t.counts.global))
  where
    go : Dec (g < t.counts.global) → g < t.counts.global
    go (yes l) = l
    go (no n) =
        let w = (p.user.inverse u g).0 e in
        let z = p.user.btail g (omega arith) in
        absurd (omega arith)

-- ---- New user

pub next_user_free : (t : Table) → Sound t → get_or t.global_from_user (next_user t) 0 ≡ 0
unfolding next_user
next_user_free t p = free_at p.user

pub next_user_most : (t : Table) → next_user t ≤ t.counts.user
unfolding next_user
next_user_most t = free_most t.global_from_user t.counts.user

pub next_user_before : (t : Table) (v : ℕ) → v < next_user t → get_or t.global_from_user v 0 ≢ 0
unfolding next_user
next_user_before t v h = free_before t.global_from_user t.counts.user v h

-- it is the only user to be mapped
pub next_user_to_map : (t : Table) → Sound t → to_map t (next_user t) ≡ 1
next_user_to_map t p = let l = next_user_most t in to_map_free t (next_user t) (next_user_free t p) ∙ omega arith

-- User indices never run out first: with every user mapped each global has one, and is undeleted.
pub next_user_within : (t : Table) → Sound t → undeleted t < t.counts.capacity → next_user t < t.counts.capacity
unfolding undeleted
next_user_within t p room = capped (dec_lt (next_user t) t.counts.capacity)
  where
    named : t.counts.capacity ≤ next_user t → (g : ℕ) → g < t.counts.capacity → Dec (get_or t.user_from_global g 0 ≡ 0) → record_of t g < 36
    named c g h (no n) = ((p.rows.row g).named n).0
    named c g h (yes e) =
        let z = p.sizes in
        absurd (no_gap t.counts.capacity g p.user (omega arith) (λ i l. next_user_before t i (omega arith)) h e)

    capped : Dec (next_user t < t.counts.capacity) → next_user t < t.counts.capacity
    capped (yes c) = c
    capped (no c) =
        let e =
        count_least t.counts.capacity t.counts.capacity (is_undeleted t.records) (omega arith)
        (λ g h. lt-ltb (record_of t g) 36 (named (omega arith) g h (ℕ_discrete (get_or t.user_from_global g 0) 0))) in
        absurd (omega arith)

pub new_user_room : (t : Table) → Sound t → undeleted t + 1 ≤ t.counts.capacity → MapRoom t (next_user t)
new_user_room t p h = let q = next_user_to_map t p in record { sound = p; within = next_user_within t p (omega arith); room = omega arith }

pub new_user_reach : (t : Table) → Sound t → undeleted t + 1 ≤ t.counts.capacity → Good t (new_user t)
unfolding new_user
new_user_reach t p h = map_user_reach t (next_user t) (new_user_room t p h)

pub new_user_sound : (t : Table) → Sound t → undeleted t + 1 ≤ t.counts.capacity → Sound (new_user t).table
new_user_sound t p h = reach_sound (new_user_reach t p h) p

-- Laws of Set mode and Observe: that each keeps a table sound, and what it leaves alone.
use Prim.Native.Nat.{ℕ, ◌+◌, ◌-◌, ◌<◌, ◌≤◌}
use mathlib.Core.Path.{◌≡◌, refl, ◌∙◌}
use mathlib.Core.Bool.{true, false}
use mathlib.Core.Logic.{◌≢◌}
use mathlib.Core.List.{List, [], ◌∷◌, ◌++◌}
use native.Mathlib.Omega.{arith}
use native.Mathlib.Decide.{ℕ_discrete}
use lib.Dec.{eqb, ltb}
use lib.ListN.{get_or}
use lib.Seq.{get_or-set_same, get_or-set_other}
use borrow.Author.Tests.{eqb-true, eq-eqb, ne_eqb, ltb-true}
use Rattle.base.specs.Choice.{pick}
use Rattle.base.proofs.BelowLaws.{and_left, and_right}
use Rattle.scope.specs.declared.Counts.{Counts}
use Rattle.scope.specs.Table.{Table, record_of, mode_of, isolated_of, with_mode, give_user, take_user, put_record, drop_global}
use Rattle.scope.specs.Sound.{Sound}
use Rattle.scope.specs.Outcome.{Result, choose, each}
use Rattle.scope.specs.Map.{next_user}
use Rattle.scope.specs.Modes.{is_unused, delete_if_unused, show, hide, change, set_mode, is_hidden, observe_one, observe}
use Rattle.scope.specs.Entries.{Entry, hides}
use Rattle.scope.proofs.PairLaws.{free_below}
use Rattle.scope.proofs.MoveLaws.{deletes_global, gives_user, takes_user, puts_record, tells_mode, hides_again, undeleted_below}
use Rattle.scope.proofs.MoveLaws.{move_sound, Reach, stop, reach_one, reach_then, reach_sound}
use Rattle.scope.proofs.ResultLaws.{Good, entered, by_choose, safe_each, each_keeps}
use Rattle.scope.proofs.MapLaws.{SameSolvers, same_solvers, next_user_free}

-- ---- deletion of an unused global

pub delete_reach : (t : Table) (g : ℕ) → Sound t → record_of t g < 36 → Good t (delete_if_unused g t)
unfolding delete_if_unused is_unused
delete_reach t g p h = by_choose (Good t) _
    (λ e.
    let a = and_left (eqb (get_or t.user_from_global g 0) 0) _ e in
    let bc = and_right (eqb (get_or t.user_from_global g 0) 0) _ e in
    let b = and_left (eqb (get_or t.solver_from_global g 0) 0) _ bc in
    let c = and_right (eqb (get_or t.solver_from_global g 0) 0) _ bc in
    reach_one (deletes_global g)
    (record {
      undeleted = h;
      hidden = nobody (eqb-true (get_or t.user_from_global g 0) 0 a) (ℕ_discrete (mode_of (record_of t g)) 2);
      isolated = eqb-true (isolated_of (record_of t g)) 1 c;
      no_solver = eqb-true (get_or t.solver_from_global g 0) 0 b;
    })
    tt (λ q. tt))
    (λ e. stop)
  where
    nobody : get_or t.user_from_global g 0 ≡ 0 → Dec (mode_of (record_of t g) ≡ 2) → mode_of (record_of t g) ≡ 2
    nobody e (yes q) = q
    nobody e (no q) = absurd ((p.rows.row g).seen (h, q) e)

pub delete_sound : (t : Table) (g : ℕ) → Sound t → record_of t g < 36 → Sound (delete_if_unused g t).table
delete_sound t g p h = reach_sound (delete_reach t g p h) p

-- the capacity and the three watermarks are the same
pub record SameMarks (d c : Counts) : Type 0 where
  pub capacity : d.capacity ≡ c.capacity
  pub user : d.user ≡ c.user
  pub global : d.global ≡ c.global
  pub solver : d.solver ≡ c.solver

pub marks_stay : (c : Counts) → SameMarks c c
marks_stay c = record { capacity = refl; user = refl; global = refl; solver = refl }

pub marks_then : {b c d : Counts} → SameMarks d c → SameMarks c b → SameMarks d b
marks_then x y =
    record { capacity = x.capacity ∙ y.capacity; user = x.user ∙ y.user; global = x.global ∙ y.global; solver = x.solver ∙ y.solver }

-- a change of one record leaves everything else alone
pub record SameButRecord (t : Table) (g : ℕ) (s : Table) : Type 0 where
  pub marks : SameMarks s.counts t.counts
  pub global_from_user : s.global_from_user ≡ t.global_from_user
  pub user_from_global : s.user_from_global ≡ t.user_from_global
  pub solver_from_global : s.solver_from_global ≡ t.solver_from_global
  pub global_from_solver : s.global_from_solver ≡ t.global_from_solver
  pub assignment : s.assignment ≡ t.assignment
  pub records : (k : ℕ) → k ≢ g → record_of s k ≡ record_of t k

pub put_record_same : (t : Table) (g r : ℕ) → SameButRecord t g (put_record g r t)
unfolding put_record
put_record_same t g r =
    record {
      marks = marks_stay t.counts;
      global_from_user = refl;
      user_from_global = refl;
      solver_from_global = refl;
      global_from_solver = refl;
      assignment = refl;
      records = λ k n. get_or-set_other t.records g k r 47 n;
    }

pub stay_same : (t : Table) (g : ℕ) → SameButRecord t g t
stay_same t g =
    record {
      marks = marks_stay t.counts;
      global_from_user = refl;
      user_from_global = refl;
      solver_from_global = refl;
      global_from_solver = refl;
      assignment = refl;
      records = λ k n. refl;
    }

pub drop_same : (t : Table) (g : ℕ) → SameButRecord t g (drop_global g t)
unfolding drop_global
drop_same t g =
    record {
      marks = record { capacity = refl; user = refl; global = refl; solver = refl };
      global_from_user = refl;
      user_from_global = refl;
      solver_from_global = refl;
      global_from_solver = refl;
      assignment = refl;
      records = λ k n. get_or-set_other t.records g k (record_of t g + 36) 47 n;
    }

pub delete_same : (t : Table) (g : ℕ) → SameButRecord t g (delete_if_unused g t).table
unfolding delete_if_unused
delete_same t g =
    by_choose (λ (x : Result (List ℕ)). SameButRecord t g x.table) _ (λ e. drop_same t g) (λ e. stay_same t g)

-- ---- the three changes of a mode

-- a hidden global has no user
pub hidden_user : (t : Table) (g : ℕ) → Sound t → mode_of (record_of t g) ≡ 2 → get_or t.user_from_global g 0 ≡ 0
hidden_user t g p q = go (ℕ_discrete (get_or t.user_from_global g 0) 0)
  where
    go : Dec (get_or t.user_from_global g 0 ≡ 0) → get_or t.user_from_global g 0 ≡ 0
    go (yes e) = e
    go (no n) = absurd (((p.rows.row g).named n).1 q)

-- User indices never run out first: with a hidden global, the least free one is below the global watermark.
pub next_user_below : (t : Table) (g : ℕ) → Sound t → record_of t g < 36 → mode_of (record_of t g) ≡ 2 → next_user t < t.counts.global
unfolding next_user
next_user_below t g p h q = free_below g p.user (undeleted_below t g p h) (hidden_user t g p q)

pub show_reach : (t : Table) (g m : ℕ) → Sound t → record_of t g < 36 → mode_of (record_of t g) ≡ 2 → m < 2 → Good t (show g m t)
unfolding show
show_reach t g m p h q k =
    let b = next_user_below t g p h q in
    let gg = undeleted_below t g p h in
    let z = p.sizes in
    reach_then (reach_one {t = t} (tells_mode g (eqb m 0)) tt tt (λ e. tt))
    (reach_one (gives_user g (next_user t) (with_mode (record_of t g) m))
    (record {
      no_global = next_user_free t p;
      no_user = hidden_user t g p q;
      user = omega arith;
      global = omega arith;
      mark = omega arith;
      shown = (omega arith, omega arith);
    })
    (omega arith) (λ e n. omega arith))

pub show_sound : (t : Table) (g m : ℕ) → Sound t → record_of t g < 36 → mode_of (record_of t g) ≡ 2 → m < 2 → Sound (show g m t).table
show_sound t g m p h q k = reach_sound (show_reach t g m p h q k) p

pub change_reach : (t : Table) (g m : ℕ) → Sound t → record_of t g < 36 → mode_of (record_of t g) ≢ 2 → m < 2 → Good t (change g m t)
unfolding change
change_reach t g m p h q k =
    reach_then (reach_one {t = t} (tells_mode g (eqb m 0)) tt tt (λ e. tt))
    (reach_one (puts_record g (with_mode (record_of t g) m)) (record { old = h; new = omega arith; to = λ n. q; from = λ n. omega arith })
    (λ z. omega arith) (λ e. omega arith))

pub change_sound : (t : Table) (g m : ℕ) → Sound t → record_of t g < 36 → mode_of (record_of t g) ≢ 2 → m < 2 → Sound (change g m t).table
change_sound t g m p h q k = reach_sound (change_reach t g m p h q k) p

-- A call that hides what is shown enters that it does, before its notes.
pub hide_reach : (t : Table) (g : ℕ) → Sound t → record_of t g < 36 → mode_of (record_of t g) ≢ 2
    → Reach t (hides g ∷ entered (hide g t).notes) (hide g t).table
unfolding hide take_user
hide_reach t g p h n =
    let m = (p.rows.row g).seen (h, n) in
    let z = p.sizes in
    let gg = undeleted_below t g p h in
    let u = get_or t.user_from_global g 0 - 1 in
    let r =
    reach_one {b = false} {t = t} (takes_user g u (with_mode (record_of t g) 2)) (record { has = omega arith; undeleted = omega arith; hidden = omega arith })
    (omega arith) (λ e. omega arith) in
    reach_then r
    (delete_reach (take_user g u (with_mode (record_of t g) 2) t) g (reach_sound r p)
    (rw (get_or-set_same t.records g (with_mode (record_of t g) 2) 47 (omega arith)) (omega arith)))

pub hide_sound : (t : Table) (g : ℕ) → Sound t → record_of t g < 36 → mode_of (record_of t g) ≢ 2 → Sound (hide g t).table
hide_sound t g p h n = reach_sound (hide_reach t g p h n) p

-- the table between: the user is withdrawn
pub hide_take_sound : (t : Table) (g : ℕ) → Sound t → record_of t g < 36 → mode_of (record_of t g) ≢ 2
    → Sound (take_user g (get_or t.user_from_global g 0 - 1) (with_mode (record_of t g) 2) t)
hide_take_sound t g p h n =
    let m = (p.rows.row g).seen (h, n) in
    move_sound (takes_user g (get_or t.user_from_global g 0 - 1) (with_mode (record_of t g) 2)) t p
    (record { has = omega arith; undeleted = omega arith; hidden = omega arith })

-- ---- Set mode

-- what a ledger enters of an accepted Set mode beside its notes
abbrev pub hiding : ℕ → ℕ → List Entry
hiding g m = pick (eqb m 2) (hides g ∷ []) []

pub set_mode_reach : (t : Table) (g m : ℕ) → Sound t → record_of t g < 36 → m < 3
    → Reach t (hiding g m ++ entered (set_mode g m t).notes) (set_mode g m t).table
unfolding set_mode choose
set_mode_reach t g m p h k = go (ℕ_discrete (mode_of (record_of t g)) m) (ℕ_discrete m 2) (ℕ_discrete (mode_of (record_of t g)) 2)
  where
    go : Dec (mode_of (record_of t g) ≡ m) → Dec (m ≡ 2) → Dec (mode_of (record_of t g) ≡ 2)
        → Reach t (hiding g m ++ entered (set_mode g m t).notes) (set_mode g m t).table
    go (yes e) (yes q) d = rw (eq-eqb (mode_of (record_of t g)) m e, eq-eqb m 2 q) (reach_one (hides_again g) (λ z. z.1 (e ∙ q)) tt (λ z. tt))
    go (yes e) (no q) d = rw (eq-eqb (mode_of (record_of t g)) m e, ne_eqb m 2 q) stop
    go (no e) (yes q) d = rw (ne_eqb (mode_of (record_of t g)) m e, eq-eqb m 2 q) (hide_reach t g p h (λ z. e (omega arith)))
    go (no e) (no q) (yes d) =
        rw (ne_eqb (mode_of (record_of t g)) m e, ne_eqb m 2 q, eq-eqb (mode_of (record_of t g)) 2 d) (show_reach t g m p h d (omega arith))
    go (no e) (no q) (no d) =
        rw (ne_eqb (mode_of (record_of t g)) m e, ne_eqb m 2 q, ne_eqb (mode_of (record_of t g)) 2 d) (change_reach t g m p h d (omega arith))

pub set_mode_sound : (t : Table) (g m : ℕ) → Sound t → record_of t g < 36 → m < 3 → Sound (set_mode g m t).table
set_mode_sound t g m p h k = reach_sound (set_mode_reach t g m p h k) p

-- ---- Observe

pub hidden_of : (r : ℕ) → is_hidden r ≡ true → (r < 36) × (mode_of r ≡ 2)
unfolding is_hidden
hidden_of r e = (ltb-true r 36 (and_left (ltb r 36) _ e), eqb-true (mode_of r) 2 (and_right (ltb r 36) _ e))

pub observe_one_reach : (t : Table) (g : ℕ) → Sound t → Good t (observe_one g t)
unfolding observe_one
observe_one_reach t g p =
    by_choose (Good t) _ (λ e. let h = hidden_of (record_of t g) e in show_reach t g 1 p h.0 h.1 (omega arith)) (λ e. stop)

pub observe_one_sound : (t : Table) (g : ℕ) → Sound t → Sound (observe_one g t).table
observe_one_sound t g p = reach_sound (observe_one_reach t g p) p

pub observe_reach : (t : Table) → Sound t → Good t (observe t)
unfolding observe
observe_reach t p = safe_each observe_one (λ g s q. observe_one_reach s g q) t.counts.global t p

pub observe_sound : (t : Table) → Sound t → Sound (observe t).table
observe_sound t p = reach_sound (observe_reach t p) p

-- after i turns: sound, the solver side and the watermark as they were, and the records from i up
pub record Observed (t : Table) (i : ℕ) (s : Table) : Type 0 where
  pub sound : Sound s
  pub same : SameSolvers t s
  pub global : s.counts.global ≡ t.counts.global
  pub records : (k : ℕ) → i ≤ k → record_of s k ≡ record_of t k

show_same : (t : Table) (g m : ℕ) → SameSolvers t (show g m t).table
unfolding show give_user
show_same t g m = record { capacity = refl; solver = refl; solver_from_global = refl; global_from_solver = refl; assignment = refl }

show_global : (t : Table) (g m : ℕ) → g < t.counts.global → (show g m t).table.counts.global ≡ t.counts.global
unfolding show give_user
show_global t g m h = omega arith

pub show_records : (t : Table) (g m k : ℕ) → k ≢ g → record_of (show g m t).table k ≡ record_of t k
unfolding show give_user
show_records t g m k n = get_or-set_other t.records g k (with_mode (record_of t g) m) 47 n

observe_one_passed : (t : Table) (i : ℕ) (s : Table) → Observed t i s → Observed t (i + 1) (observe_one i s).table
unfolding observe_one
observe_one_passed t i s o = by_choose (λ (x : Result (List ℕ)). Observed t (i + 1) x.table) _
    (λ e.
    let h = hidden_of (record_of s i) e in
    record {
      sound = show_sound s i 1 o.sound h.0 h.1 (omega arith);
      same = same_solvers o.same (show_same s i 1);
      global = show_global s i 1 (undeleted_below s i o.sound h.0) ∙ o.global;
      records = λ k l. show_records s i 1 k (omega arith) ∙ o.records k (omega arith);
    })
    (λ e. record { sound = o.sound; same = o.same; global = o.global; records = λ k l. o.records k (omega arith) })

pub observe_passed : (t : Table) → Sound t → (i : ℕ) → Observed t i (each i observe_one t).table
observe_passed t p i =
    each_keeps observe_one t (Observed t) i
    (record {
      sound = p;
      same = record { capacity = refl; solver = refl; solver_from_global = refl; global_from_solver = refl; assignment = refl };
      global = refl;
      records = λ k l. refl;
    })
    (λ j s l o. observe_one_passed t j s o)
    i (omega arith)

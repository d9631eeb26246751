-- Moves, a device of the proofs: the single changes of a table of which every operation is made, each with what a ledger enters of it and
-- when it is allowed. An allowed move keeps a table sound; so an operation that is a path of allowed moves does. A path also leaves no assumed global
-- without a solver index; and unless it is one of Released, it leaves a solver index with its assumed global.
use Prim.Native.Nat.{ℕ, ◌+◌, ◌-◌, ◌<◌, ◌≤◌, max}
use mathlib.Core.Path.{◌≡◌, refl, sym, ap, ◌∙◌, subst}
use mathlib.Core.Bool.{Bool, false}
use mathlib.Core.Logic.{◌≢◌}
use mathlib.Core.List.{List, [], ◌∷◌, ◌++◌, append_assoc, append-nil}
use native.Mathlib.Omega.{arith}
use native.Mathlib.Decide.{dec_lt, ℕ_discrete}
use lib.ListN.{get_or, length, length-set, set}
use lib.Seq.{get_or-set_same, get_or-set_other}
use Rattle.base.specs.Choice.{pick}
use Rattle.base.specs.Bounded.{count}
use Rattle.scope.specs.Table.{Table, record_of, mode_of, unit_of, isolated_of, assumed_of, is_deleted, is_undeleted, undeleted, next_solver, least_free}
use Rattle.scope.specs.Table.{table_of, with_used, give_user, take_user, give_solver, take_solver, put_record, put_value, drop_global}
use Rattle.scope.specs.Sound.{Shown, Row, Sound}
use Rattle.scope.specs.Notes.{user+, user-, solver+, solver-, deletes, changes}
use Rattle.scope.specs.Entries.{Entry, noted, hides}
use Rattle.base.proofs.CountLaws.{count_most}
use Rattle.scope.proofs.PairLaws.{pair_link, pair_cut, pair_grow, pair_flip, below_mark, off_set, off_same, rows_at, values_put}
use Rattle.scope.proofs.StoredLaws.{count_kept, count_given, count_dropped, count_one}

pub data Move : Type 0 where
  gives_user : (g u r : ℕ) → Move
  takes_user : (g u r : ℕ) → Move
  gives_solver : (g s : ℕ) → Move
  takes_solver : (g s : ℕ) → Move
  puts_record : (g r : ℕ) → Move
  deletes_global : (g : ℕ) → Move
  puts_value : (s v : ℕ) → Move
  -- no change: a note C
  tells_mode : (g : ℕ) (sample : Bool) → Move
  -- no change: a call that hides what is hidden
  hides_again : (g : ℕ) → Move

abbrev pub apply : Move → Table → Table
apply (gives_user g u r) t = give_user g u r t
apply (takes_user g u r) t = take_user g u r t
apply (gives_solver g s) t = give_solver g s t
apply (takes_solver g s) t = take_solver g s t
apply (puts_record g r) t = put_record g r t
apply (deletes_global g) t = drop_global g t
apply (puts_value s v) t = put_value s v t
apply (tells_mode g sample) t = t
apply (hides_again g) t = t

abbrev pub entries : Move → List Entry
entries (gives_user g u r) = noted (user+ g u) ∷ []
entries (takes_user g u r) = hides g ∷ noted (user- g) ∷ []
entries (gives_solver g s) = noted (solver+ g s) ∷ []
entries (takes_solver g s) = noted (solver- g) ∷ []
entries (puts_record g r) = []
entries (deletes_global g) = noted (deletes g) ∷ []
entries (puts_value s v) = []
entries (tells_mode g sample) = noted (changes g sample) ∷ []
entries (hides_again g) = hides g ∷ []

-- ---- when a move is allowed

pub record GivesUser (t : Table) (g u r : ℕ) : Type 0 where
  pub no_global : get_or t.global_from_user u 0 ≡ 0
  pub no_user : get_or t.user_from_global g 0 ≡ 0
  pub user : u < t.counts.capacity
  pub global : g < t.counts.capacity
  pub mark : u < max t.counts.global (g + 1)
  pub shown : Shown r

pub record TakesUser (t : Table) (g u r : ℕ) : Type 0 where
  pub has : get_or t.user_from_global g 0 ≡ u + 1
  pub undeleted : r < 36
  pub hidden : mode_of r ≡ 2

pub record GivesSolver (t : Table) (g s : ℕ) : Type 0 where
  pub no_solver : get_or t.solver_from_global g 0 ≡ 0
  pub no_global : get_or t.global_from_solver s 0 ≡ 0
  pub undeleted : record_of t g < 36
  pub mark : s < t.counts.global

pub record PutsRecord (t : Table) (g r : ℕ) : Type 0 where
  pub old : record_of t g < 36
  pub new : r < 36
  pub to : mode_of r ≢ 2 → mode_of (record_of t g) ≢ 2
  pub from : mode_of (record_of t g) ≢ 2 → mode_of r ≢ 2

pub record DeletesGlobal (t : Table) (g : ℕ) : Type 0 where
  pub undeleted : record_of t g < 36
  pub hidden : mode_of (record_of t g) ≡ 2
  pub isolated : isolated_of (record_of t g) ≡ 1
  pub no_solver : get_or t.solver_from_global g 0 ≡ 0

abbrev pub Legal : Move → Table → Type 0
Legal (gives_user g u r) t = GivesUser t g u r
Legal (takes_user g u r) t = TakesUser t g u r
Legal (gives_solver g s) t = GivesSolver t g s
Legal (takes_solver g s) t = get_or t.solver_from_global g 0 ≡ s + 1
Legal (puts_record g r) t = PutsRecord t g r
Legal (deletes_global g) t = DeletesGlobal t g
Legal (puts_value s v) t = (s < t.counts.solver) × (v ≤ 2)
Legal (tells_mode g sample) t = Unit {0}
Legal (hides_again g) t = ¬ (Shown (record_of t g))

-- No solver index is taken from an assumed global, and no global becomes assumed without holding one.
abbrev pub KeepsIndex : Move → Table → Type 0
KeepsIndex (gives_user g u r) t = assumed_of r ≤ assumed_of (record_of t g)
KeepsIndex (takes_user g u r) t = assumed_of r ≤ assumed_of (record_of t g)
KeepsIndex (gives_solver g s) t = Unit {0}
KeepsIndex (takes_solver g s) t = assumed_of (record_of t g) ≡ 0
KeepsIndex (puts_record g r) t = get_or t.solver_from_global g 0 ≡ 0 → assumed_of r ≤ assumed_of (record_of t g)
KeepsIndex (deletes_global g) t = Unit {0}
KeepsIndex (puts_value s v) t = Unit {0}
KeepsIndex (tells_mode g sample) t = Unit {0}
KeepsIndex (hides_again g) t = Unit {0}

-- No global that holds a solver index ceases to be assumed; of a record that is put, or a user that is taken, it is asked whether one is held or not.
abbrev pub KeepsAssumed : Move → Table → Type 0
KeepsAssumed (gives_user g u r) t = get_or t.solver_from_global g 0 ≢ 0 → assumed_of (record_of t g) ≤ assumed_of r
KeepsAssumed (takes_user g u r) t = assumed_of (record_of t g) ≤ assumed_of r
KeepsAssumed (gives_solver g s) t = Unit {0}
KeepsAssumed (takes_solver g s) t = Unit {0}
KeepsAssumed (puts_record g r) t = assumed_of (record_of t g) ≤ assumed_of r
KeepsAssumed (deletes_global g) t = Unit {0}
KeepsAssumed (puts_value s v) t = Unit {0}
KeepsAssumed (tells_mode g sample) t = Unit {0}
KeepsAssumed (hides_again g) t = Unit {0}

-- an undeleted global is below the watermark
pub undeleted_below : (t : Table) (g : ℕ) → Sound t → record_of t g < 36 → g < t.counts.global
undeleted_below t g p h = go (dec_lt g t.counts.global)
  where
    go : Dec (g < t.counts.global) → g < t.counts.global
    go (yes l) = l
    go (no n) = let z = p.rows.tail g (omega arith) in absurd (omega arith)

-- and it is counted
pub used_some : (t : Table) (g : ℕ) → Sound t → record_of t g < 36 → 1 ≤ t.counts.used
unfolding undeleted
used_some t g h u =
    let z = h.sizes in
    let k = undeleted_below t g h u in
    let e = h.stored.used in
    let n = count_one t.counts.capacity t.records g (omega arith) (omega arith) u in
    omega arith

-- there are at most as many as the capacity, and the stored index is the least free one
pub undeleted_most : (t : Table) → undeleted t ≤ t.counts.capacity
unfolding undeleted
undeleted_most t = count_most t.counts.capacity _

pub used_most : (t : Table) → Sound t → t.counts.used ≤ t.counts.capacity
used_most t p = let e = p.stored.used in let m = undeleted_most t in omega arith

pub next_least : (t : Table) → Sound t → t.counts.next ≡ least_free t.global_from_solver t.counts.solver
unfolding next_solver
next_least t p = p.stored.next

-- ---- an allowed move keeps a table sound

row_shown : (r u s : ℕ) → Shown r → Row r (u + 1) s
row_shown r u s h = omega arith

row_hidden : (r s : ℕ) → r < 36 → mode_of r ≡ 2 → Row r 0 s
row_hidden r s h k = omega arith

row_solver : (r u s s' : ℕ) → r < 36 → Row r u s → Row r u s'
row_solver r u s s' h w = record { small = w.small; named = w.named; seen = w.seen; gone = λ k. absurd (omega arith) }

row_record : (r r' u s : ℕ) → r < 36 → r' < 36 → (mode_of r' ≢ 2 → mode_of r ≢ 2) → (mode_of r ≢ 2 → mode_of r' ≢ 2) → Row r u s → Row r' u s
row_record r r' u s h k a b w =
    record { small = omega arith; named = λ n. (k, b (w.named n).1); seen = λ v. w.seen (h, a v.1); gone = λ d. absurd (omega arith) }

row_drop : (r u : ℕ) → r < 36 → mode_of r ≡ 2 → isolated_of r ≡ 1 → Row r u 0 → Row (r + 36) u 0
row_drop r u h k i w =
    record {
      small = omega arith;
      named = λ n. absurd ((w.named n).1 k);
      seen = λ v. absurd (omega arith);
      gone = λ d. (omega arith, omega arith, refl);
    }

give_user_sound : (t : Table) (g u r : ℕ) → Sound t → GivesUser t g u r → Sound (give_user g u r t)
unfolding give_user undeleted next_solver
give_user_sound t g u r p l =
    let z = p.sizes in
    let hu : u < length t.global_from_user = rw z.global_from_user l.user in
    let hg : g < length t.user_from_global = rw z.user_from_global l.global in
    let hr : g < length t.records = rw z.records l.global in
    record {
      sizes = omega (arith, length-set t.global_from_user u (g + 1), length-set t.user_from_global g (u + 1), length-set t.records g r);
      user = pair_link (max t.counts.user (u + 1)) (max t.counts.global (g + 1)) u g p.user hu hg l.no_global l.no_user (omega arith)
          (omega arith) (omega arith) (omega arith);
      solver = pair_grow (max t.counts.global (g + 1)) p.solver (omega arith);
      rows =
          rows_at (max t.counts.global (g + 1)) g p.rows (off_set 47 g r t.records) (off_set 0 g (u + 1) t.user_from_global)
          (off_same 0 g t.solver_from_global) (omega arith) (omega arith)
          (rw (get_or-set_same t.records g r 47 hr, get_or-set_same t.user_from_global g (u + 1) 0 hg)
          (row_shown r u (get_or t.solver_from_global g 0) l.shown));
      values = p.values;
      stored = record {
        used = ap (λ (n : ℕ). n + pick (is_deleted (record_of t g)) 1 0) p.stored.used
            ∙ count_given t.counts.capacity t.records g r l.global hr l.shown.0;
        next = p.stored.next;
      };
    }

take_user_sound : (t : Table) (g u r : ℕ) → Sound t → TakesUser t g u r → Sound (take_user g u r t)
unfolding take_user undeleted next_solver
take_user_sound t g u r p l =
    let z = p.sizes in
    let e : get_or t.global_from_user u 0 ≡ g + 1 = (p.user.inverse u g).1 l.has in
    let gg : g < t.counts.global = below_mark g u (pair_flip p.user) l.has in
    let uu : u < t.counts.user = below_mark u g p.user e in
    let hu : u < length t.global_from_user = rw z.global_from_user (omega arith) in
    let hg : g < length t.user_from_global = rw z.user_from_global (omega arith) in
    let hr : g < length t.records = rw z.records (omega arith) in
    record {
      sizes = omega (arith, length-set t.global_from_user u 0, length-set t.user_from_global g 0, length-set t.records g r);
      user = pair_cut u g p.user hu hg e;
      solver = p.solver;
      rows =
          rows_at t.counts.global g p.rows (off_set 47 g r t.records) (off_set 0 g 0 t.user_from_global) (off_same 0 g t.solver_from_global)
          (omega arith) gg
          (rw (get_or-set_same t.records g r 47 hr, get_or-set_same t.user_from_global g 0 0 hg)
          (row_hidden r (get_or t.solver_from_global g 0) l.undeleted l.hidden));
      values = p.values;
      stored = record {
        used = p.stored.used ∙ count_kept t.counts.capacity t.records g r hr ((p.rows.row g).named (λ q. omega (arith, l.has))).0 l.undeleted;
        next = p.stored.next;
      };
    }

give_solver_sound : (t : Table) (g s : ℕ) → Sound t → GivesSolver t g s → Sound (give_solver g s t)
unfolding give_solver undeleted next_solver
give_solver_sound t g s p l =
    let z = p.sizes in
    let gg : g < t.counts.global = undeleted_below t g p l.undeleted in
    let m = l.mark in
    let hs : s < length t.global_from_solver = rw z.global_from_solver (omega arith) in
    let hg : g < length t.solver_from_global = rw z.solver_from_global (omega arith) in
    let ha : s < length t.assignment = rw z.assignment (omega arith) in
    record {
      sizes = omega (
        arith,
        length-set t.solver_from_global g (s + 1),
        length-set t.global_from_solver s (g + 1),
        length-set t.assignment s
            (unit_of (record_of t g)),
      );
      user = pair_grow (max t.counts.global (g + 1)) p.user (omega arith);
      solver = pair_link (max t.counts.solver (s + 1)) (max t.counts.global (g + 1)) s g p.solver hs hg l.no_global l.no_solver (omega arith)
          (omega arith) (omega arith) (omega arith);
      rows =
          rows_at (max t.counts.global (g + 1)) g p.rows (off_same 47 g t.records) (off_same 0 g t.user_from_global)
          (off_set 0 g (s + 1) t.solver_from_global) (omega arith) (omega arith)
          (row_solver (record_of t g) (get_or t.user_from_global g 0) (get_or t.solver_from_global g 0) (get_or (set t.solver_from_global g (s + 1)) g 0)
          l.undeleted (p.rows.row g));
      values = values_put (max t.counts.solver (s + 1)) s (unit_of (record_of t g)) p.values ha (omega arith) (omega arith) (omega arith);
      stored = record { used = p.stored.used; next = refl };
    }

take_solver_sound : (t : Table) (g s : ℕ) → Sound t → get_or t.solver_from_global g 0 ≡ s + 1 → Sound (take_solver g s t)
unfolding take_solver undeleted next_solver
take_solver_sound t g s p l =
    let z = p.sizes in
    let e : get_or t.global_from_solver s 0 ≡ g + 1 = (p.solver.inverse s g).1 l in
    let gg : g < t.counts.global = below_mark g s (pair_flip p.solver) l in
    let ss : s < t.counts.solver = below_mark s g p.solver e in
    let hs : s < length t.global_from_solver = rw z.global_from_solver (omega arith) in
    let hg : g < length t.solver_from_global = rw z.solver_from_global (omega arith) in
    let w = p.rows.row g in
    record {
      sizes = omega (arith, length-set t.solver_from_global g 0, length-set t.global_from_solver s 0);
      user = p.user;
      solver = pair_cut s g p.solver hs hg e;
      rows =
          rows_at t.counts.global g p.rows (off_same 47 g t.records) (off_same 0 g t.user_from_global) (off_set 0 g 0 t.solver_from_global)
          (omega arith) gg
          (rw (get_or-set_same t.solver_from_global g 0 0 hg)
          (record { small = w.small; named = w.named; seen = w.seen; gone = λ d. ((w.gone d).0, (w.gone d).1, refl) }));
      values = p.values;
      stored = record { used = p.stored.used; next = refl };
    }

-- the table with another record of g and another number of undeleted globals
abbrev recorded : Table → ℕ → ℕ → ℕ → Table
recorded t g r n =
    table_of
    (with_used n t.counts)
    t.global_from_user
    t.user_from_global
    t.solver_from_global
    t.global_from_solver
    t.assignment
    (set t.records g r)

-- a record with which the global's row still agrees, and the stored number with the recount
record_sound : (t : Table) (g r n : ℕ) → Sound t → g < t.counts.global → Row r (get_or t.user_from_global g 0) (get_or t.solver_from_global g 0)
    → n ≡ count t.counts.capacity (is_undeleted (set t.records g r)) → Sound (recorded t g r n)
unfolding undeleted next_solver
record_sound t g r n p gg w e =
    let z = p.sizes in
    let hr : g < length t.records = rw z.records (omega arith) in
    record {
      sizes = omega (arith, length-set t.records g r);
      user = p.user;
      solver = p.solver;
      rows =
          rows_at t.counts.global g p.rows (off_set 47 g r t.records) (off_same 0 g t.user_from_global) (off_same 0 g t.solver_from_global)
          (omega arith) gg
          (rw (get_or-set_same t.records g r 47 hr) w);
      values = p.values;
      stored = record { used = e; next = p.stored.next };
    }

put_record_sound : (t : Table) (g r : ℕ) → Sound t → PutsRecord t g r → Sound (put_record g r t)
unfolding put_record undeleted
put_record_sound t g r p l =
    let b = undeleted_below t g p l.old in
    record_sound t g r t.counts.used p b
    (row_record (record_of t g) r (get_or t.user_from_global g 0) (get_or t.solver_from_global g 0) l.old l.new l.to l.from (p.rows.row g))
    (p.stored.used ∙ count_kept t.counts.capacity t.records g r (omega (arith, p.sizes)) l.old l.new)

drop_sound : (t : Table) (g : ℕ) → Sound t → DeletesGlobal t g → Sound (drop_global g t)
unfolding drop_global undeleted
drop_sound t g p l =
    let b = undeleted_below t g p l.undeleted in
    record_sound t g (record_of t g + 36) (t.counts.used - 1) p b
    (rw l.no_solver (row_drop (record_of t g) (get_or t.user_from_global g 0) l.undeleted l.hidden l.isolated (rw l.no_solver at (p.rows.row g))))
    (ap (λ (n : ℕ). n - 1) p.stored.used
    ∙ count_dropped t.counts.capacity t.records g (record_of t g + 36) (omega (arith, p.sizes)) (omega (arith, p.sizes)) l.undeleted (omega arith))

put_value_sound : (t : Table) (s v : ℕ) → Sound t → s < t.counts.solver → v ≤ 2 → Sound (put_value s v t)
unfolding put_value undeleted next_solver
put_value_sound t s v p h k =
    let z = p.sizes in
    record {
      sizes = omega (arith, length-set t.assignment s v);
      user = p.user;
      solver = p.solver;
      rows = p.rows;
      values = values_put t.counts.solver s v p.values (rw z.assignment (omega arith)) (omega arith) h k;
      stored = record { used = p.stored.used; next = p.stored.next };
    }

pub move_sound : (m : Move) (t : Table) → Sound t → Legal m t → Sound (apply m t)
move_sound (gives_user g u r) t p l = give_user_sound t g u r p l
move_sound (takes_user g u r) t p l = take_user_sound t g u r p l
move_sound (gives_solver g s) t p l = give_solver_sound t g s p l
move_sound (takes_solver g s) t p l = take_solver_sound t g s p l
move_sound (puts_record g r) t p l = put_record_sound t g r p l
move_sound (deletes_global g) t p l = drop_sound t g p l
move_sound (puts_value s v) t p l = put_value_sound t s v p l.0 l.1
move_sound (tells_mode g sample) t p l = p
move_sound (hides_again g) t p l = p

-- ---- an allowed move that keeps both leaves an index with its assumed global

-- solver index s is held by g, which is assumed
pub record HoldsAssumed (t : Table) (g s : ℕ) : Type 0 where
  pub held : get_or t.global_from_solver s 0 ≡ g + 1
  pub assumed : assumed_of (record_of t g) ≡ 1

-- a record put at h
pub put_assumed : (t : Table) (h r g : ℕ) → Sound t → h < t.counts.capacity → assumed_of (record_of t g) ≡ 1 → (h ≡ g → assumed_of (record_of t g) ≤ assumed_of r)
    → assumed_of (get_or (set t.records h r) g 47) ≡ 1
put_assumed t h r g p l a k = go (ℕ_discrete g h)
  where
    go : Dec (g ≡ h) → assumed_of (get_or (set t.records h r) g 47) ≡ 1
    go (yes e) = let m = k (sym e) in rw (e, get_or-set_same t.records h r 47 (rw p.sizes.records l)) (omega arith)
    go (no n) = rw (get_or-set_other t.records h g r 47 n) a

take_assumes : (t : Table) (h i g s : ℕ) → Sound t → get_or t.solver_from_global h 0 ≡ i + 1 → assumed_of (record_of t h) ≡ 0 → HoldsAssumed t g s
    → HoldsAssumed (take_solver h i t) g s
unfolding take_solver
take_assumes t h i g s p l f a =
    let v = (p.solver.inverse i h).1 l in
    let c = a.held in
    let other : s ≢ i = λ e.
    let q = ap (λ (j : ℕ). get_or t.global_from_solver j 0) e in
    let z : h ≡ g = omega arith in
    let y : assumed_of (record_of t g) ≡ 0 = rw z at f in
    let x = a.assumed in
    omega arith in
    record { held = get_or-set_other t.global_from_solver i s 0 0 other ∙ c; assumed = a.assumed }

give_assumes : (t : Table) (h i g s : ℕ) → GivesSolver t h i → HoldsAssumed t g s → HoldsAssumed (give_solver h i t) g s
unfolding give_solver
give_assumes t h i g s l a =
    let n = l.no_global in
    let c = a.held in
    let other : s ≢ i = λ e. let q = ap (λ (j : ℕ). get_or t.global_from_solver j 0) e in omega arith in
    record { held = get_or-set_other t.global_from_solver i s (h + 1) 0 other ∙ c; assumed = a.assumed }

drop_assumes : (t : Table) (h g s : ℕ) → Sound t → DeletesGlobal t h → HoldsAssumed t g s → HoldsAssumed (drop_global h t) g s
unfolding drop_global
drop_assumes t h g s p l a =
    let b = undeleted_below t h p l.undeleted in
    let z = p.sizes in
    let w = (p.solver.inverse s g).0 a.held in
    let n = l.no_solver in
    record {
      held = a.held;
      assumed = put_assumed t h (record_of t h + 36) g p (omega arith) a.assumed
          (λ e. let q = ap (λ (i : ℕ). get_or t.solver_from_global i 0) e in absurd (omega arith));
    }

pub move_assumes : (m : Move) (t : Table) → Sound t → Legal m t → KeepsIndex m t → KeepsAssumed m t → (g s : ℕ) → HoldsAssumed t g s
    → HoldsAssumed (apply m t) g s
unfolding give_user take_user put_record put_value
move_assumes (gives_user h u r) t p l f k g s a =
    let w = (p.solver.inverse s g).0 a.held in
    record {
      held = a.held;
      assumed = put_assumed t h r g p l.global a.assumed
          (λ e. rw e at (k (λ z. let q = ap (λ (i : ℕ). get_or t.solver_from_global i 0) e in omega arith)));
    }
move_assumes (takes_user h u r) t p l f k g s a =
    let b = below_mark h u (pair_flip p.user) l.has in
    let z = p.sizes in
    record { held = a.held; assumed = put_assumed t h r g p (omega arith) a.assumed (λ e. rw e at k) }
move_assumes (gives_solver h i) t p l f k g s a = give_assumes t h i g s l a
move_assumes (takes_solver h i) t p l f k g s a = take_assumes t h i g s p l f a
move_assumes (puts_record h r) t p l f k g s a =
    let b = undeleted_below t h p l.old in
    let z = p.sizes in
    record { held = a.held; assumed = put_assumed t h r g p (omega arith) a.assumed (λ e. rw e at k) }
move_assumes (deletes_global h) t p l f k g s a = drop_assumes t h g s p l a
move_assumes (puts_value i v) t p l f k g s a = record { held = a.held; assumed = a.assumed }
move_assumes (tells_mode h sample) t p l f k g s a = a
move_assumes (hides_again h) t p l f k g s a = a

-- ---- and no assumed global is without a solver index

pub record Indexed (t : Table) : Type 0 where
  pub index : (g : ℕ) → assumed_of (record_of t g) ≡ 1 → get_or t.solver_from_global g 0 ≢ 0

-- a record put at h
put_indexed : (t : Table) (h r : ℕ) → Sound t → Indexed t → h < t.counts.capacity
    → (get_or t.solver_from_global h 0 ≡ 0 → assumed_of r ≤ assumed_of (record_of t h))
    → (g : ℕ) → assumed_of (get_or (set t.records h r) g 47) ≡ 1 → get_or t.solver_from_global g 0 ≢ 0
put_indexed t h r p w l k g a = go (ℕ_discrete g h)
  where
    go : Dec (g ≡ h) → get_or t.solver_from_global g 0 ≢ 0
    go (yes e) z =
        let y : get_or t.solver_from_global h 0 ≡ 0 = rw e at z in
        let b : assumed_of (get_or (set t.records h r) h 47) ≡ 1 = rw e at a in
        let c : assumed_of r ≡ 1 = rw (get_or-set_same t.records h r 47 (rw p.sizes.records l)) at b in
        let d = k y in
        w.index h (omega arith) y
    go (no n) z = w.index g (rw (get_or-set_other t.records h g r 47 n) at a) z

-- an index given, and one taken from a global that is not assumed
give_indexed : (t : Table) (h i : ℕ) → Sound t → GivesSolver t h i → Indexed t → Indexed (give_solver h i t)
unfolding give_solver
give_indexed t h i p l w = record { index = λ g a. go g a (ℕ_discrete g h) }
  where
    inside : h < length t.solver_from_global
    inside = let b = undeleted_below t h p l.undeleted in let z = p.sizes in omega arith

    go : (g : ℕ) → assumed_of (record_of t g) ≡ 1 → Dec (g ≡ h) → get_or (set t.solver_from_global h (i + 1)) g 0 ≢ 0
    go g a (yes e) = rw (e, get_or-set_same t.solver_from_global h (i + 1) 0 inside) (λ z. omega arith)
    go g a (no n) = rw (get_or-set_other t.solver_from_global h g (i + 1) 0 n) (w.index g a)

take_indexed : (t : Table) (h i : ℕ) → assumed_of (record_of t h) ≡ 0 → Indexed t → Indexed (take_solver h i t)
unfolding take_solver
take_indexed t h i f w = record { index = λ g a. go g a (ℕ_discrete g h) }
  where
    go : (g : ℕ) → assumed_of (record_of t g) ≡ 1 → Dec (g ≡ h) → get_or (set t.solver_from_global h 0) g 0 ≢ 0
    go g a (yes e) = let b : assumed_of (record_of t h) ≡ 1 = rw e at a in absurd (omega arith)
    go g a (no n) = rw (get_or-set_other t.solver_from_global h g 0 0 n) (w.index g a)

pub move_indexed : (m : Move) (t : Table) → Sound t → Legal m t → KeepsIndex m t → Indexed t → Indexed (apply m t)
unfolding give_user take_user put_record put_value drop_global
move_indexed (gives_user h u r) t p l f w = record { index = put_indexed t h r p w l.global (λ z. f) }
move_indexed (takes_user h u r) t p l f w =
    let b = below_mark h u (pair_flip p.user) l.has in
    let z = p.sizes in
    record { index = put_indexed t h r p w (omega arith) (λ z. f) }
move_indexed (gives_solver h i) t p l f w = give_indexed t h i p l w
move_indexed (takes_solver h i) t p l f w = take_indexed t h i f w
move_indexed (puts_record h r) t p l f w =
    let b = undeleted_below t h p l.old in
    let z = p.sizes in
    record { index = put_indexed t h r p w (omega arith) f }
move_indexed (deletes_global h) t p l f w =
    let b = undeleted_below t h p l.undeleted in
    let z = p.sizes in
    record { index = put_indexed t h (record_of t h + 36) p w (omega arith) (λ z. omega arith) }
move_indexed (puts_value i v) t p l f w = record { index = w.index }
move_indexed (tells_mode h sample) t p l f w = w
move_indexed (hides_again h) t p l f w = w

-- ---- a path of allowed moves, with what a ledger enters of it; what is assumed is kept, unless it is a path of Released

pub data Path (release : Bool) : Table → List Entry → Table → Type 0 where
  stop : {t : Table} → Path release t [] t
  move : {t t' : Table} {es : List Entry} (m : Move) → Legal m t → KeepsIndex m t → (release ≡ false → KeepsAssumed m t) → Path release (apply m t) es t'
      → Path release t (entries m ++ es) t'

-- a path of any other call
abbrev pub Reach : Table → List Entry → Table → Type 0
Reach t es t' = Path false t es t'

pub reach_sound : {b : Bool} {t t' : Table} {es : List Entry} → Path b t es t' → Sound t → Sound t'
reach_sound stop p = p
reach_sound (move {t = t} m l f k r) p = reach_sound r (move_sound m t p l)

pub reach_indexed : {b : Bool} {t t' : Table} {es : List Entry} → Path b t es t' → Sound t → Indexed t → Indexed t'
reach_indexed stop p w = w
reach_indexed (move {t = t} m l f k r) p w = reach_indexed r (move_sound m t p l) (move_indexed m t p l f w)

pub reach_assumes : {t t' : Table} {es : List Entry} → Reach t es t' → Sound t → (g s : ℕ) → HoldsAssumed t g s → HoldsAssumed t' g s
reach_assumes stop p g s a = a
reach_assumes (move {t = t} m l f k r) p g s a = reach_assumes r (move_sound m t p l) g s (move_assumes m t p l f (k refl) g s a)

-- one path after another
pub reach_then : {b : Bool} {t t' t'' : Table} {es fs : List Entry} → Path b t es t' → Path b t' fs t'' → Path b t (es ++ fs) t''
reach_then stop q = q
reach_then {fs = fs} (move {es = es} m l f k r) q = rw (append_assoc (entries m) es fs) (move m l f k (reach_then r q))

pub reach_one : {b : Bool} {t : Table} (m : Move) → Legal m t → KeepsIndex m t → (b ≡ false → KeepsAssumed m t) → Path b t (entries m) (apply m t)
reach_one {b} {t} m l f k = subst (λ es. Path b t es (apply m t)) (append-nil (entries m)) (move m l f k stop)

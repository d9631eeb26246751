-- Laws of Remove and Sweep: that each keeps a table sound, and what it leaves alone.
use Prim.Native.Nat.{ℕ, ◌+◌, ◌<◌, ◌≤◌}
use mathlib.Core.Path.{◌≡◌, refl, sym, ap, ◌∙◌}
use mathlib.Core.Bool.{Bool, false, ◌&&◌}
use mathlib.Core.Logic.{◌≢◌}
use mathlib.Core.List.{List, []}
use native.Mathlib.Omega.{arith}
use native.Mathlib.Decide.{dec_lt, ℕ_discrete}
use lib.Dec.{eqb}
use lib.ListN.{get_or}
use lib.Seq.{get_or-set_same, get_or-set_other}
use borrow.Author.Tests.{eqb-true}
use Rattle.base.proofs.BelowLaws.{and_right}
use Rattle.scope.specs.Table.{Table, record_of, isolated_of, assumed_of, with_unit, take_solver}
use Rattle.scope.specs.Sound.{Sound}
use Rattle.scope.specs.Outcome.{Result, each}
use Rattle.scope.specs.Marks.{holder_of}
use Rattle.scope.specs.Remove.{remove_held, remove, learn, sweep_held, sweep_one, sweep}
use Rattle.scope.proofs.PairLaws.{below_mark}
use Rattle.scope.proofs.RecordLaws.{with_unit_parts}
use Rattle.scope.proofs.MoveLaws.{move_sound, Reach, stop, reach_one, reach_then, reach_sound, takes_solver, puts_record}
use Rattle.scope.proofs.ResultLaws.{Good, by_choose, by_word, safe_each, each_keeps}
use Rattle.scope.proofs.ModeLaws.{delete_reach, delete_same, put_record_same, stay_same, SameButRecord, SameMarks, marks_stay, marks_then}

-- a global that holds a solver index is undeleted
pub held_undeleted : (t : Table) (g s : ℕ) → Sound t → get_or t.global_from_solver s 0 ≡ g + 1 → record_of t g < 36
held_undeleted t g s p e = go (dec_lt (record_of t g) 36)
  where
    go : Dec (record_of t g < 36) → record_of t g < 36
    go (yes h) = h
    go (no n) =
        let z = (p.rows.row g).gone (omega arith) in
        let w = (p.solver.inverse s g).0 e in
        absurd (omega arith)

-- ---- Remove

pub take_held_sound : (t : Table) (g s : ℕ) → Sound t → get_or t.global_from_solver s 0 ≡ g + 1 → Sound (take_solver g s t)
take_held_sound t g s p e = move_sound (takes_solver g s) t p ((p.solver.inverse s g).0 e)

pub take_held_undeleted : (t : Table) (g s : ℕ) → Sound t → get_or t.global_from_solver s 0 ≡ g + 1 → record_of (take_solver g s t) g < 36
unfolding take_solver
take_held_undeleted t g s p e = held_undeleted t g s p e

pub remove_held_reach : (t : Table) (g s : ℕ) → Sound t → get_or t.global_from_solver s 0 ≡ g + 1 → assumed_of (record_of t g) ≡ 0 → Good t (remove_held g s t)
unfolding remove_held
remove_held_reach t g s p e a =
    reach_then (reach_one {t = t} (takes_solver g s) ((p.solver.inverse s g).0 e) a (λ q. tt))
    (delete_reach (take_solver g s t) g (take_held_sound t g s p e) (take_held_undeleted t g s p e))

-- the holder of a held index
pub holder_holds : (t : Table) (s : ℕ) → get_or t.global_from_solver s 0 ≢ 0 → get_or t.global_from_solver s 0 ≡ holder_of t s + 1
holder_holds t s n = omega arith

pub remove_reach : (t : Table) (s : ℕ) → Sound t → get_or t.global_from_solver s 0 ≢ 0 → assumed_of (record_of t (holder_of t s)) ≢ 1 → Good t (remove s t)
unfolding remove
remove_reach t s p n a = remove_held_reach t (holder_of t s) s p (holder_holds t s n) (omega arith)

pub remove_sound : (t : Table) (s : ℕ) → Sound t → get_or t.global_from_solver s 0 ≢ 0 → assumed_of (record_of t (holder_of t s)) ≢ 1 → Sound (remove s t).table
remove_sound t s p n a = reach_sound (remove_reach t s p n a) p

-- ---- Sweep

unit_small : (r v : ℕ) → r < 36 → v ≤ 2 → with_unit r v < 36
unit_small r v h k = omega arith

pub learn_reach : (t : Table) (g s : ℕ) → Sound t → get_or t.global_from_solver s 0 ≡ g + 1 → Reach t [] (learn g s t)
unfolding learn
learn_reach t g s p e = by_word (Reach t []) _ (λ z. stop)
    (λ v z.
    let h = held_undeleted t g s p e in
    let k = p.values.small s in
    let parts = with_unit_parts (record_of t g) (get_or t.assignment s 0) (omega arith) in
    let m = parts.mode in
    let a = parts.assumed in
    reach_one (puts_record g (with_unit (record_of t g) (get_or t.assignment s 0)))
    (record { old = h; new = unit_small (record_of t g) (get_or t.assignment s 0) h k; to = λ n q. n (m ∙ q); from = λ n q. n (sym m ∙ q) })
    (λ q. omega arith) (λ q. omega arith))

pub learn_sound : (t : Table) (g s : ℕ) → Sound t → get_or t.global_from_solver s 0 ≡ g + 1 → Sound (learn g s t)
learn_sound t g s p e = reach_sound (learn_reach t g s p e) p

pub learn_same : (t : Table) (g s : ℕ) → SameButRecord t g (learn g s t)
unfolding learn
learn_same t g s =
    by_word (SameButRecord t g) (get_or t.assignment s 0) (λ e. stay_same t g)
    (λ v e. put_record_same t g (with_unit (record_of t g) (get_or t.assignment s 0)))

-- the index is still held by it
pub learn_holds : (t : Table) (g s : ℕ) → get_or t.global_from_solver s 0 ≡ g + 1 → get_or (learn g s t).global_from_solver s 0 ≡ g + 1
learn_holds t g s e = ap (λ (l : List ℕ). get_or l s 0) (learn_same t g s).global_from_solver ∙ e

pub sweep_held_reach : (t : Table) (g s : ℕ) → Sound t → get_or t.global_from_solver s 0 ≡ g + 1 → Good t (sweep_held g s t)
unfolding sweep_held
sweep_held_reach t g s p e =
    by_choose (Good t) _
    (λ z. remove_held_reach t g s p e (eqb-true (assumed_of (record_of t g)) 0 (and_right (eqb (isolated_of (record_of t g)) 1) _ z)))
    (λ z. stop)

pub sweep_one_reach : (t : Table) (s : ℕ) → Sound t → Good t (sweep_one s t)
unfolding sweep_one
sweep_one_reach t s p = by_word (Good t) _ (λ e. stop)
    (λ g e. reach_then (learn_reach t g s p e) (sweep_held_reach (learn g s t) g s (learn_sound t g s p e) (learn_holds t g s e)))

pub sweep_one_sound : (t : Table) (s : ℕ) → Sound t → Sound (sweep_one s t).table
sweep_one_sound t s p = reach_sound (sweep_one_reach t s p) p

pub sweep_reach : (t : Table) → Sound t → Good t (sweep t)
unfolding sweep
sweep_reach t p = safe_each sweep_one (λ s r q. sweep_one_reach r s q) _ t p

pub sweep_sound : (t : Table) → Sound t → Sound (sweep t).table
sweep_sound t p = reach_sound (sweep_reach t p) p

-- ---- what a turn at s leaves alone: everything but the index s, its global g and the record of g

pub record SameButHeld (t : Table) (g s : ℕ) (r : Table) : Type 0 where
  pub marks : SameMarks r.counts t.counts
  pub global_from_user : r.global_from_user ≡ t.global_from_user
  pub user_from_global : r.user_from_global ≡ t.user_from_global
  pub assignment : r.assignment ≡ t.assignment
  pub holders : (k : ℕ) → k ≢ s → get_or r.global_from_solver k 0 ≡ get_or t.global_from_solver k 0
  pub held : (h : ℕ) → h ≢ g → get_or r.solver_from_global h 0 ≡ get_or t.solver_from_global h 0
  pub records : (h : ℕ) → h ≢ g → record_of r h ≡ record_of t h

same_held : {t r : Table} (g s : ℕ) → SameButRecord t g r → SameButHeld t g s r
same_held g s x =
    record {
      marks = x.marks;
      global_from_user = x.global_from_user;
      user_from_global = x.user_from_global;
      assignment = x.assignment;
      holders = λ k n. ap (λ (l : List ℕ). get_or l k 0) x.global_from_solver;
      held = λ h n. ap (λ (l : List ℕ). get_or l h 0) x.solver_from_global;
      records = x.records;
    }

held_then : {t r q : Table} {g s : ℕ} → SameButHeld t g s r → SameButHeld r g s q → SameButHeld t g s q
held_then a b =
    record {
      marks = marks_then b.marks a.marks;
      global_from_user = b.global_from_user ∙ a.global_from_user;
      user_from_global = b.user_from_global ∙ a.user_from_global;
      assignment = b.assignment ∙ a.assignment;
      holders = λ k n. b.holders k n ∙ a.holders k n;
      held = λ h n. b.held h n ∙ a.held h n;
      records = λ h n. b.records h n ∙ a.records h n;
    }

take_same : (t : Table) (g s : ℕ) → SameButHeld t g s (take_solver g s t)
unfolding take_solver
take_same t g s =
    record {
      marks = record { capacity = refl; user = refl; global = refl; solver = refl };
      global_from_user = refl;
      user_from_global = refl;
      assignment = refl;
      holders = λ k n. get_or-set_other t.global_from_solver s k 0 0 n;
      held = λ h n. get_or-set_other t.solver_from_global g h 0 0 n;
      records = λ h n. refl;
    }

pub remove_held_same : (t : Table) (g s : ℕ) → SameButHeld t g s (remove_held g s t).table
unfolding remove_held
remove_held_same t g s = held_then (take_same t g s) (same_held g s (delete_same (take_solver g s t) g))

pub sweep_held_same : (t : Table) (g s : ℕ) → SameButHeld t g s (sweep_held g s (learn g s t)).table
unfolding sweep_held
sweep_held_same t g s =
    held_then (same_held g s (learn_same t g s))
    (by_choose (λ (x : Result (List ℕ)). SameButHeld (learn g s t) g s x.table) _
    (λ e. remove_held_same (learn g s t) g s)
    (λ e. same_held g s (stay_same (learn g s t) g)))

-- after i turns: what stands at the indices from i up, and at the globals that hold them, is as it was
pub record Swept (t : Table) (i : ℕ) (r : Table) : Type 0 where
  pub sound : Sound r
  pub marks : SameMarks r.counts t.counts
  pub global_from_user : r.global_from_user ≡ t.global_from_user
  pub user_from_global : r.user_from_global ≡ t.user_from_global
  pub assignment : r.assignment ≡ t.assignment
  pub holders : (s : ℕ) → i ≤ s → get_or r.global_from_solver s 0 ≡ get_or t.global_from_solver s 0
  pub held : (s g : ℕ) → i ≤ s → get_or t.global_from_solver s 0 ≡ g + 1 → get_or r.solver_from_global g 0 ≡ s + 1
  pub records : (s g : ℕ) → i ≤ s → get_or t.global_from_solver s 0 ≡ g + 1 → record_of r g ≡ record_of t g

sweep_one_passed : (t : Table) (i : ℕ) (r : Table) → Sound t → Swept t i r → Swept t (i + 1) (sweep_one i r).table
unfolding sweep_one
sweep_one_passed t i r p o = by_word (λ (x : Result (List ℕ)). Swept t (i + 1) x.table) (get_or r.global_from_solver i 0)
    (λ e. record {
      sound = o.sound;
      marks = o.marks;
      global_from_user = o.global_from_user;
      user_from_global = o.user_from_global;
      assignment = o.assignment;
      holders = λ s l. o.holders s (omega arith);
      held = λ s g l. o.held s g (omega arith);
      records = λ s g l. o.records s g (omega arith);
    })
    (λ g e.
    let x = sweep_held_same r g i in
    let q = reach_then (learn_reach r g i o.sound e) (sweep_held_reach (learn g i r) g i (learn_sound r g i o.sound e) (learn_holds r g i e)) in
    -- another index is held by another global
    let apart : (s h : ℕ) → i + 1 ≤ s → get_or t.global_from_solver s 0 ≡ h + 1 → h ≢ g = λ s h l w z.
    let a = o.held s h (omega arith) w in
    let b = (o.sound.solver.inverse i g).0 e in
    let c = ap (λ (k : ℕ). get_or r.solver_from_global k 0) z in
    omega arith in
    record {
      sound = reach_sound q o.sound;
      marks = marks_then x.marks o.marks;
      global_from_user = x.global_from_user ∙ o.global_from_user;
      user_from_global = x.user_from_global ∙ o.user_from_global;
      assignment = x.assignment ∙ o.assignment;
      holders = λ s l. x.holders s (omega arith) ∙ o.holders s (omega arith);
      held = λ s h l w. x.held h (apart s h l w) ∙ o.held s h (omega arith) w;
      records = λ s h l w. x.records h (apart s h l w) ∙ o.records s h (omega arith) w;
    })

pub sweep_passed : (t : Table) → Sound t → (i : ℕ) → Swept t i (each i sweep_one t).table
sweep_passed t p i =
    each_keeps sweep_one t (Swept t) i
    (record {
      sound = p;
      marks = marks_stay t.counts;
      global_from_user = refl;
      user_from_global = refl;
      assignment = refl;
      holders = λ s l. refl;
      held = λ s g l e. (p.solver.inverse s g).0 e;
      records = λ s g l e. refl;
    })
    (λ j r l o. sweep_one_passed t j r p o)
    i (omega arith)

-- ---- a sweep is complete: an index that is still held is held by a global that is not isolated, or is assumed

-- isolated and not assumed
abbrev pub is_due : ℕ → Bool
is_due r = eqb (isolated_of r) 1 && eqb (assumed_of r) 0

pub record Kept (i : ℕ) (r : Table) : Type 0 where
  pub due : (s g : ℕ) → s < i → get_or r.global_from_solver s 0 ≡ g + 1 → is_due (record_of r g) ≡ false

pub removed_free : (t : Table) (g s : ℕ) → Sound t → get_or t.global_from_solver s 0 ≡ g + 1 → get_or (remove_held g s t).table.global_from_solver s 0 ≡ 0
unfolding remove_held take_solver
removed_free t g s p e =
    let z = p.sizes in
    let l = below_mark s g p.solver e in
    ap (λ (xs : List ℕ). get_or xs s 0) (delete_same (take_solver g s t) g).global_from_solver ∙ get_or-set_same t.global_from_solver s 0 0 (omega arith)

-- the turn at s itself
turn_kept : (t : Table) (g s : ℕ) → Sound t → get_or t.global_from_solver s 0 ≡ g + 1
    → (h : ℕ) → get_or (sweep_held g s t).table.global_from_solver s 0 ≡ h + 1 → is_due (record_of (sweep_held g s t).table h) ≡ false
unfolding sweep_held
turn_kept t g s p e = by_choose (λ (x : Result (List ℕ)). (h : ℕ) → get_or x.table.global_from_solver s 0 ≡ h + 1 → is_due (record_of x.table h) ≡ false) _
    (λ z h q. let w = removed_free t g s p e in absurd (omega arith))
    (λ z h q. let x : h ≡ g = omega arith in rw x z)

kept_turn : (i : ℕ) (r : Table) → Sound r → Kept i r → Kept (i + 1) (sweep_one i r).table
unfolding sweep_one
kept_turn i r p k = by_word (λ (x : Result (List ℕ)). Kept (i + 1) x.table) (get_or r.global_from_solver i 0)
    (λ e. record { due = λ s g l q. k.due s g (other s g l q e) q })
    (λ g e.
    record { due = λ s h l w. go s h l g e w (ℕ_discrete s i) })
  where
    other : (s g : ℕ) → s < i + 1 → get_or r.global_from_solver s 0 ≡ g + 1 → get_or r.global_from_solver i 0 ≡ 0 → s < i
    other s g l q e = apart (ℕ_discrete s i)
      where
        apart : Dec (s ≡ i) → s < i
        apart (yes z) = let w = ap (λ (k : ℕ). get_or r.global_from_solver k 0) z in absurd (omega arith)
        apart (no z) = omega arith

    go : (s h : ℕ) → s < i + 1 → (g : ℕ) → get_or r.global_from_solver i 0 ≡ g + 1
        → get_or (sweep_held g i (learn g i r)).table.global_from_solver s 0 ≡ h + 1 → Dec (s ≡ i)
        → is_due (record_of (sweep_held g i (learn g i r)).table h) ≡ false
    go s h l g e w (yes z) = turn_kept (learn g i r) g i (learn_sound r g i p e) (learn_holds r g i e) h
        (ap (λ (k : ℕ). get_or (sweep_held g i (learn g i r)).table.global_from_solver k 0) (sym z) ∙ w)
    go s h l g e w (no z) =
        let x = sweep_held_same r g i in
        let y = sym (x.holders s z) ∙ w in
        let apart : h ≢ g = λ q.
        let a = (p.solver.inverse s h).0 y in
        let b = (p.solver.inverse i g).0 e in
        let c = ap (λ (k : ℕ). get_or r.solver_from_global k 0) q in
        omega arith in
        rw (x.records h apart) (k.due s h (omega arith) y)

pub sweep_complete : (t : Table) → Sound t → (s g : ℕ) → get_or (sweep t).table.global_from_solver s 0 ≡ g + 1
    → is_due (record_of (sweep t).table g) ≡ false
unfolding sweep
sweep_complete t p s g e =
    let o = sweep_passed t p _ in
    let l = below_mark s g o.sound.solver e in
    let c = o.marks.solver in
    (kept_all _).due s g (omega arith) e
  where
    kept_all : (i : ℕ) → Kept i (each i sweep_one t).table
    kept_all i =
        (each_keeps sweep_one t (λ (i : ℕ) (r : Table). Sound r × Kept i r) i
        (p, record { due = λ s g l q. absurd (omega arith) })
        (λ j r l q. (sweep_one_sound r j q.0, kept_turn j r q.0 q.1))
        i (omega arith)).1

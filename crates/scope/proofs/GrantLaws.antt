-- Laws of Grant: the index that is taken, that a grant keeps a table sound, and what it leaves alone.
use Prim.Native.Nat.{ℕ, zero, suc, ◌+◌, ◌<◌, ◌≤◌}
use mathlib.Core.Path.{◌≡◌, refl, sym, subst}
use mathlib.Core.Bool.{false}
use mathlib.Core.Logic.{◌≢◌}
use native.Mathlib.Omega.{arith}
use lib.ListN.{length, get_or}
use lib.Seq.{get_or-set_same, get_or-set_other}
use Rattle.scope.specs.Table.{Table, word, record_of, give_solver, next_solver}
use Rattle.scope.specs.Sound.{Sound}
use Rattle.scope.specs.Outcome.{Result, stay}
use Rattle.scope.specs.Grant.{grant_one, grant}
use Rattle.scope.proofs.PairLaws.{free_at, free_most, free_before, free_below, below_mark}
use Rattle.scope.proofs.MoveLaws.{stop, reach_one, reach_sound, gives_solver, undeleted_below}
use Rattle.scope.proofs.ResultLaws.{Good, word_none, word_some}

-- ---- the least unmapped solver index

pub next_solver_free : (t : Table) → Sound t → get_or t.global_from_solver (next_solver t) 0 ≡ 0
unfolding next_solver
next_solver_free t p = free_at p.solver

pub next_solver_most : (t : Table) → next_solver t ≤ t.counts.solver
unfolding next_solver
next_solver_most t = free_most t.global_from_solver t.counts.solver

pub next_solver_before : (t : Table) (s : ℕ) → s < next_solver t → get_or t.global_from_solver s 0 ≢ 0
unfolding next_solver
next_solver_before t s h = free_before t.global_from_solver t.counts.solver s h

-- Solver indices never run out first: with a global that has none, the least free one is below the global watermark.
pub next_solver_below : (t : Table) (g : ℕ) → Sound t → g < t.counts.global → get_or t.solver_from_global g 0 ≡ 0 → next_solver t < t.counts.global
unfolding next_solver
next_solver_below t g p h e = free_below g p.solver h e

-- ---- Grant

pub grant_free : (t : Table) (g : ℕ) → get_or t.solver_from_global g 0 ≡ 0 → grant g t ≡ grant_one g t
unfolding grant
grant_free t g e = word_none (grant_one g t) (λ s. stay s t) _ e

pub grant_has : (t : Table) (g s : ℕ) → get_or t.solver_from_global g 0 ≡ s + 1 → grant g t ≡ stay s t
unfolding grant
grant_has t g s e = word_some (grant_one g t) (λ s. stay s t) _ s e

-- what a grant leaves alone
pub record SameUsers (t s : Table) : Type 0 where
  pub capacity : s.counts.capacity ≡ t.counts.capacity
  pub user : s.counts.user ≡ t.counts.user
  pub global : s.counts.global ≡ t.counts.global
  pub global_from_user : s.global_from_user ≡ t.global_from_user
  pub user_from_global : s.user_from_global ≡ t.user_from_global
  pub records : s.records ≡ t.records

-- how many solver indices are granted
unfoldable pub to_grant : Table → ℕ → ℕ
to_grant t g = word 1 (λ s. 0) (get_or t.solver_from_global g 0)

pub record GrantDone (t : Table) (g : ℕ) (x : Result ℕ) : Type 0 where
  pub good : Good t x
  pub sound : Sound x.table
  pub same : SameUsers t x.table
  pub holds : get_or x.table.global_from_solver x.value 0 ≡ g + 1
  pub has : get_or x.table.solver_from_global g 0 ≡ x.value + 1
  pub below : x.value < t.counts.global
  pub other : (h : ℕ) → h ≢ g → get_or x.table.solver_from_global h 0 ≡ get_or t.solver_from_global h 0
  pub count : length x.notes ≡ to_grant t g

pub grant_one_granted : (t : Table) (g : ℕ) → Sound t → record_of t g < 36 → get_or t.solver_from_global g 0 ≡ 0 → GrantDone t g (grant_one g t)
unfolding grant_one give_solver to_grant
grant_one_granted t g p h e =
    let gg = undeleted_below t g p h in
    let m = next_solver_below t g p gg e in
    let z = p.sizes in
    let r =
    reach_one {b = false} {t = t} (gives_solver g (next_solver t)) (record { no_solver = e; no_global = next_solver_free t p; undeleted = h; mark = m })
    tt (λ q. tt) in
    record {
      good = r;
      sound = reach_sound r p;
      same = record { capacity = refl; user = refl; global = omega arith; global_from_user = refl; user_from_global = refl; records = refl };
      holds = get_or-set_same t.global_from_solver (next_solver t) (g + 1) 0 (omega arith);
      has = get_or-set_same t.solver_from_global g (next_solver t + 1) 0 (omega arith);
      below = m;
      other = λ k n. get_or-set_other t.solver_from_global g k (next_solver t + 1) 0 n;
      count = sym (word_none 1 (λ s. 0) _ e);
    }

pub grant_granted : (t : Table) (g : ℕ) → Sound t → record_of t g < 36 → GrantDone t g (grant g t)
unfolding to_grant
grant_granted t g p h = go (get_or t.solver_from_global g 0) refl
  where
    go : (w : ℕ) → get_or t.solver_from_global g 0 ≡ w → GrantDone t g (grant g t)
    go zero e = subst (λ (x : Result ℕ). GrantDone t g x) (sym (grant_free t g e)) (grant_one_granted t g p h e)
    go (suc s) e =
        let q : get_or t.solver_from_global g 0 ≡ s + 1 = omega arith in
        let k = (p.solver.inverse s g).1 q in
        let l = below_mark s g p.solver k in
        let z = p.sizes in
        subst (λ (x : Result ℕ). GrantDone t g x) (sym (grant_has t g s q))
        (record {
          good = stop;
          sound = p;
          same = record { capacity = refl; user = refl; global = refl; global_from_user = refl; user_from_global = refl; records = refl };
          holds = k;
          has = q;
          below = omega arith;
          other = λ k n. refl;
          count = sym (word_some 1 (λ s. 0) _ s q);
        })

pub grant_reach : (t : Table) (g : ℕ) → Sound t → record_of t g < 36 → Good t (grant g t)
grant_reach t g p h = (grant_granted t g p h).good

pub grant_sound : (t : Table) (g : ℕ) → Sound t → record_of t g < 36 → Sound (grant g t).table
grant_sound t g p h = (grant_granted t g p h).sound

-- the count of notes, of any table
pub grant_count : (t : Table) (g : ℕ) → length (grant g t).notes ≡ to_grant t g
unfolding grant to_grant word grant_one
grant_count t g = go (get_or t.solver_from_global g 0)
  where
    go : (w : ℕ) → length (word (grant_one g t) (λ s. stay s t) w).notes ≡ word 1 (λ s. 0) w
    go zero = refl
    go (suc s) = refl

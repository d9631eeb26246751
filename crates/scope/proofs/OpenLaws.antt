-- Laws of Open: a freshly opened table is sound.
use Prim.Native.Nat.{ℕ, zero, suc, ◌+◌, ◌≤◌}
use mathlib.Core.Path.{◌≡◌, refl, sym, subst}
use mathlib.Core.List.{List, []}
use mathlib.Core.Bool.{Bool, true, false, not}
use native.Mathlib.Omega.{arith}
use lib.ListN.{get_or, length-replicate, replicate}
use Rattle.base.specs.Choice.{pick}
use Rattle.base.specs.Bounded.{least}
use Rattle.base.specs.Answer.{accepted, refused}
use Rattle.base.proofs.CountLaws.{count_never}
use Rattle.base.proofs.Truth.{truth}
use Rattle.scope.specs.Table.{Table, is_undeleted, undeleted, next_solver, least_free}
use Rattle.scope.specs.Sound.{sizesb, Pair, Sound}
use Rattle.scope.specs.Outcome.{unless, changing}
use Rattle.scope.specs.Open.{empty_table, open_of}

-- every word of a blank list is the blank
pub blank_at : (n d i : ℕ) → get_or (replicate n d) i d ≡ d
blank_at zero d i = refl
blank_at (suc n) d zero = refl
blank_at (suc n) d (suc i) = blank_at n d i

blank_pair : (n : ℕ) → Pair (replicate n 0) (replicate n 0) 0 0
blank_pair n = record { inverse = λ i j. (λ e. absurd (none i j e), λ e. absurd (none j i e)); atail = λ i h. blank_at n 0 i; btail = λ i h. blank_at n 0 i }
  where
    none : (i j : ℕ) → get_or (replicate n 0) i 0 ≡ j + 1 → ⊥
    none i j e = let z = blank_at n 0 i in omega arith

pub empty_sound : (n : ℕ) → 1 ≤ n → n ≤ 4096 → Sound (empty_table n)
unfolding empty_table undeleted next_solver least_free least
empty_sound n h k =
    record {
      sizes = omega (arith, length-replicate {A = ℕ} n 0, length-replicate {A = ℕ} n 47);
      user = blank_pair n;
      solver = blank_pair n;
      rows = record { row = λ g. rw (blank_at n 47 g, blank_at n 0 g) (omega arith); tail = λ g l. blank_at n 47 g };
      values = record { small = λ s. rw (blank_at n 0 s) (omega arith); tail = λ s l. blank_at n 0 s };
      stored = record { used = sym (count_never n (is_undeleted (replicate n 47)) (λ g. rw (blank_at n 47 g))); next = refl };
    }

-- what an accepted Open was asked for, and what it leaves
pub record Opened (t s : Table) : Type 0 where
  pub positive : 1 ≤ t.counts.capacity
  pub at_most : t.counts.capacity ≤ 4096
  pub table : s ≡ empty_table t.counts.capacity

pub open_opened : (t : Table) (vs : List ℕ) → (open_of t).answer ≡ accepted vs → Opened t (open_of t).table
unfolding open_of unless sizesb
open_opened t vs e = go (sizesb t) refl e
  where
    never : refused 10 [] ≡ accepted vs → ⊥
    never q = let z : ◌≡◌ {A = ℕ} 0 1 = cc in omega arith

    go : (b : Bool) → sizesb t ≡ b → (unless (pick (not b) 10 0) t (changing (empty_table t.counts.capacity))).answer ≡ accepted vs
        → Opened t (unless (pick (not b) 10 0) t (changing (empty_table t.counts.capacity))).table
    go true q e = let k = simp truth at q in record { positive = omega arith; at_most = omega arith; table = refl }
    go false q e = absurd (never e)

pub open_sound : (t : Table) (vs : List ℕ) → (open_of t).answer ≡ accepted vs → Sound (open_of t).table
open_sound t vs e =
    let o = open_opened t vs e in
    subst (λ (s : Table). Sound s) (sym o.table) (empty_sound t.counts.capacity o.positive o.at_most)

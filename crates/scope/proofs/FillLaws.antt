-- What the stored numbers of a sound table tell (document 02, order 5): the solver index that Grant gives next, and whether a global is free.
use Prim.Native.Nat.{ℕ, ◌+◌, ◌≤◌, ◌<◌}
use mathlib.Core.Path.{◌≡◌, sym}
use mathlib.Core.Bool.{Bool, true, false}
use native.Mathlib.Omega.{arith}
use lib.ListN.{get_or}
use borrow.Author.Tests.{lt-ltb, le-ltb}
use Rattle.base.specs.Choice.{pick}
use Rattle.scope.specs.Table.{Table, word, undeleted}
use Rattle.scope.specs.Sound.{Sound}
use Rattle.scope.specs.Outcome.{short}
use Rattle.scope.specs.Map.{new_user, new_user_refusal}
use Rattle.scope.specs.Grant.{grant_one, grant}
use Rattle.scope.proofs.SoundLaws.{sound_to}

-- a global without solver index is given the stored one
pub next_granted : (t : Table) (g : ℕ) → Sound t → get_or t.solver_from_global g 0 ≡ 0 → (grant g t).value ≡ t.counts.next
unfolding grant grant_one word
next_granted t g p e = rw e (sym p.stored.next)

-- New user is 5 where the stored number is the capacity,
pub full_refused : (t : Table) (room : ℕ) → Sound t → t.counts.capacity ≤ t.counts.used → new_user_refusal t room ≡ 5
unfolding new_user_refusal
full_refused t room p l =
    rw (sound_to t p, lt-ltb t.counts.capacity (undeleted t + 1) (omega (arith, p.stored.used)))

-- and only there
pub free_taken : (t : Table) (room : ℕ) → Sound t → t.counts.used < t.counts.capacity → new_user_refusal t room ≡ 5 → ⊥
unfolding new_user_refusal
free_taken t room p l =
    rw (sound_to t p, le-ltb t.counts.capacity (undeleted t + 1) (omega (arith, p.stored.used))) (go (short room (new_user t).notes))
  where
    go : (b : Bool) → ◌≡◌ {A = ℕ} (pick b 2 0) 5 → ⊥
    go true e = omega arith
    go false e = omega arith

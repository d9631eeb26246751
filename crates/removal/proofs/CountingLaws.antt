-- The number of notes that are made is the number told.
use Prim.Native.Nat.{ℕ, suc, ◌≤◌}
use mathlib.Core.Path.{◌≡◌, refl, ap, ◌∙◌}
use mathlib.Core.Bool.{Bool, true, false, ◌&&◌}
use mathlib.Core.List.{List, [], ◌∷◌}
use native.Mathlib.Omega.{arith}
use lib.Dec.{eqb}
use lib.ListN.{length, get_or}
use Rattle.base.specs.Choice.{pick}
use Rattle.scope.specs.Table.{Table, isolated_of, record_of, take_solver}
use Rattle.scope.specs.Notes.{Note, deletes}
use Rattle.scope.specs.Outcome.{stay, choose}
use Rattle.scope.specs.Modes.{is_unused, delete_if_unused}
use Rattle.scope.specs.Remove.{remove_held}
use Rattle.changes.proofs.DeletionLaws.{cleared}
use Rattle.removal.specs.Counting.{removal_notes}

-- without its solver index a global is unused if it has no user and is isolated
pub unused_without : (g s : ℕ) (t : Table) → is_unused (take_solver g s t) g ≡ eqb (get_or t.user_from_global g 0) 0 && eqb (isolated_of (record_of t g)) 1
unfolding is_unused take_solver
unused_without g s t = rw (cleared t.solver_from_global g)

-- a choice of one note or none
one_note : (b : Bool) (t u : Table) (n : Note) → length (choose {A = List ℕ} b (record { value = []; table = t; notes = n ∷ [] }) (stay [] u)).notes ≡ pick b 1
    0
unfolding choose
one_note true t u n = refl
one_note false t u n = refl

pub removal_notes_lem : (g s : ℕ) (t : Table) → length (remove_held g s t).notes ≡ removal_notes (get_or t.user_from_global g 0) (record_of t g)
unfolding remove_held delete_if_unused removal_notes
removal_notes_lem g s t =
    ap suc (one_note (is_unused (take_solver g s t) g) _ _ (deletes g)) ∙ ap (λ (b : Bool). suc (pick b 1 0)) (unused_without g s t)
    ∙ go (eqb (get_or t.user_from_global g 0) 0 && eqb (isolated_of (record_of t g)) 1)
  where
    go : (b : Bool) → suc (pick b 1 0) ≡ pick b 2 1
    go true = refl
    go false = refl

pub removal_few : (user r : ℕ) → removal_notes user r ≤ 2
unfolding removal_notes
removal_few user r = go (eqb user 0 && eqb (isolated_of r) 1)
  where
    go : (b : Bool) → pick b 2 1 ≤ 2
    go true = omega arith
    go false = omega arith

pub removal_some : (user r : ℕ) → 1 ≤ removal_notes user r
unfolding removal_notes
removal_some user r = go (eqb user 0 && eqb (isolated_of r) 1)
  where
    go : (b : Bool) → 1 ≤ pick b 2 1
    go true = omega arith
    go false = omega arith

-- by the test that the code makes
pub removal_two : (user r : ℕ) → eqb user 0 && eqb (isolated_of r) 1 ≡ true → 2 ≡ removal_notes user r
unfolding removal_notes
removal_two user r e = rw e

pub removal_one : (user r : ℕ) → eqb user 0 && eqb (isolated_of r) 1 ≡ false → 1 ≡ removal_notes user r
unfolding removal_notes
removal_one user r e = rw e

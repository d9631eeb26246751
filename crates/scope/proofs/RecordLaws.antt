-- The five parts of a record, each read back after each change.
use Prim.Native.Nat.{ℕ, ◌+◌, ◌<◌, ◌≤◌}
use mathlib.Core.Path.{◌≡◌, refl}
use mathlib.Core.Bool.{Bool, true, false}
use mathlib.Core.Logic.{◌↔◌}
use native.Mathlib.Omega.{arith}
use native.Mathlib.Decide.{dec_lt}
use borrow.Author.Tests.{lt-leb, le-leb}
use Rattle.scope.specs.declared.Mark.TheVariants.{Used, Assumed, Released}
use Rattle.scope.specs.Table.{mode_of, unit_of, isolated_of, assumed_of, is_deleted, fresh_record, user_record, with_mode, with_unit}
use Rattle.scope.specs.Marks.{marked}

-- mode, unit, isolated, assumed, deleted
pub record Parts (r m v i a : ℕ) (d : Bool) : Type 0 where
  pub mode : mode_of r ≡ m
  pub unit : unit_of r ≡ v
  pub isolated : isolated_of r ≡ i
  pub assumed : assumed_of r ≡ a
  pub deleted : is_deleted r ≡ d

deleted_same : (r q : ℕ) → (36 ≤ r) ↔ (36 ≤ q) → is_deleted r ≡ is_deleted q
deleted_same r q h = go (dec_lt q 36)
  where
    go : Dec (q < 36) → is_deleted r ≡ is_deleted q
    go (yes l) = rw (lt-leb 36 q l, lt-leb 36 r (below l (dec_lt r 36)))
      where
        below : q < 36 → Dec (r < 36) → r < 36
        below l (yes k) = k
        below l (no k) = let z = h.0 (omega arith) in absurd (omega arith)
    go (no l) = let z = h.1 (omega arith) in rw (le-leb 36 q (omega arith), le-leb 36 r z)

pub fresh_parts : Parts fresh_record 2 0 1 0 true
fresh_parts = record { mode = refl; unit = refl; isolated = refl; assumed = refl; deleted = refl }

pub new_user_parts : Parts user_record 0 0 1 0 false
new_user_parts = record { mode = refl; unit = refl; isolated = refl; assumed = refl; deleted = refl }

module _ (r : ℕ) where
  pub with_mode_parts : (m : ℕ) → m < 3 → Parts (with_mode r m) m (unit_of r) (isolated_of r) (assumed_of r) (is_deleted r)
  with_mode_parts m h =
      record {
        mode = omega arith;
        unit = omega arith;
        isolated = omega arith;
        assumed = omega arith;
        deleted = deleted_same (with_mode r m) r (λ k. omega arith, λ k. omega arith);
      }

  -- a unit that is learned sets isolated
  pub with_unit_parts : (v : ℕ) → v < 3 → Parts (with_unit r v) (mode_of r) v 1 (assumed_of r) (is_deleted r)
  with_unit_parts v h =
      record {
        mode = omega arith;
        unit = omega arith;
        isolated = omega arith;
        assumed = omega arith;
        deleted = deleted_same (with_unit r v) r (λ k. omega arith, λ k. omega arith);
      }

  pub used_parts : Parts (marked Used r) (mode_of r) (unit_of r) 0 (assumed_of r) (is_deleted r)
  used_parts =
      record {
        mode = omega arith;
        unit = omega arith;
        isolated = omega arith;
        assumed = omega arith;
        deleted = deleted_same (marked Used r) r (λ k. omega arith, λ k. omega arith);
      }

  pub assumed_parts : Parts (marked Assumed r) (mode_of r) (unit_of r) (isolated_of r) 1 (is_deleted r)
  assumed_parts =
      record {
        mode = omega arith;
        unit = omega arith;
        isolated = omega arith;
        assumed = omega arith;
        deleted = deleted_same (marked Assumed r) r (λ k. omega arith, λ k. omega arith);
      }

  pub released_parts : Parts (marked Released r) (mode_of r) (unit_of r) (isolated_of r) 0 (is_deleted r)
  released_parts =
      record {
        mode = omega arith;
        unit = omega arith;
        isolated = omega arith;
        assumed = omega arith;
        deleted = deleted_same (marked Released r) r (λ k. omega arith, λ k. omega arith);
      }

  -- 36 is added to the record of a global that is deleted
  pub deleted_parts : r < 36 → Parts (r + 36) (mode_of r) (unit_of r) (isolated_of r) (assumed_of r) true
  deleted_parts h = record { mode = omega arith; unit = omega arith; isolated = omega arith; assumed = omega arith; deleted = le-leb 36 (r + 36) (omega arith) }

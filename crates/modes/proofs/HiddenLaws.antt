-- Hidden globals, one by one and counted, by the tests that the code makes.
use Prim.Native.Nat.{ℕ, zero, suc, ◌+◌, ◌/◌, ◌%◌, ◌≤◌, ◌<◌}
use mathlib.Core.Path.{◌≡◌, refl, sym, ap, ◌∙◌}
use mathlib.Core.Bool.{Bool, true, false, ◌&&◌, not}
use mathlib.Core.List.{List}
use native.Mathlib.Omega.{arith}
use lib.Dec.{eqb, ltb}
use lib.ListN.{length, get_or}
use Rattle.base.specs.Choice.{pick}
use Rattle.base.specs.Bounded.{all_below, count}
use Rattle.base.proofs.BelowLaws.{and_both}
use Rattle.base.proofs.CountLaws.{count_yes, count_no}
use Rattle.base.proofs.MemberLaws.{get_d_default}
use Rattle.scope.specs.Table.{assumed_of}
use Rattle.scope.specs.Modes.{is_hidden}
use Rattle.table.proofs.CheckLaws.{all_step}

pub hidden_read : (w : ℕ) → ltb w 36 && eqb (w % 3) 2 ≡ is_hidden w
unfolding is_hidden
hidden_read w = refl

-- ---- none is assumed

-- the record of g is not that of an assumed hidden global
abbrev pub fine : List ℕ → ℕ → Bool
fine records g = not (is_hidden (get_or records g 47) && eqb (assumed_of (get_or records g 47)) 1)

pub fine_more : (records : List ℕ) (mark g : ℕ) (ok b : Bool) → mark ≤ length records → g < mark → b ≡ is_hidden (get_or records g 0)
    → ok ≡ all_below g (fine records) → (ok && not (b && eqb (get_or records g 0 / 18 % 2) 1)) ≡ all_below (g + 1) (fine records)
fine_more records mark g ok b w k e h =
    all_step g (fine records) ok _ h
    (ap not (ap (λ (y : Bool). y && eqb (get_or records g 0 / 18 % 2) 1) e
    ∙ ap (λ (r : ℕ). is_hidden r && eqb (assumed_of r) 1) (sym (get_d_default records g 47 0 (omega arith)))))

pub fine_end : (records : List ℕ) (mark g : ℕ) (ok : Bool) → g ≡ mark → ok ≡ all_below g (fine records) → ok ≡ all_below mark (fine records)
fine_end records mark g ok e h = h ∙ ap (λ (i : ℕ). all_below i (fine records)) e

-- ---- how many there are

-- 1 where the test holds, else 0
abbrev pub one_if : Bool → ℕ
one_if b = pick b 1 0

abbrev pub hidden_at : List ℕ → ℕ → Bool
hidden_at records g = is_hidden (get_or records g 47)

pub count_next : (g : ℕ) (p : ℕ → Bool) → count (g + 1) p ≡ count g p + one_if (p g)
count_next g p = go (p g) refl
  where
    go : (b : Bool) → p g ≡ b → count (g + 1) p ≡ count g p + one_if b
    go true e = count_yes g p e
    go false e = let x = count_no g p e in omega arith

-- where none is counted, the last is not hidden, and none before it
pub none_last : (n : ℕ) (p : ℕ → Bool) → count (suc n) p ≡ 0 → (count n p ≡ 0) × (p n ≡ false)
unfolding count
none_last n p e = go (p n) refl e
  where
    go : (b : Bool) → p n ≡ b → pick b (suc (count n p)) (count n p) ≡ 0 → (count n p ≡ 0) × (p n ≡ false)
    go true q z = absurd (omega arith)
    go false q z = (z, q)

-- so none is assumed
pub none_fine : (records : List ℕ) (n : ℕ) → count n (hidden_at records) ≡ 0 → all_below n (fine records) ≡ true
unfolding all_below
none_fine records zero e = refl
none_fine records (suc n) e =
    let h = none_last n (hidden_at records) e in
    let q : is_hidden (get_or records n 47) ≡ false = h.1 in
    and_both (none_fine records n h.0) (rw q)

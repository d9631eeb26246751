-- Laws of the cursor.
use Prim.Native.Nat.{ℕ, ◌+◌, ◌≤◌, ◌<◌}
use mathlib.Core.Path.{◌≡◌, sym}
use mathlib.Core.Bool.{Bool, true, false}
use mathlib.Core.List.{List}
use mathlib.Core.Logic.{⊎_elim}
use native.Mathlib.Omega.{arith}
use lib.Dec.{eqb}
use lib.ListN.{get_or}
use borrow.Author.Tests.{eq-eqb}
use Rattle.base.specs.Bounded.{least}
use Rattle.base.proofs.LeastLaws.{least_is, least_has}
use Rattle.scope.specs.Table.{least_free}
use Rattle.scope.specs.Cursor.{NoneFree, AllMapped}
use Rattle.base.proofs.Truth.{same}

-- a search starts at 0
pub cursor_start : (free : ℕ → Bool) (mark : ℕ) → NoneFree free mark 0
cursor_start free mark = record { within = omega arith; below = λ k l. absurd (omega arith) }

-- and goes on
pub cursor_more : (free : ℕ → Bool) (mark from : ℕ) → from < mark → NoneFree free mark from → free from ≡ false → NoneFree free mark (from + 1)
cursor_more free mark from l h n =
    record {
      within = omega arith;
      below = λ k m. ⊎_elim
          (λ (e : k ≡ from). rw e n)
          (λ (e : k ≡ from → ⊥). h.below k (omega arith))
          (same k from);
    }

-- up to what is free, or to the mark
pub cursor_found : (free : ℕ → Bool) (mark from : ℕ) → NoneFree free mark from → free from ≡ true → from ≡ least mark free
cursor_found free mark from h e = sym (least_is mark free from h.within h.below (λ l. e))

pub cursor_end : (free : ℕ → Bool) (mark from : ℕ) → NoneFree free mark from → mark ≤ from → from ≡ least mark free
cursor_end free mark from h l = sym (least_is mark free from h.within h.below (λ k. absurd (omega arith)))

-- the cursor goes to what was found
pub cursor_least : (free : ℕ → Bool) (mark s : ℕ) → s ≡ least mark free → NoneFree free mark s
cursor_least free mark s e = let w = least_has mark free in record { within = omega (arith, w.within); below = λ k l. w.before k (omega arith) }

-- and stays where nothing below it became free
pub cursor_kept : (free free' : ℕ → Bool) (mark mark' s : ℕ) → NoneFree free mark s → mark ≤ mark' → ((k : ℕ) → k < s → free k ≡ false → free' k ≡ false)
    → NoneFree free' mark' s
cursor_kept free free' mark mark' s p m h = record { within = omega (arith, p.within); below = λ k l. h k l (p.below k l) }

-- the least free index of a map
pub free_found : (xs : List ℕ) (mark i : ℕ) → AllMapped xs mark i → get_or xs i 0 ≡ 0 → i ≡ least_free xs mark
unfolding least_free
free_found xs mark i h z = cursor_found (λ k. eqb (get_or xs k 0) 0) mark i h (eq-eqb _ 0 z)

pub free_end : (xs : List ℕ) (mark i : ℕ) → AllMapped xs mark i → mark ≤ i → i ≡ least_free xs mark
unfolding least_free
free_end xs mark i h l = cursor_end (λ k. eqb (get_or xs k 0) 0) mark i h l

pub free_mapped : (xs : List ℕ) (mark s : ℕ) → s ≡ least_free xs mark → AllMapped xs mark s
unfolding least_free
free_mapped xs mark s e = cursor_least (λ k. eqb (get_or xs k 0) 0) mark s e

-- Laws of the global taken for a user, and of its cursor.
use Prim.Native.Nat.{ℕ, ◌+◌, ◌≤◌, ◌<◌}
use mathlib.Core.Path.{◌≡◌, sym, ap, ◌∙◌}
use mathlib.Core.Bool.{true, false, ◌||◌}
use mathlib.Core.List.{List}
use mathlib.Core.Logic.{⊎_elim}
use native.Mathlib.Omega.{arith}
use lib.Dec.{eqb, leb}
use lib.ListN.{length, get_or, set}
use lib.Seq.{get_or-set_same, get_or-set_other}
use borrow.Author.Tests.{le-leb, lt-leb}
use Rattle.base.specs.Bounded.{least}
use Rattle.base.proofs.Truth.{same}
use Rattle.base.proofs.MemberLaws.{get_d_default}
use Rattle.scope.specs.Cursor.{NoneFree}
use Rattle.scope.proofs.CursorLaws.{cursor_more, cursor_found, cursor_end, cursor_least, cursor_kept}
use Rattle.mapping.specs.Parts.{free, free_for}

-- ---- the least deleted global

pub free_is : (records : List ℕ) (g : ℕ) → g < length records → leb 36 (get_or records g 0) ≡ free records g
unfolding free
free_is records g l = ap (leb 36) (get_d_default records g 0 47 l)

pub deleted_found : (records : List ℕ) (mark i : ℕ) → mark ≤ length records → i < mark → NoneFree (free records) mark i → 36 ≤ get_or records i 0
    → i ≡ least mark (free records)
deleted_found records mark i m l h d = cursor_found (free records) mark i h (sym (free_is records i (omega arith)) ∙ le-leb 36 _ d)

pub deleted_more : (records : List ℕ) (mark i : ℕ) → mark ≤ length records → i < mark → NoneFree (free records) mark i → get_or records i 0 < 36
    → NoneFree (free records) mark (i + 1)
deleted_more records mark i m l h d = cursor_more (free records) mark i l h (sym (free_is records i (omega arith)) ∙ lt-leb 36 _ d)

pub deleted_end : (records : List ℕ) (mark i : ℕ) → NoneFree (free records) mark i → mark ≤ i → i ≡ least mark (free records)
deleted_end records mark i h l = cursor_end (free records) mark i h l

-- ---- the global taken

pub for_own : (records : List ℕ) (mark u : ℕ) → u < length records → eqb u mark || leb 36 (get_or records u 0) ≡ true → u ≡ free_for records mark u
unfolding free_for
for_own records mark u l e = rw (← free_is records u l, e)

pub for_least : (records : List ℕ) (mark u g : ℕ) → u < length records → eqb u mark || leb 36 (get_or records u 0) ≡ false → g ≡ least mark (free records)
    → g ≡ free_for records mark u
unfolding free_for
for_least records mark u g l e q = rw (← free_is records u l, e) q

-- the cursor goes to the least deleted global
pub for_passed : (records : List ℕ) (mark g : ℕ) → g ≡ least mark (free records) → NoneFree (free records) mark g
for_passed records mark g e = cursor_least (free records) mark g e

-- and is one after a global is taken
pub taken_passed : (records : List ℕ) (mark mark' g from : ℕ) → g < length records → mark ≤ mark' → NoneFree (free records) mark from
    → NoneFree (free (set records g 9)) mark' from
unfolding free
taken_passed records mark mark' g from b m h =
    cursor_kept (free records) (free (set records g 9)) mark mark' from h m
    (λ k l n. ⊎_elim
    (λ (e : k ≡ g). rw (e, get_or-set_same records g 9 47 b))
    (λ (e : k ≡ g → ⊥). rw (get_or-set_other records g k 9 47 e) n)
    (same k g))

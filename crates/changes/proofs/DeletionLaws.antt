-- The deletion of a global, by the test that the code makes.
use Prim.Native.Nat.{ℕ, zero, suc, ◌+◌, ◌≤◌, ◌<◌}
use mathlib.Core.Path.{◌≡◌, refl, sym, ap, ◌∙◌}
use mathlib.Core.Bool.{Bool, true, false, ◌&&◌}
use mathlib.Core.List.{List, [], ◌∷◌}
use native.Mathlib.Omega.{arith}
use lib.Dec.{eqb}
use lib.ListN.{length, get_or, set}
use lib.Seq.{sets}
use Rattle.base.specs.Choice.{pick}
use Rattle.base.proofs.MemberLaws.{get_d_default}
use Rattle.scope.specs.declared.Counts.{Counts}
use Rattle.scope.specs.Table.{Table, table_of, isolated_of, record_of, drop_global, drop_counts}
use Rattle.scope.specs.Notes.{deletes, notes_words}
use Rattle.scope.specs.Outcome.{stay, choose}
use Rattle.scope.specs.Modes.{is_unused, delete_if_unused}
use Rattle.changes.specs.Leaves.{Leaves, Room}
use Rattle.changes.specs.Live.{Live}
use Rattle.changes.proofs.LeavesLaws.{leaves_stay}

-- a record below the length, whatever is read past the end
pub record_read : (t : Table) (g : ℕ) → g < length t.records → get_or t.records g 0 ≡ record_of t g
record_read t g l = get_d_default t.records g 0 47 l

-- a word that was cleared
pub cleared : (xs : List ℕ) (i : ℕ) → get_or (set xs i 0) i 0 ≡ 0
cleared [] i = refl
cleared (x ∷ xs) zero = refl
cleared (x ∷ xs) (suc i) = cleared xs i

-- D or no note
pub delete_count : (g : ℕ) (t : Table) → length (delete_if_unused g t).notes ≡ pick (is_unused t g) 1 0
unfolding delete_if_unused choose
delete_count g t = go (is_unused t g)
  where
    go : (b : Bool) → length (choose {A = List ℕ} b (record { value = []; table = drop_global g t; notes = deletes g ∷ [] })
        (stay [] t)).notes ≡ pick b 1 0
    go true = refl
    go false = refl

-- the lists that a deletion does not read may be any
pub delete_any : (g : ℕ) (t : Table) (at room : ℕ) → Room (delete_if_unused g t) at room → (gu gs a : List ℕ)
    → Room (delete_if_unused g (table_of t.counts gu t.user_from_global t.solver_from_global gs a t.records)) at room
unfolding is_unused
delete_any g t at room r gu gs a =
    let x = delete_count g t in
    let y = delete_count g (table_of t.counts gu t.user_from_global t.solver_from_global gs a t.records) in
    let w = r.words in
    record { words = omega arith }

-- the test that the code makes
abbrev unused_words : List ℕ → List ℕ → List ℕ → ℕ → Bool
unused_words ug sg records g = eqb (get_or ug g 0) 0 && (eqb (get_or sg g 0) 0 && eqb (isolated_of (get_or records g 0)) 1)

module _ (c : Counts) (ug sg records : List ℕ) (g : ℕ) (h : Live c ug sg records g) (gu gs a : List ℕ) where
  unused_read : (b : Bool) → unused_words ug sg records g ≡ b → is_unused (table_of c gu ug sg gs a records) g ≡ b
  unfolding is_unused
  unused_read b e = rw (sym (get_d_default records g 0 47 h.words)) e

  module _ (b : unused_words ug sg records g ≡ true) where
    pub delete_room : (at room : ℕ) → Room (delete_if_unused g (table_of c gu ug sg gs a records)) at room → at + 3 ≤ room
    unfolding delete_if_unused choose
    delete_room at room r = let k = (rw (unused_read true b) at r.words) in omega arith

    pub delete_leaves : (at : ℕ) (c2 : Counts) (records2 words words2 : List ℕ) → c2 ≡ drop_counts c → records2 ≡ set records g (get_or records g 47 + 36)
        → words2 ≡ sets words at (2 ∷ g ∷ 0 ∷ [])
        → Leaves (delete_if_unused g (table_of c gu ug sg gs a records)) at (at + 3) (table_of c2 gu ug sg gs a records2) words words2
    unfolding delete_if_unused choose drop_global notes_words
    delete_leaves at c2 records2 words words2 e p q =
        rw (unused_read true b)
        (record {
          table = ap (λ (d : Counts). table_of d gu ug sg gs a records2) e ∙ ap (λ (l : List ℕ). table_of (drop_counts c) gu ug sg gs a l) p;
          noted = q;
          moved = omega arith;
        })

  pub keep_leaves : unused_words ug sg records g ≡ false → (at : ℕ) (words : List ℕ)
      → Leaves (delete_if_unused g (table_of c gu ug sg gs a records)) at at (table_of c gu ug sg gs a records) words words
  unfolding delete_if_unused choose
  keep_leaves e at words = rw (unused_read false e) (leaves_stay _ at words)

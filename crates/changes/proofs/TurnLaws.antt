-- Laws of n operations in turn.
use Prim.Native.Nat.{ℕ, zero, suc, ◌+◌, ◌≤◌, ◌<◌}
use mathlib.Core.Path.{◌≡◌, sym, ap, ◌∙◌, subst}
use mathlib.Core.List.{List}
use mathlib.Core.Logic.{⊎_elim}
use native.Mathlib.Nat.{eq-or-lt_of_le}
use native.Mathlib.Omega.{arith}
use lib.ListN.{length, length-append}
use Rattle.scope.specs.Table.{Table}
use Rattle.scope.specs.Outcome.{Result, each}
use Rattle.scope.proofs.ResultLaws.{each_zero, each_suc, each_notes}
use Rattle.changes.specs.Leaves.{Leaves, Room}
use Rattle.changes.proofs.LeavesLaws.{leaves_stay, leaves_then, leaves_length}

-- more turns make no fewer notes
pub each_up : (f : ℕ → Table → Result (List ℕ)) (t : Table) (n m : ℕ) → n ≤ m → length (each n f t).notes ≤ length (each m f t).notes
unfolding each
each_up f t n zero l = let e : n ≡ 0 = omega arith in rw e (omega arith)
each_up f t n (suc m) l = ⊎_elim
    (λ (e : n ≡ suc m). rw e (omega arith))
    (λ (k : n < suc m). let x = each_up f t n m (omega arith) in simp length-append (omega arith))
    (eq-or-lt_of_le l)

-- the notes of one more turn
pub each_count : (n : ℕ) (f : ℕ → Table → Result (List ℕ)) (t : Table)
    → length (each (n + 1) f t).notes ≡ length (each n f t).notes + length (f n (each n f t).table).notes
each_count n f t = ap length (each_notes f t n) ∙ length-append (each n f t).notes (f n (each n f t).table).notes

-- a loop begins,
pub turns_none : (f : ℕ → Table → Result (List ℕ)) (t : Table) (words : List ℕ) {at : ℕ} → Leaves (each 0 f t) at at t words words
turns_none f t words {at = at} = subst (λ (x : Result (List ℕ)). Leaves x at at t words words) (sym (each_zero f t)) (leaves_stay t at words)

-- takes one more turn,
pub turns_more : (n : ℕ) (f : ℕ → Table → Result (List ℕ)) (t : Table) (at next : ℕ) (left left2 : Table) (words words2 words3 : List ℕ) {start : ℕ}
    → Leaves (each n f t) start at left words words2 → Leaves (f n left) at next left2 words2 words3
    → Leaves (each (n + 1) f t) start next left2 words words3
turns_more n f t at next left left2 words words2 words3 {start = start} h k =
    subst (λ (x : Result (List ℕ)). Leaves x start next left2 words words3) (sym (each_suc f t n)) (leaves_then (f n) h k)

-- and has room for it
pub turns_room : (n m : ℕ) (f : ℕ → Table → Result (List ℕ)) (t : Table) (at : ℕ) (left : Table) (words words2 : List ℕ)
    → Room (each m f t) 0 (length words) → n < m → Leaves (each n f t) 0 at left words words2
    → Room (f n left) at (length words2)
turns_room n m f t at left words words2 r l h =
    let a = r.words in
    let u = each_up f t (n + 1) m (omega arith) in
    let e = each_count n f t in
    let b = h.moved in
    let w = leaves_length (each n f t) 0 at left words words2 h in
    subst (λ (s : Table). Room (f n s) at (length words2)) (sym h.table) (record { words = omega arith })

-- Laws of `sets`, a run of stores.
use Prim.Native.Nat.{ℕ, suc, ◌+◌, ◌≤◌}
use mathlib.Core.Path.{◌≡◌, refl, sym, ap, ◌∙◌}
use mathlib.Core.List.{List, [], ◌∷◌, ◌++◌, append_assoc}
use native.Mathlib.Nat.{add-zero}
use native.Mathlib.Omega.{arith}
use lib.ListN.{length, take, drop, set}
use lib.Seq.{sets, drop-drop, set_comm}
use Rattle.std.proofs.lemmas.List.Edits.{sets-eq}
use borrow.Rule.Slice.PartMut.{put_mid}

-- one run of stores after another
pub sets_append : (xs ys l : List ℕ) (i : ℕ) → sets l i (xs ++ ys) ≡ sets (sets l i xs) (i + length xs) ys
sets_append [] ys l i = rw add-zero
sets_append (x ∷ xs) ys l i = sets_append xs ys (set l i x) (suc i) ∙ ap (λ (k : ℕ). sets (sets (set l i x) (suc i) xs) k ys) (omega arith)

-- a store just past a run of stores makes the run one longer
pub store_next : (l m xs : List ℕ) (i n x : ℕ) → m ≡ sets l i xs → n ≡ i + length xs → set m n x ≡ sets l i (xs ++ x ∷ [])
store_next l m xs i n x a b = ap (λ (k : List ℕ). set k n x) a ∙ ap (λ (k : ℕ). set (sets l i xs) k x) b ∙ sym (sets_append xs (x ∷ []) l i)

-- a run of stores at the front
pub sets_front : (xs l : List ℕ) → length xs ≤ length l → xs ++ drop (length xs) l ≡ sets l 0 xs
sets_front xs l h =
    let e : 0 + length xs ≡ length xs = omega arith in
    ap (λ (n : ℕ). xs ++ drop n l) (sym e) ∙ sym (sets-eq xs l 0 (omega arith))

-- a part that is replaced by as many words is a run of stores
pub part_sets : (a k : ℕ) (l xs : List ℕ) → k ≡ length xs → a + length xs ≤ length l → put_mid a k l xs ≡ sets l a xs
part_sets a k l xs e h =
    ap (λ (r : List ℕ). take a l ++ (xs ++ r)) (drop-drop k a l ∙ ap (λ (n : ℕ). drop (a + n) l) e)
    ∙ sym (append_assoc (take a l) xs (drop (a + length xs) l))
    ∙ sym (sets-eq xs l a h)

-- a store past a run of stores may come before it
pub store_before : (bs o : List ℕ) (at j d : ℕ) → at + length bs ≤ j → sets (set o j d) at bs ≡ set (sets o at bs) j d
store_before [] o at j d h = refl
store_before (b ∷ bs) o at j d h =
    ap (λ (l : List ℕ). sets l (suc at) bs) (set_comm o j at d b (λ e. omega arith)) ∙ store_before bs (set o at b) (suc at) j d (omega arith)

-- The judging and the counts at a place of the input, as the loops meet them.
use Prim.Native.Nat.{ℕ, suc, ◌+◌, ◌-◌, ◌≤◌, ◌<◌}
use mathlib.Core.Bool.{Bool, true, false, ◌&&◌}
use mathlib.Core.List.{List, [], ◌∷◌, ◌++◌}
use mathlib.Core.Path.{◌≡◌, refl, sym, ap, ap₂, ◌∙◌}
use mir.Val.{bool_byte}
use lib.Dec.{ltb, leb-suc-suc}
use lib.ListN.{length, get_or, drop, drop_of_length-le}
use native.Mathlib.Numerals.{add-one}
use native.Mathlib.Omega.{arith}
use borrow.Author.Tests.{lt-ltb, le-ltb}
use Rattle.base.specs.Choice.{pick}
use Rattle.drat.proofs.Steps.{next}
use Rattle.drat.specs.declared.Format.{Format}
use Rattle.drat.proofs.Shapes.{one_le}
use Rattle.drat.specs.Numeral.{in_range}
use Rattle.drat_judge.specs.Local.{may_follow, ended, before, runs, byte_back, runs_at, tally, starts}

back_suc : (f : Format) (s : List ℕ) (i k : ℕ) → byte_back f s (i + 1) (k + 1) ≡ byte_back f s i k
back_suc f s i k =
    let e : i + 1 - (k + 1) ≡ i - k = omega arith in
    let d : k + 1 - (i + 1) ≡ k - i = omega arith in
    let h : ltb (i + 1) (k + 1) ≡ ltb i k = rw (add-one, add-one) (leb-suc-suc (suc i) k) in
    ap₂ (λ (t : Bool) (j : ℕ). pick t (before f (k + 1 - (i + 1))) (get_or s j 0)) h e ∙ ap (λ (j : ℕ). pick (ltb i k) (before f j) (get_or s (i - k) 0)) d

pub back_at_lem : (f : Format) (s : List ℕ) (i k : ℕ) → k ≤ i → byte_back f s i k ≡ get_or s (i - k) 0
back_at_lem f s i k h = ap (λ (t : Bool). pick t (before f (k - i)) (get_or s (i - k) 0)) (le-ltb i k h)

pub back_before : (f : Format) (s : List ℕ) (i k : ℕ) → i < k → byte_back f s i k ≡ before f (k - i)
back_before f s i k h = ap (λ (t : Bool). pick t (before f (k - i)) (get_or s (i - k) 0)) (lt-ltb i k h)

back_one : (f : Format) (s : List ℕ) (i : ℕ) → byte_back f s (i + 1) 1 ≡ get_or s i 0
back_one f s i = let e : i + 1 - 1 ≡ i = omega arith in back_at_lem f s (i + 1) 1 (omega arith) ∙ ap (λ (j : ℕ). get_or s j 0) e

module _ (f : Format) (s : List ℕ) where
  -- one byte more
  pub runs_next : (i : ℕ) → i < length s → runs_at f s i ≡ may_follow f (byte_back f s i 4) (byte_back f s i 3) (byte_back f s i 2) (byte_back f s i 1)
      (get_or s i 0) && runs_at f s (i + 1)
  unfolding runs
  runs_next i h =
      ap (runs f (byte_back f s i 4) (byte_back f s i 3) (byte_back f s i 2) (byte_back f s i 1)) (next s i h)
      ∙ ap (λ (t : Bool). may_follow f (byte_back f s i 4) (byte_back f s i 3) (byte_back f s i 2) (byte_back f s i 1) (get_or s i 0) && t) (sym here)
    where
      here : runs_at f s (i + 1) ≡ runs f (byte_back f s i 3) (byte_back f s i 2) (byte_back f s i 1) (get_or s i 0) (drop (i + 1) s)
      here =
          ap₂ (λ (x y : ℕ). runs f x y (byte_back f s (i + 1) 2) (byte_back f s (i + 1) 1) (drop (i + 1) s)) (back_suc f s i 3) (back_suc f s i 2)
          ∙ ap₂ (λ (x y : ℕ). runs f (byte_back f s i 3) (byte_back f s i 2) x y (drop (i + 1) s)) (back_suc f s i 1) (back_one f s i)

  runs_done : (i : ℕ) → length s ≤ i → runs_at f s i ≡ ended f (byte_back f s i 4) (byte_back f s i 3) (byte_back f s i 2) (byte_back f s i 1)
  unfolding runs
  runs_done i h = ap (runs f (byte_back f s i 4) (byte_back f s i 3) (byte_back f s i 2) (byte_back f s i 1)) (drop_of_length-le s h)

  pub ended_done : (i a b c p : ℕ) → length s ≤ i → a ≡ byte_back f s i 4 → b ≡ byte_back f s i 3 → c ≡ byte_back f s i 2 → p ≡ byte_back f s i 1
      → ended f a b c p ≡ runs_at f s i
  ended_done i a b c p h ea eb ec ep =
      ap₂ (λ (x y : ℕ). ended f x y c p) ea eb ∙ ap₂ (ended f (byte_back f s i 4) (byte_back f s i 3)) ec ep ∙ sym (runs_done i h)

  -- a turn of a loop that has `ok` for the bytes before place i
  pub runs_turn : (j : Bool) (i : ℕ) → i < length s → (ok : Bool) → ok && runs_at f s i ≡ j
      → (ok && may_follow f (byte_back f s i 4) (byte_back f s i 3) (byte_back f s i 2) (byte_back f s i 1) (get_or s i 0)) && runs_at f s (i + 1) ≡ j
  runs_turn j i h ok e = and_assoc ok (may_follow f (byte_back f s i 4) (byte_back f s i 3) (byte_back f s i 2) (byte_back f s i 1) (get_or s i 0))
      (runs_at f s (i + 1)) ∙ ap (λ (t : Bool). ok && t) (sym (runs_next i h)) ∙ e
    where
      and_assoc : (x y z : Bool) → (x && y) && z ≡ x && (y && z)
      and_assoc true y z = refl
      and_assoc false y z = refl

pub head_turn : (f : Format) (s : List ℕ) (j : Bool) (i a b c p : ℕ) → i < length s → (ok r : Bool) → ok && runs_at f s i ≡ j → a ≡ byte_back f s i 4
    → b ≡ byte_back f s i 3 → c ≡ byte_back f s i 2 → p ≡ byte_back f s i 1 → r ≡ may_follow f a b c p (get_or s i 0) → (ok && r) && runs_at f s (i + 1) ≡ j
head_turn f s j i a b c p h ok r e ea eb ec ep q =
    ap (λ (t : Bool). (ok && t) && runs_at f s (i + 1)) (q ∙ ap₂ (λ (x y : ℕ). may_follow f x y c p (get_or s i 0)) ea eb
    ∙ ap₂ (λ (x y : ℕ). may_follow f (byte_back f s i 4) (byte_back f s i 3) x y (get_or s i 0)) ec ep)
    ∙ runs_turn f s j i h ok e

pub runs_out : (f : Format) (s : List ℕ) (j : Bool) (i : ℕ) → length s ≤ i → 4 ≤ i → (ok : Bool) → ok && runs_at f s i ≡ j
    → ok && ended f (get_or s (i - 4) 0) (get_or s (i - 3) 0) (get_or s (i - 2) 0) (get_or s (i - 1) 0) ≡ j
runs_out f s j i h k ok e =
    ap (λ (t : Bool). ok && t) (ended_done f s i (get_or s (i - 4) 0) (get_or s (i - 3) 0) (get_or s (i - 2) 0) (get_or s (i - 1) 0) h (sym (back_at_lem f s i 4 k))
    (sym (back_at_lem f s i 3 (omega arith))) (sym (back_at_lem f s i 2 (omega arith))) (sym (back_at_lem f s i 1 (omega arith))))
    ∙ e

-- a part judged, and what is ahead of it
pub part_holds : (r x y : Bool) → r ≡ true → r && x ≡ y → x ≡ y
part_holds true x y h e = e
part_holds false x y h e = let z : ◌≡◌ {A = ℕ} 0 1 = cc in absurd (omega arith)

pub part_fails : (r x y : Bool) → r ≡ false → r && x ≡ y → false ≡ y
part_fails true x y h e = let z : ◌≡◌ {A = ℕ} 0 1 = cc in absurd (omega arith)
part_fails false x y h e = e

-- a test as a number
pub as_byte : (t : Bool) → bool_byte t ≡ pick t 1 0
as_byte true = refl
as_byte false = refl

pub as_byte_le : (t : Bool) → bool_byte t ≤ 1
as_byte_le true = omega arith
as_byte_le false = omega arith

pub tally_next : (lo hi : ℕ) (s : List ℕ) (i : ℕ) → i < length s → tally lo hi (drop i s) ≡ pick (in_range lo hi (get_or s i 0)) 1 0 + tally lo hi (drop (i + 1) s)
unfolding tally
tally_next lo hi s i h = ap (tally lo hi) (next s i h)

pub tally_done : (lo hi : ℕ) (s : List ℕ) (i : ℕ) → length s ≤ i → tally lo hi (drop i s) ≡ 0
unfolding tally
tally_done lo hi s i h = ap (tally lo hi) (drop_of_length-le s h)

pub tally_most : (lo hi : ℕ) (l : List ℕ) → tally lo hi l ≤ length l
unfolding tally
tally_most lo hi [] = omega arith
tally_most lo hi (x ∷ l) = let h = tally_most lo hi l in let k = one_le (in_range lo hi x) in omega arith

-- the bytes counted that stand after a separator; p is the byte before place i
pub starts_next : (lo hi p : ℕ) (s : List ℕ) (i : ℕ) → i < length s
    → starts lo hi p (drop i s) ≡ pick (ltb p 45 && in_range lo hi (get_or s i 0)) 1 0 + starts lo hi (get_or s i 0) (drop (i + 1) s)
unfolding starts
starts_next lo hi p s i h = ap (starts lo hi p) (next s i h)

pub starts_done : (lo hi p : ℕ) (s : List ℕ) (i : ℕ) → length s ≤ i → starts lo hi p (drop i s) ≡ 0
unfolding starts
starts_done lo hi p s i h = ap (starts lo hi p) (drop_of_length-le s h)

-- nothing to count
pub tally_none : (lo hi : ℕ) (s : List ℕ) → length s ≡ 0 → tally lo hi s ≡ 0
unfolding tally
tally_none lo hi [] h = refl
tally_none lo hi (x ∷ s) h = absurd (omega arith)

pub starts_none : (lo hi p : ℕ) (s : List ℕ) → length s ≡ 0 → starts lo hi p s ≡ 0
unfolding starts
starts_none lo hi p [] h = refl
starts_none lo hi p (x ∷ s) h = absurd (omega arith)

-- the count of a part and of what is behind it
pub starts_append : (lo hi p : ℕ) (s t : List ℕ) → 0 < length s → starts lo hi p (s ++ t) ≡ starts lo hi p s + starts lo hi (get_or s (length s - 1) 0) t
unfolding starts
starts_append lo hi p [] t h = absurd (omega arith)
starts_append lo hi p (x ∷ []) t h = omega arith
starts_append lo hi p (x ∷ y ∷ s) t h =
    let e : length (x ∷ y ∷ s) - 1 ≡ suc (length (y ∷ s) - 1) = omega arith in
    let g : get_or (x ∷ y ∷ s) (length (x ∷ y ∷ s) - 1) 0 ≡ get_or (y ∷ s) (length (y ∷ s) - 1) 0 = ap (λ (k : ℕ). get_or (x ∷ y ∷ s) k 0) e in
    omega (arith, starts_append lo hi x (y ∷ s) t (omega arith), ap (λ (q : ℕ). starts lo hi q t) g)

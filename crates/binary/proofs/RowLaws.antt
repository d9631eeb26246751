-- One piece after another: a row of words is done up to some place, and the rest is left.
use Rattle.std.specs.Prelude.{Result, Ok, Err}
use Prim.Native.Nat.{ℕ, suc, ◌+◌, ◌-◌, ◌≤◌, ◌<◌}
use mathlib.Core.Path.{◌≡◌, refl, sym, ap, ap₂, ◌∙◌}
use mathlib.Core.Bool.{Bool, true, false}
use mathlib.Core.List.{List, [], ◌∷◌, ◌++◌, map}
use native.Mathlib.Omega.{arith}
use native.Mathlib.Numerals.{add-one}
use lib.ListN.{length, get_or, drop, set, length-append, drop_of_length-le}
use lib.Seq.{sets, set_comm}
use borrow.Author.Tests.{lt-ltb, le-ltb, ltb-true, ltb-false}
use Rattle.base.specs.Choice.{pick}
use Rattle.base.specs.Bounded.{keep_of}
use Rattle.base.proofs.SetsLaws.{sets_append}
use Rattle.drat.specs.Grammar.{Step, encode_step, encode}
use Rattle.drat.specs.declared.Format.{Format}
use Rattle.drat.proofs.Steps.{next}
use Rattle.scope.specs.Binary.{section_words}
use Rattle.scope.specs.declared.Refusal.{Refusal}
use Rattle.scope.specs.declared.Refusal.TheVariants.{Short}
use Rattle.steps.specs.Refusals.{laid}
use Rattle.steps.proofs.WriteLaws.{laid_done, laid_refused}

-- ---- a piece x of the row w, then the rest y

pub row_length : {A : Type 0} (w x y : List A) → w ≡ x ++ y → length w ≡ length x + length y
row_length w x y e = ap length e ∙ length-append x y

-- the piece is written
pub row_put : (w x y o m : List ℕ) (p q : ℕ) → w ≡ x ++ y → m ≡ sets o p x → q ≡ p + length x → sets m q y ≡ sets o p w
row_put w x y o m p q e a b =
    ap₂ (λ (l : List ℕ) (j : ℕ). sets l j y) a b ∙ sym (sets_append x y o p) ∙ sym (ap (sets o p) e)

-- the piece does not fit in what is left of the room, so the whole does not fit
row_short : (room used : ℕ) (whole w x y : List ℕ) → used + length w ≡ length whole → w ≡ x ++ y → room - used < length x → used ≤ room
    → Err Short ≡ laid whole room
row_short room used whole w x y h e l u =
    let k = row_length w x y e in
    rw (lt-ltb room (length whole) (omega arith))

-- all of it fits
pub row_whole : (room used : ℕ) (whole w : List ℕ) → used + length w ≡ length whole → w ≡ [] → used ≤ room → Ok used ≡ laid whole room
row_whole room used whole w h e u =
    let z = ap length e in
    let k : used ≡ length whole = omega arith in
    rw (le-ltb room (length whole) (omega arith)) (ap Ok k)

-- the answer for the piece, opened
pub row_refused : (room used : ℕ) (n : Refusal) (whole w x y : List ℕ) (r : Result ℕ Refusal) → used + length w ≡ length whole → w ≡ x ++ y → used ≤ room
    → r ≡ laid x (room - used) → r ≡ Err n → Err n ≡ laid whole room
row_refused room used n whole w x y r h e u a b =
    let d = laid_refused x (room - used) n r a b in
    ap Err d.1 ∙ row_short room used whole w x y h e (ltb-true (room - used) (length x) d.0) u

pub row_done : (room used k : ℕ) (x : List ℕ) (r : Result ℕ Refusal) → used ≤ room → r ≡ laid x (room - used) → r ≡ Ok k → (used + k ≤ room) × (k ≡ length x)
row_done room used k x r u a b =
    let d = laid_done x (room - used) k r a b in
    let l = ltb-false (room - used) (length x) d.0 in
    let e = d.1 in
    (omega arith, e)

-- a store before a run of stores
set_before : (xs l : List ℕ) (i j x : ℕ) → i < j → set (sets l j xs) i x ≡ sets (set l i x) j xs
set_before [] l i j x h = refl
set_before (y ∷ xs) l i j x h =
    set_before xs (set l j y) i (suc j) x (omega arith)
    ∙ ap (λ (m : List ℕ). sets m (suc j) xs) (set_comm l j i y x (λ e. omega arith))

-- what is kept, and its count before it
pub section_put : (o m kept : List ℕ) (at x : ℕ) → m ≡ sets o (at + 1) kept → x ≡ length kept → set m at x ≡ sets o at (section_words kept)
section_put o m kept at x e k =
    ap (λ (l : List ℕ). set l at x) e
    ∙ set_before kept o at (at + 1) x (omega arith)
    ∙ ap₂ (λ (j y : ℕ). sets (set o at y) j kept) (add-one at) k

-- ---- the members that pass, of those from i on

module _ (q : ℕ → Bool) (es : List ℕ) where
  abbrev pub kept_later : ℕ → List ℕ
  kept_later i = keep_of q (drop i es)

  module _ (i : ℕ) (h : i < length es) where
    one : kept_later i ≡ pick (q (get_or es i 0)) (get_or es i 0 ∷ kept_later (i + 1)) (kept_later (i + 1))
    unfolding keep_of
    one = ap (keep_of q) (next es i h)

    some : q (get_or es i 0) ≡ true → kept_later i ≡ get_or es i 0 ∷ kept_later (i + 1)
    some e = one ∙ rw e

    pub kept_none : q (get_or es i 0) ≡ false → kept_later i ≡ kept_later (i + 1)
    kept_none e = one ∙ rw e

    pub kept_count_lem : q (get_or es i 0) ≡ true → length (kept_later i) ≡ 1 + length (kept_later (i + 1))
    kept_count_lem e = row_length (kept_later i) (get_or es i 0 ∷ []) (kept_later (i + 1)) (some e)

    pub kept_put : (o m : List ℕ) (p k : ℕ) → q (get_or es i 0) ≡ true → m ≡ set o p (get_or es i 0) → k ≡ p + 1
        → sets m k (kept_later (i + 1)) ≡ sets o p (kept_later i)
    kept_put o m p k e u v = row_put (kept_later i) (get_or es i 0 ∷ []) (kept_later (i + 1)) o m p k (some e) u v

    pub kept_pass : (o m : List ℕ) (p k : ℕ) → q (get_or es i 0) ≡ false → m ≡ o → k ≡ p → sets m k (kept_later (i + 1)) ≡ sets o p (kept_later i)
    kept_pass o m p k e u v = λ d. sets (u d) (v d) (sym (kept_none e) d)

  pub kept_last : (i : ℕ) → length es ≤ i → kept_later i ≡ []
  unfolding keep_of
  kept_last i h = ap (keep_of q) (drop_of_length-le es h)

  -- ---- a step for each

  module _ (f : Format) (d : ℕ → Step) where
    abbrev pub steps_later : ℕ → List ℕ
    steps_later i = encode f (map d (kept_later i))

    abbrev step_at : ℕ → List ℕ
    step_at i = encode_step f (d (get_or es i 0))

    module _ (i : ℕ) (h : i < length es) where
      stepped : q (get_or es i 0) ≡ true → steps_later i ≡ step_at i ++ steps_later (i + 1)
      unfolding encode
      stepped e = ap (λ (xs : List ℕ). encode f (map d xs)) (some i h e)

      pub steps_none : q (get_or es i 0) ≡ false → steps_later i ≡ steps_later (i + 1)
      steps_none e = ap (λ (xs : List ℕ). encode f (map d xs)) (kept_none i h e)

      pub steps_length : q (get_or es i 0) ≡ true → length (steps_later i) ≡ length (step_at i) + length (steps_later (i + 1))
      steps_length e = row_length (steps_later i) (step_at i) (steps_later (i + 1)) (stepped e)

      pub steps_put : (o m : List ℕ) (p k : ℕ) → q (get_or es i 0) ≡ true → m ≡ sets o p (step_at i) → k ≡ p + length (step_at i)
          → sets m k (steps_later (i + 1)) ≡ sets o p (steps_later i)
      steps_put o m p k e u v = row_put (steps_later i) (step_at i) (steps_later (i + 1)) o m p k (stepped e) u v

      pub steps_pass : (o m : List ℕ) (p k : ℕ) → q (get_or es i 0) ≡ false → m ≡ o → k ≡ p → sets m k (steps_later (i + 1)) ≡ sets o p (steps_later i)
      steps_pass o m p k e u v = λ j. sets (u j) (v j) (sym (steps_none e) j)

      pub steps_short : (room used k : ℕ) → q (get_or es i 0) ≡ true → used + length (steps_later i) ≡ length (steps_later 0) → used ≤ room
          → k ≡ length (step_at i) → room - used < k → Err Short ≡ laid (steps_later 0) room
      steps_short room used k e a u v l =
          row_short room used (steps_later 0) (steps_later i) (step_at i) (steps_later (i + 1)) a (stepped e) (omega arith) u

    pub steps_done : (i : ℕ) → length es ≤ i → steps_later i ≡ []
    unfolding encode
    steps_done i h = ap (λ (xs : List ℕ). encode f (map d xs)) (kept_last i h)

    pub steps_whole : (i room used : ℕ) → length es ≤ i → used + length (steps_later i) ≡ length (steps_later 0) → used ≤ room
        → Ok used ≡ laid (steps_later 0) room
    steps_whole i room used h a u = row_whole room used (steps_later 0) (steps_later i) a (steps_done i h) u

-- The bytes of a step's literals, one after another, and of a step.
use Prim.Native.Nat.{ℕ, ◌+◌, ◌≤◌, ◌<◌}
use mathlib.Core.Path.{◌≡◌, sym, ap, ◌∙◌}
use mathlib.Core.List.{List, [], ◌∷◌, ◌++◌}
use native.Mathlib.Omega.{arith}
use native.Mathlib.Numerals.{add-one}
use lib.ListN.{length, get_or, drop, length-append, drop_of_length-le}
use lib.Seq.{sets, drop-cons}
use Rattle.base.proofs.SetsLaws.{sets_append}
use Rattle.drat.specs.Grammar.{step_of, opens, ends, number, numbers, encode_step}
use Rattle.drat.specs.declared.Kind.{Kind}
use Rattle.drat.specs.declared.Kind.TheVariants.{Add, Delete}
use Rattle.drat.specs.declared.Format.{Format}
use Rattle.drat.specs.declared.Format.TheVariants.{Text, Binary}

-- one literal more
pub next : (l : List ℕ) (i : ℕ) → i < length l → drop i l ≡ get_or l i 0 ∷ drop (i + 1) l
next l i h = rw (add-one, drop-cons l i 0)

pub numbers_next : (f : Format) (l : List ℕ) (i : ℕ) → i < length l → numbers f (drop i l) ≡ number f (get_or l i 0) ++ numbers f (drop (i + 1) l)
unfolding numbers
numbers_next f l i h = ap (numbers f) (next l i h)

pub numbers_next_length : (f : Format) (l : List ℕ) (i : ℕ) → i < length l
    → length (numbers f (drop i l)) ≡ length (number f (get_or l i 0)) + length (numbers f (drop (i + 1) l))
numbers_next_length f l i h = ap length (numbers_next f l i h) ∙ length-append (number f (get_or l i 0)) (numbers f (drop (i + 1) l))

pub numbers_done : (f : Format) (l : List ℕ) (i : ℕ) → length l ≤ i → numbers f (drop i l) ≡ []
unfolding numbers
numbers_done f l i h = ap (numbers f) (drop_of_length-le l h)

-- a literal written, and then those after it
pub numbers_sets : (f : Format) (l o : List ℕ) (p i : ℕ) → i < length l
    → sets (sets o p (number f (get_or l i 0))) (p + length (number f (get_or l i 0))) (numbers f (drop (i + 1) l)) ≡ sets o p (numbers f (drop i l))
numbers_sets f l o p i h = sym (ap (sets o p) (numbers_next f l i h) ∙ sets_append (number f (get_or l i 0)) (numbers f (drop (i + 1) l)) o p)

pub step_length : (f : Format) (k : Kind) (l : List ℕ) → length (encode_step f (step_of k l)) ≡ length (opens f k) + (length (numbers f l) + length (ends f))
unfolding encode_step
step_length f k l = length-append (opens f k) (numbers f l ++ ends f) ∙ ap (λ (n : ℕ). length (opens f k) + n) (length-append (numbers f l) (ends f))

-- a step is written part by part
pub step_sets : (f : Format) (k : Kind) (l o : List ℕ) (at : ℕ)
    → sets (sets (sets o at (opens f k)) (at + length (opens f k)) (numbers f l)) (at + length (opens f k) + length (numbers f l)) (ends f) ≡ sets o at
    (encode_step f (step_of k l))
unfolding encode_step
step_sets f k l o at = sym (sets_append (opens f k) (numbers f l ++ ends f) o at
    ∙ sets_append (numbers f l) (ends f) (sets o at (opens f k)) (at + length (opens f k)))

pub opens_le : (f : Format) (k : Kind) → length (opens f k) ≤ 2
opens_le Text Add = omega arith
opens_le Text Delete = omega arith
opens_le Binary Add = omega arith
opens_le Binary Delete = omega arith

pub ends_le : (f : Format) → length (ends f) ≤ 2
ends_le Text = omega arith
ends_le Binary = omega arith

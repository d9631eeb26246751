-- Where the digit x is judged small, the number that it ends is at most 4096; and what a number's digits make.
use Prim.Native.Nat.{ℕ, ◌+◌, ◌-◌, ◌*◌, ◌≤◌, ◌<◌}
use mathlib.Core.Bool.{Bool, true, false, ◌&&◌, ◌||◌, not, true≢false}
use mathlib.Core.List.{List, [], ◌∷◌, ◌++◌, append_assoc, append-nil}
use mathlib.Core.Path.{◌≡◌, refl, sym, ap, ◌∙◌, subst, subst₂}
use lib.Dec.{eqb, leb}
use native.Mathlib.Omega.{arith}
use borrow.Author.Tests.{leb-true, eqb-false, not-true}
use Rattle.base.proofs.BelowLaws.{and_left, and_right}
use Rattle.base.specs.Choice.{pick}
use Rattle.drat.proofs.Numerals.{is_in_range, out_of_range, numeral_pos}
use Rattle.drat.specs.Numeral.{in_range, decimal, Numeral, one, more}
use Rattle.drat_judge.specs.Local.{near, small}

not_few : (u v w r : Bool) → (not u || (not v || not w)) || r ≡ true → u ≡ true → v ≡ true → w ≡ true → r ≡ true
not_few true true true r h e f g = h
not_few false v w r h e f g = absurd (true≢false (sym e))
not_few true false w r h e f g = absurd (true≢false (sym f))
not_few true true false r h e f g = absurd (true≢false (sym g))

-- b c p x are digits, and x is judged small
module _ (a b c p x : ℕ) (h : small a b c p x ≡ true) (y : 48 ≤ x) (z : x ≤ 57) (i : 48 ≤ p) (j : p ≤ 57) (k : 48 ≤ c) (l : c ≤ 57) (m : 48 ≤ b) (o : b ≤ 57) where
  abbrev first_digit : Bool
  first_digit = leb b (52 - pick (in_range 49 127 c || (eqb p 57 && in_range 55 127 x)) 1 0)

  four : not (near a) && first_digit ≡ true
  unfolding small
  four = not_few (near b) (near c) (near p) (not (near a) && first_digit) h (is_in_range 48 127 b m (omega arith)) (is_in_range 48 127 c k (omega arith))
      (is_in_range 48 127 p i (omega arith))

  pub within_four : 10 * (10 * (10 * (b - 48) + (c - 48)) + (p - 48)) + (x - 48) ≤ 4096
  within_four = go (in_range 49 127 c) refl (eqb p 57) refl (in_range 55 127 x) refl (and_right (not (near a)) first_digit four)
    where
      go : (u : Bool) → in_range 49 127 c ≡ u → (v : Bool) → eqb p 57 ≡ v → (w : Bool) → in_range 55 127 x ≡ w → leb b (52 - pick (u || (v && w)) 1 0) ≡ true
          → 10 * (10 * (10 * (b - 48) + (c - 48)) + (p - 48)) + (x - 48) ≤ 4096
      go true e v f w g r = omega (arith, leb-true b 51 r)
      go false e true f true g r = omega (arith, leb-true b 51 r)
      go false e true f false g r = omega (arith, leb-true b 52 r, out_of_range 49 127 c e (omega arith), out_of_range 55 127 x g (omega arith))
      go false e false f w g r = omega (arith, leb-true b 52 r, out_of_range 49 127 c e (omega arith), eqb-false p 57 f)

  -- there is no fifth digit
  pub no_fifth : 48 ≤ a → a ≤ 57 → ⊥
  no_fifth q r = true≢false (sym (is_in_range 48 127 a q (omega arith)) ∙ not-true (near a) (and_left (not (near a)) first_digit four))

-- ---- a number's digits
pub digit_more : (ds : List ℕ) (n x : ℕ) → 48 ≤ x → x ≤ 57 → Numeral decimal ds n → Numeral decimal (ds ++ x ∷ []) (10 * n + (x - 48))
digit_more ds n x h k d =
    let e : 48 + (x - 48) ≡ x = omega arith in
    subst₂ (λ (y w : ℕ). Numeral decimal (ds ++ y ∷ []) w) e (omega arith) (more {d = x - 48} (omega arith) d)

pub digit_one : (x : ℕ) → 49 ≤ x → x ≤ 57 → Numeral decimal (x ∷ []) (x - 48)
digit_one x h k =
    let e : 48 + (x - 48) ≡ x = omega arith in
    subst (λ (y : ℕ). Numeral decimal (y ∷ []) (x - 48)) e (one {d = x - 48} (omega arith) (omega arith))

-- after the digits ds, l is the rest of a number up to v, and then Rest
pub record NumberHere (v : ℕ) (Rest : List ℕ → Type 0) (ds l : List ℕ) : Type 0 where
  pub digits : List ℕ
  pub rest : List ℕ
  pub index : ℕ
  pub split : l ≡ digits ++ rest
  pub spelled : Numeral decimal (ds ++ digits) (index + 1)
  pub small : index < v
  pub then : Rest rest

pub with_digit_lem : {v : ℕ} {Rest : List ℕ → Type 0} (ds : List ℕ) (x : ℕ) (l : List ℕ) → NumberHere v Rest (ds ++ x ∷ []) l → NumberHere v Rest ds (x ∷ l)
with_digit_lem ds x l n =
    record {
      digits = x ∷ n.digits;
      rest = n.rest;
      index = n.index;
      split = ap (λ (m : List ℕ). x ∷ m) n.split;
      spelled = subst (λ (m : List ℕ). Numeral decimal m (n.index + 1)) (append_assoc ds (x ∷ []) n.digits) n.spelled;
      small = n.small;
      then = n.then;
    }

pub with_rest : {v : ℕ} {Rest : List ℕ → Type 0} (ds l : List ℕ) (n : ℕ) → Numeral decimal ds n → n ≤ v → Rest l → NumberHere v Rest ds l
with_rest ds l n d h r =
    let z = numeral_pos decimal d in
    record {
      digits = [];
      rest = l;
      index = n - 1;
      split = refl;
      spelled = subst₂ (λ (m : List ℕ) (w : ℕ). Numeral decimal m w) (sym (append-nil ds)) (omega arith) d;
      small = omega arith;
      then = r;
    }

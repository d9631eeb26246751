-- What a test on neighbours says, byte by byte.
use Prim.Native.Nat.{ℕ, ◌+◌, ◌-◌, ◌*◌, ◌≤◌, ◌<◌}
use mathlib.Core.Bool.{Bool, true, false, ◌&&◌, ◌||◌, not, true≢false}
use mathlib.Core.List.{List, [], ◌∷◌}
use mathlib.Core.Path.{◌≡◌, refl, sym, ap, ap₂, ◌∙◌}
use lib.Dec.{eqb}
use native.Mathlib.Omega.{arith}
use borrow.Author.Tests.{eqb-true, eqb-false, eq-eqb, ne_eqb, not-true}
use Rattle.base.proofs.BelowLaws.{and_left, and_right}
use Rattle.base.specs.Choice.{pick}
use Rattle.drat.proofs.Numerals.{in_range_is, is_in_range, below_range}
use Rattle.drat.specs.Numeral.{in_range, digit}
use Rattle.dimacs_judge.specs.declared.limit.Limit.{Limit}
use Rattle.drat_judge.specs.Local.{near, closing}
use Rattle.dimacs_judge.specs.Limits.{LimitOf, above}
use Rattle.dimacs_judge.proofs.LimitLaws.{within_one, within_two, within_three, within_four, no_fifth}
use Rattle.dimacs_judge.specs.Local.{known, line_next, may_follow, runs}

pub runs_cons : (t : Limit) (a b c p x : ℕ) (l : List ℕ) → runs t a b c p (x ∷ l) ≡ true → (may_follow t a b c p x ≡ true) × (runs t b c p x l ≡ true)
unfolding runs
runs_cons t a b c p x l e = (and_left (may_follow t a b c p x) (runs t b c p x l) e, and_right (may_follow t a b c p x) (runs t b c p x l) e)

pub runs_end : (t : Limit) (a b c p : ℕ) → runs t a b c p [] ≡ true → p ≡ 10
unfolding runs
runs_end t a b c p e = eqb-true p 10 e

-- ---- the test on x after c p
data Known (p x : ℕ) : Type 0 where
  digits : 48 ≤ x → x ≤ 57 → Known p x
  feeds : x ≡ 10 → Known p x
  blanks : near p ≡ true → x ≡ 32 → Known p x
  signs : near p ≡ false → x ≡ 45 → Known p x

known_is : (p x : ℕ) → known p x ≡ true → Known p x
known_is p x h = go (digit x) refl (eqb x 10) refl (near p) refl h
  where
    go : (t : Bool) → digit x ≡ t → (u : Bool) → eqb x 10 ≡ u → (w : Bool) → near p ≡ w → t || (u || pick w (eqb x 32) (eqb x 45)) ≡ true → Known p x
    go true e u f w g h = let d = in_range_is 48 57 x e in digits d.0 d.1
    go false e true f w g h = feeds (eqb-true x 10 f)
    go false e false f true g h = blanks g (eqb-true x 32 h)
    go false e false f false g h = signs g (eqb-true x 45 h)

-- what is said of x
record Next (t : Limit) (a b c p x : ℕ) : Type 0 where
  kind : Known p x
  feed : eqb x 10 ≡ closing c p
  sign : p ≡ 45 → 49 ≤ x
  within : above t a b c p x ≡ false

same_test : (z w : Bool) → pick z w (not w) ≡ true → z ≡ w
same_test true true h = refl
same_test true false h = sym h
same_test false true h = h
same_test false false h = refl

not_both : (a b : Bool) → not (a && not b) ≡ true → a ≡ true → b ≡ true
not_both true true h e = refl
not_both true false h e = h
not_both false b h e = absurd (true≢false (sym e))

next_is : (t : Limit) (a b c p x : ℕ) → may_follow t a b c p x ≡ true → Next t a b c p x
unfolding may_follow line_next
next_is t a b c p x h =
    let sg = not (eqb p 45 && not (in_range 49 127 x)) in
    let fd = pick (eqb x 10) (closing c p) (not (closing c p)) in
    let l = and_left (known p x && (sg && fd)) (not (above t a b c p x)) h in
    let r = and_right (known p x) (sg && fd) l in
    record {
      kind = known_is p x (and_left (known p x) (sg && fd) l);
      feed = same_test (eqb x 10) (closing c p) (and_right sg fd r);
      sign = λ e. (in_range_is 49 127 x (not_both (eqb p 45) (in_range 49 127 x) (and_left sg fd r) (eq-eqb p 45 e))).0;
      within = not-true (above t a b c p x) (and_right (known p x && (sg && fd)) (not (above t a b c p x)) h);
    }

-- ---- what x may be, by what stands before it
-- where a number or the closing 0 may begin
pub data First (v x : ℕ) : Type 0 where
  closes : x ≡ 48 → First v x
  negative : x ≡ 45 → First v x
  begins : 49 ≤ x → x ≤ 57 → x - 48 ≤ v → First v x

-- after a digit
pub data After (v : ℕ) (n x : ℕ) : Type 0 where
  blank : x ≡ 32 → After v n x
  further : 48 ≤ x → x ≤ 57 → 10 * n + (x - 48) ≤ v → After v n x

module _ (v : ℕ) (t : Limit) (hv : v ≤ 4096) (lim : LimitOf v t) (a b c p x : ℕ) (h : may_follow t a b c p x ≡ true) where
  no_feed : closing c p ≡ false → x ≡ 10 → ⊥
  no_feed e z = true≢false (sym (eq-eqb x 10 z) ∙ (next_is t a b c p x h).feed ∙ e)

  within : above t a b c p x ≡ false
  within = (next_is t a b c p x h).within

  pub after_start : p < 45 → First v x
  after_start k = go (next_is t a b c p x h).kind
    where
      nc : closing c p ≡ false
      nc = ap (λ (u : Bool). u && not (near c)) (ne_eqb p 48 (omega arith))

      split : 48 ≤ x → x ≤ 57 → (u : Bool) → eqb x 48 ≡ u → First v x
      split i j true e = closes (eqb-true x 48 e)
      split i j false e = let n = eqb-false x 48 e in begins (omega arith) j (within_one v t hv lim a b c p x within i j (omega arith))

      go : Known p x → First v x
      go (digits i j) = split i j (eqb x 48) refl
      go (feeds e) = absurd (no_feed nc e)
      go (blanks g e) = absurd (omega (arith, in_range_is 48 127 p g))
      go (signs g e) = negative e

  pub after_minus : p ≡ 45 → (49 ≤ x) × (x ≤ 57) × (x - 48 ≤ v)
  after_minus k = go (next_is t a b c p x h).kind
    where
      s : 49 ≤ x
      s = (next_is t a b c p x h).sign k

      go : Known p x → (49 ≤ x) × (x ≤ 57) × (x - 48 ≤ v)
      go (digits i j) = (s, j, within_one v t hv lim a b c p x within i j (omega arith))
      go (feeds e) = absurd (omega (arith, s))
      go (blanks g e) = absurd (omega (arith, s))
      go (signs g e) = absurd (omega (arith, s))

  pub after_zero : p ≡ 48 → c < 48 → x ≡ 10
  after_zero k l = eqb-true x 10 ((next_is t a b c p x h).feed ∙ ap₂ (λ (u w : Bool). u && not w) (eq-eqb p 48 k) (below_range 48 127 c l))

  module _ (i : 48 ≤ p) (j : p ≤ 57) where
    np : near p ≡ true
    np = is_in_range 48 127 p i (omega arith)

    -- the digits before x make n, and with x a number within the limit
    after_digit : (n : ℕ) → closing c p ≡ false → (48 ≤ x → x ≤ 57 → 10 * n + (x - 48) ≤ v) → After v n x
    after_digit n nc f = go (next_is t a b c p x h).kind
      where
        go : Known p x → After v n x
        go (digits k l) = further k l (f k l)
        go (feeds e) = absurd (no_feed nc e)
        go (blanks g e) = blank e
        go (signs g e) = absurd (true≢false (sym np ∙ g))

    pub after_first : 49 ≤ p → c < 48 → After v (p - 48) x
    after_first k l = after_digit (p - 48) (ap (λ (u : Bool). u && not (near c)) (ne_eqb p 48 (omega arith)))
        (λ y z. within_two v t hv lim a b c p x within y z i j l)

    module _ (k : 48 ≤ c) (l : c ≤ 57) where
      nc : near c ≡ true
      nc = is_in_range 48 127 c k (omega arith)

      not_closing : closing c p ≡ false
      not_closing = go (eqb p 48)
        where
          go : (u : Bool) → u && not (near c) ≡ false
          go true = ap not nc
          go false = refl

      pub after_second : b < 48 → After v (10 * (c - 48) + (p - 48)) x
      after_second m = after_digit (10 * (c - 48) + (p - 48)) not_closing (λ y z. within_three v t hv lim a b c p x within y z i j k l m)

      module _ (m : 48 ≤ b) (o : b ≤ 57) where
        pub after_third : After v (10 * (10 * (b - 48) + (c - 48)) + (p - 48)) x
        after_third = after_digit (10 * (10 * (b - 48) + (c - 48)) + (p - 48)) not_closing
            (λ y z. within_four v t hv lim a b c p x within y z i j k l m o)

        -- a fifth digit is refused
        pub after_fourth : 48 ≤ a → a ≤ 57 → x ≡ 32
        after_fourth q r = go (next_is t a b c p x h).kind
          where
            go : Known p x → x ≡ 32
            go (digits y z) = absurd (no_fifth v t hv lim a b c p x within y z i j k l m o q r)
            go (feeds e) = absurd (no_feed not_closing e)
            go (blanks g e) = e
            go (signs g e) = absurd (true≢false (sym np ∙ g))

-- Where the digit x is not above the limit, the number that it ends is within it.
use Prim.Native.Nat.{ℕ, ◌+◌, ◌-◌, ◌*◌, ◌/◌, ◌%◌, ◌≤◌, ◌<◌}
use mathlib.Core.Bool.{Bool, true, false, ◌&&◌, ◌||◌, not, true≢false}
use mathlib.Core.Path.{◌≡◌, refl, sym, ap, ap₂, ◌∙◌}
use lib.Dec.{leb}
use native.Mathlib.Omega.{arith}
use borrow.Author.Tests.{leb-true, leb-false, lt-ltb, le-ltb}
use Rattle.base.specs.Choice.{pick}
use Rattle.drat.proofs.Numerals.{is_in_range, below_range}
use Rattle.drat.specs.Numeral.{digit}
use Rattle.dimacs_judge.specs.declared.limit.Limit.{Limit}
use Rattle.drat_judge.specs.Local.{near}
use mir.Val.{bool_byte}
use Rattle.drat_judge.proofs.RunsLaws.{as_byte}
use Rattle.dimacs_judge.specs.Limits.{LimitOf, raised, fits_digits, fits, above}

-- ---- the number that ends with x
raised_low : (y : ℕ) → y < 48 → raised y ≡ 48
raised_low y h = omega arith

raised_high : (y : ℕ) → 48 ≤ y → raised y ≡ y
raised_high y h = omega arith

-- the limit, digit by digit
limit_digits : (v : ℕ) → v ≤ 4096 → v ≡ 1000 * (v / 1000) + 100 * (v / 100 % 10) + 10 * (v / 10 % 10) + v % 10
limit_digits v h = omega arith

-- a digit more in front: y and r are what the lower digits make of the number and of the limit, and k says whether y is within r
abbrev Within : Bool → ℕ → ℕ → Type 0
Within true y r = y ≤ r
Within false y r = r < y

within_ones : (x r : ℕ) → 48 ≤ x → (k : Bool) → leb x (48 + r) ≡ k → Within k (x - 48) r
within_ones x r h true e = let z = leb-true x (48 + r) e in omega arith
within_ones x r h false e = let z = leb-false x (48 + r) e in omega arith

module _ (d q y r : ℕ) (hd : 48 ≤ d) where
  within_tens : y < 10 → r < 10 → (k : Bool) → Within k y r → (l : Bool) → leb d (47 + q + pick k 1 0) ≡ l → Within l (10 * (d - 48) + y) (10 * q + r)
  within_tens hy hr true w true e = let z = leb-true d (47 + q + 1) e in omega arith
  within_tens hy hr true w false e = let z = leb-false d (47 + q + 1) e in omega arith
  within_tens hy hr false w true e = let z = leb-true d (47 + q + 0) e in omega arith
  within_tens hy hr false w false e = let z = leb-false d (47 + q + 0) e in omega arith

  within_hundreds : y < 100 → r < 100 → (k : Bool) → Within k y r → (l : Bool) → leb d (47 + q + pick k 1 0) ≡ l
      → Within l (100 * (d - 48) + y) (100 * q + r)
  within_hundreds hy hr true w true e = let z = leb-true d (47 + q + 1) e in omega arith
  within_hundreds hy hr true w false e = let z = leb-false d (47 + q + 1) e in omega arith
  within_hundreds hy hr false w true e = let z = leb-true d (47 + q + 0) e in omega arith
  within_hundreds hy hr false w false e = let z = leb-false d (47 + q + 0) e in omega arith

  within_thousands : y < 1000 → r < 1000 → (k : Bool) → Within k y r → leb d (47 + q + pick k 1 0) ≡ true → 1000 * (d - 48) + y ≤ 1000 * q + r
  within_thousands hy hr true w e = let z = leb-true d (47 + q + 1) e in omega arith
  within_thousands hy hr false w e = let z = leb-true d (47 + q + 0) e in omega arith

digits_within : (v : ℕ) (t : Limit) → v ≤ 4096 → LimitOf v t → (b c p x : ℕ) → 48 ≤ b → 48 ≤ c → 48 ≤ p → 48 ≤ x → x ≤ 57 → p ≤ 57 → c ≤ 57
    → fits_digits t b c p x ≡ true
    → 1000 * (b - 48) + (100 * (c - 48) + (10 * (p - 48) + (x - 48))) ≤ v
digits_within v t hv lim b c p x hb hc hp hx kx kp kc h = go (leb x t.ones) refl _ refl _ refl h
  where
    q₀ : ℕ
    q₀ = v % 10

    q₁ : ℕ
    q₁ = v / 10 % 10

    q₂ : ℕ
    q₂ = v / 100 % 10

    q₃ : ℕ
    q₃ = v / 1000

    go : (k : Bool) → leb x t.ones ≡ k → (l : Bool) → leb p (t.tens + pick k 1 0) ≡ l → (m : Bool) → leb c (t.hundreds + pick l 1 0) ≡ m
        → leb b (t.thousands + pick m 1 0) ≡ true → 1000 * (b - 48) + (100 * (c - 48) + (10 * (p - 48) + (x - 48))) ≤ v
    go k e l f m g h =
        let w₀ = within_ones x q₀ hx k (ap (leb x) (sym lim.ones_is) ∙ e) in
        let w₁ = within_tens p q₁ (x - 48) q₀ hp (omega arith) (omega arith) k w₀ l (ap (λ (u : ℕ). leb p (u + pick k 1 0)) (sym lim.tens_is) ∙ f) in
        let w₂ = within_hundreds c q₂ (10 * (p - 48) + (x - 48)) (10 * q₁ + q₀) hc (omega arith) (omega arith) l w₁ m
        (ap (λ (u : ℕ). leb c (u + pick l 1 0)) (sym lim.hundreds_is) ∙ g) in
        let w₃ = within_thousands b q₃ (100 * (c - 48) + (10 * (p - 48) + (x - 48))) (100 * q₂ + (10 * q₁ + q₀)) hb (omega arith) (omega arith) m w₂
        (ap (λ (u : ℕ). leb b (u + pick m 1 0)) (sym lim.thousands_is) ∙ h) in
        omega (arith, w₃, limit_digits v hv)

fits_at : (t : Limit) (b c p x b' c' p' : ℕ) → raised (pick (near p && near c) b 0) ≡ b' → raised (pick (near p) c 0) ≡ c' → raised p ≡ p'
    → fits t b c p x ≡ true → fits_digits t b' c' p' x ≡ true
unfolding fits
fits_at t b c p x b' c' p' eb ec ep h =
    sym (ap₂ (λ (y z : ℕ). fits_digits t y z (raised p) x) eb ec ∙ ap (λ (y : ℕ). fits_digits t b' c' y x) ep) ∙ h

not_either : (a b d : Bool) → d && (a || not b) ≡ false → d ≡ true → (a ≡ false) × (b ≡ true)
not_either a b false h e = absurd (true≢false (sym e))
not_either true b true h e = absurd (true≢false h)
not_either false true true h e = (refl, refl)
not_either false false true h e = absurd (true≢false h)

above_not : (t : Limit) (a b c p x : ℕ) → above t a b c p x ≡ false → digit x ≡ true
    → (near a && (near b && (near c && near p)) ≡ false) × (fits t b c p x ≡ true)
unfolding above
above_not t a b c p x h = not_either (near a && (near b && (near c && near p))) (fits t b c p x) (digit x) h

-- x is a digit that is not above the limit v
module _ (v : ℕ) (t : Limit) (hv : v ≤ 4096) (lim : LimitOf v t) (a b c p x : ℕ) (h : above t a b c p x ≡ false) (y : 48 ≤ x) (z : x ≤ 57) where
  fitting : (b' c' p' : ℕ) → 48 ≤ b' → 48 ≤ c' → 48 ≤ p' → p' ≤ 57 → c' ≤ 57 → raised (pick (near p && near c) b 0) ≡ b'
      → raised (pick (near p) c 0) ≡ c' → raised p ≡ p' → 1000 * (b' - 48) + (100 * (c' - 48) + (10 * (p' - 48) + (x - 48))) ≤ v
  fitting b' c' p' hb hc hp kp kc eb ec ep =
      digits_within v t hv lim b' c' p' x hb hc hp y z kp kc
      (fits_at t b c p x b' c' p' eb ec ep (above_not t a b c p x h (is_in_range 48 57 x y z)).1)

  -- no digit is before x
  pub within_one : p < 48 → x - 48 ≤ v
  within_one k =
      let np = below_range 48 127 p k in
      let w = fitting 48 48 48 (omega arith) (omega arith) (omega arith) (omega arith) (omega arith)
      (ap (λ (u : Bool). raised (pick (u && near c) b 0)) np) (ap (λ (u : Bool). raised (pick u c 0)) np) (raised_low p k) in
      omega (arith, w)

  module _ (i : 48 ≤ p) (j : p ≤ 57) where
    np : near p ≡ true
    np = is_in_range 48 127 p i (omega arith)

    -- one digit is before x, two, three
    pub within_two : c < 48 → 10 * (p - 48) + (x - 48) ≤ v
    within_two l =
        let nc = below_range 48 127 c l in
        let w = fitting 48 48 p (omega arith) (omega arith) i j (omega arith)
        (ap₂ (λ (u o : Bool). raised (pick (u && o) b 0)) np nc) (ap (λ (u : Bool). raised (pick u c 0)) np ∙ raised_low c l) (raised_high p i) in
        omega (arith, w)

    module _ (k : 48 ≤ c) (l : c ≤ 57) where
      nc : near c ≡ true
      nc = is_in_range 48 127 c k (omega arith)

      pub within_three : b < 48 → 10 * (10 * (c - 48) + (p - 48)) + (x - 48) ≤ v
      within_three m =
          let w = fitting 48 c p (omega arith) k i j l
          (ap₂ (λ (u o : Bool). raised (pick (u && o) b 0)) np nc ∙ raised_low b m) (ap (λ (u : Bool). raised (pick u c 0)) np ∙ raised_high c k)
          (raised_high p i) in
          omega (arith, w)

      module _ (m : 48 ≤ b) (o : b ≤ 57) where
        pub within_four : 10 * (10 * (10 * (b - 48) + (c - 48)) + (p - 48)) + (x - 48) ≤ v
        within_four =
            let w = fitting b c p m k i j l
            (ap₂ (λ (u o : Bool). raised (pick (u && o) b 0)) np nc ∙ raised_high b m) (ap (λ (u : Bool). raised (pick u c 0)) np ∙ raised_high c k)
            (raised_high p i) in
            omega (arith, w)

        -- there is no fifth digit
        pub no_fifth : 48 ≤ a → a ≤ 57 → ⊥
        no_fifth q r = true≢false (sym (ap₂ (λ (u w : Bool). u && (w && (near c && near p))) (is_in_range 48 127 a q (omega arith))
            (is_in_range 48 127 b m (omega arith)) ∙ ap₂ (λ (u w : Bool). u && w) nc np) ∙ (above_not t a b c p x h (is_in_range 48 57 x y z)).0)

-- tests as numbers
pub fits_bytes : (t : Limit) (b c p x : ℕ)
    → leb b (t.thousands + bool_byte (leb c (t.hundreds + bool_byte (leb p (t.tens + bool_byte (leb x t.ones)))))) ≡ fits_digits t b c p x
fits_bytes t b c p x =
    ap (λ (n : ℕ). leb b (t.thousands + bool_byte (leb c (t.hundreds + bool_byte (leb p (t.tens + n)))))) (as_byte (leb x t.ones))
    ∙ ap (λ (n : ℕ). leb b (t.thousands + bool_byte (leb c (t.hundreds + n)))) (as_byte _)
    ∙ ap (λ (n : ℕ). leb b (t.thousands + n)) (as_byte _)

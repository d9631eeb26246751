-- A number's bytes, by how many they are: what each byte is, and the code.
use Prim.Native.Nat.{ℕ, ◌+◌, ◌-◌, ◌*◌, ◌/◌, ◌%◌, ◌≤◌, ◌<◌}
use mathlib.Core.Bool.{Bool}
use mathlib.Core.List.{List, ◌∷◌, ◌++◌}
use mathlib.Core.Logic.{⊎_elim}
use mathlib.Core.Path.{◌≡◌, sym, ap, ap₂, ◌∙◌, subst, subst₂}
use lib.ListN.{length, get_or, drop}
use lib.Seq.{get_or-drop}
use native.Mathlib.Nat.{mul-le-mul_left, le_trans}
use native.Mathlib.Omega.{arith}
use borrow.Author.Tests.{eq-eqb, ne_eqb}
use Rattle.base.proofs.Truth.{split}
use Rattle.base.specs.Choice.{pick}
use Rattle.drat.proofs.Numerals.{numeral_bytes}
use Rattle.drat.proofs.Shapes.{digits_1, digits_2, digits_3, digits_4}
use Rattle.drat.proofs.Sound.{signed_sound}
use Rattle.drat.specs.Grammar.{Signed, plus, minus}
use Rattle.drat.specs.Numeral.{decimal, bytes_of}
use Rattle.drat.specs.Reading.{signed_from}
use Rattle.drat.specs.declared.Token.{Token}
use Rattle.drat.specs.declared.Token.TheVariants.{Lit}
use Rattle.drat_read.specs.Known.{IsNumber, lead_of, MinusOrDigit}
use Rattle.std.specs.Prelude.{Option, Some}

-- a literal's code and place may be written as any sums that they are
pub lit_as : (t : Option Token) (c j k i : ℕ) → t ≡ Some (Lit c j) → k ≡ c → i ≡ j → t ≡ Some (Lit k i)
lit_as t c j k i e f g = e ∙ ap₂ (λ (x y : ℕ). Some (Lit x y)) (sym f) (sym g)

pub product : (w x : ℕ) → w ≤ 2000 → x ≤ 255 → w * x ≤ 510000
product w x hw hx = le_trans (mul-le-mul_left w hx) (omega arith)

pub lead_digit : (b w : ℕ) → 48 ≤ b → lead_of b w ≡ w * (b - 48)
lead_digit b w h = ap (λ (u : Bool). pick u 1 (w * (b - 48))) (ne_eqb b 45 (omega arith))

pub lead_minus : (b w : ℕ) → b ≡ 45 → lead_of b w ≡ 1
lead_minus b w h = ap (λ (u : Bool). pick u 1 (w * (b - 48))) (eq-eqb b 45 h)

-- the bytes of a number of code c from place i on; j is the place of the byte after it
pub data Shape (s : List ℕ) (i c j : ℕ) : Type 0 where
  one : 49 ≤ get_or s i 0 → get_or s (i + 1) 0 < 45 → c + 2 ≡ 2 * (get_or s i 0 - 48) → j ≡ i + 1 → Shape s i c j
  two : MinusOrDigit (get_or s i 0) → 48 ≤ get_or s (i + 1) 0 → get_or s (i + 2) 0 < 45 → c + 2 ≡ lead_of (get_or s i 0) 20 + 2 * (get_or s (i + 1) 0 - 48)
      → j ≡ i + 2
      → Shape s i c j
  three : MinusOrDigit (get_or s i 0) → 48 ≤ get_or s (i + 1) 0 → 48 ≤ get_or s (i + 2) 0 → get_or s (i + 3) 0 < 45
      → c + 2 ≡ lead_of (get_or s i 0) 200 + 20 * (get_or s (i + 1) 0 - 48) + 2 * (get_or s (i + 2) 0 - 48) → j ≡ i + 3 → Shape s i c j
  four : MinusOrDigit (get_or s i 0) → 48 ≤ get_or s (i + 1) 0 → 48 ≤ get_or s (i + 2) 0 → 48 ≤ get_or s (i + 3) 0 → get_or s (i + 4) 0 < 45
      → c + 2 ≡ lead_of (get_or s i 0) 2000 + 200 * (get_or s (i + 1) 0 - 48) + 20 * (get_or s (i + 2) 0 - 48) + 2 * (get_or s (i + 3) 0 - 48) → j ≡ i + 4
      → Shape s i c j
  five : 48 ≤ get_or s (i + 1) 0 → 48 ≤ get_or s (i + 2) 0 → 48 ≤ get_or s (i + 3) 0 → 48 ≤ get_or s (i + 4) 0
      → c + 1 ≡ 2000 * (get_or s (i + 1) 0 - 48) + 200 * (get_or s (i + 2) 0 - 48) + 20 * (get_or s (i + 3) 0 - 48) + 2 * (get_or s (i + 4) 0 - 48) → j ≡ i + 5
      → Shape s i c j

-- the sums of four digits, apart from what the digits are
four_digits : (n : ℕ) → n < 10000 → n ≡ 1000 * (n / 1000) + 100 * (n / 100 % 10) + 10 * (n / 10 % 10) + n % 10
four_digits n h = omega arith

plus_sum : (n a b c d w x y z k : ℕ) → 0 < n → n ≡ 1000 * a + 100 * b + 10 * c + d → w ≡ 48 + a → x ≡ 48 + b → y ≡ 48 + c → z ≡ 48 + d
    → k ≡ 2000 * (w - 48) → 2 * (n - 1) + 2 ≡ k + 200 * (x - 48) + 20 * (y - 48) + 2 * (z - 48)
plus_sum n a b c d w x y z k h e p q r t u =
    let o : w - 48 ≡ a = omega (arith, p) in
    let o₁ : x - 48 ≡ b = omega (arith, q) in
    let o₂ : y - 48 ≡ c = omega (arith, r) in
    let o₃ : z - 48 ≡ d = omega (arith, t) in
    omega (arith, h, e, u, o, o₁, o₂, o₃)

minus_sum : (n a b c d w x y z : ℕ) → 0 < n → n ≡ 1000 * a + 100 * b + 10 * c + d → w ≡ 48 + a → x ≡ 48 + b → y ≡ 48 + c → z ≡ 48 + d
    → 2 * (n - 1) + 1 + 1 ≡ 2000 * (w - 48) + 200 * (x - 48) + 20 * (y - 48) + 2 * (z - 48)
minus_sum n a b c d w x y z h e p q r t =
    let o : w - 48 ≡ a = omega (arith, p) in
    let o₁ : x - 48 ≡ b = omega (arith, q) in
    let o₂ : y - 48 ≡ c = omega (arith, r) in
    let o₃ : z - 48 ≡ d = omega (arith, t) in
    omega (arith, h, e, o, o₁, o₂, o₃)

module _ (s : List ℕ) (i : ℕ) where
  byte : (l : List ℕ) → drop i s ≡ l → (k : ℕ) → get_or s (i + k) 0 ≡ get_or l k 0
  byte l e k = sym (get_or-drop i s k 0) ∙ ap (λ (z : List ℕ). get_or z k 0) e

  byte_first : (l : List ℕ) → drop i s ≡ l → get_or s i 0 ≡ get_or l 0 0
  byte_first l e = let z : i ≡ i + 0 = omega arith in ap (λ (x : ℕ). get_or s x 0) z ∙ byte l e 0

  ended : (x y : ℕ) → x ≡ y → get_or s x 0 < 45 → get_or s y 0 < 45
  ended x y e h = subst (λ (z : ℕ). get_or s z 0 < 45) e h

  -- no minus: the number n, and then m
  module _ (n : ℕ) (m : List ℕ) (e : drop i s ≡ bytes_of decimal n ++ m) (t : get_or s (i + length (bytes_of decimal n)) 0 < 45)
    where
      plus_one : 0 < n → n < 10 → Shape s i (2 * (n - 1)) (i + length (bytes_of decimal n))
      plus_one h k =
          let z = digits_1 n h k in
          let w : drop i s ≡ (48 + n) ∷ m = e ∙ ap (λ (y : List ℕ). y ++ m) z in
          let b₀ : get_or s i 0 ≡ 48 + n = byte_first _ w in
          let b₁ : get_or s (i + 1) 0 < 45 = ended _ (i + 1) (omega (arith, ap length z)) t in
          one (omega (arith, b₀)) b₁ (omega (arith, b₀)) (omega (arith, ap length z))

      plus_two : 10 ≤ n → n < 100 → Shape s i (2 * (n - 1)) (i + length (bytes_of decimal n))
      plus_two h k =
          let z = digits_2 n h k in
          let w : drop i s ≡ (48 + n / 10) ∷ (48 + n % 10) ∷ m = e ∙ ap (λ (y : List ℕ). y ++ m) z in
          let b₀ : get_or s i 0 ≡ 48 + n / 10 = byte_first _ w in
          let b₁ : get_or s (i + 1) 0 ≡ 48 + n % 10 = byte _ w 1 in
          let b₂ : get_or s (i + 2) 0 < 45 = ended _ (i + 2) (omega (arith, ap length z)) t in
          let q = lead_digit (get_or s i 0) 20 (omega (arith, b₀)) in
          two (λ x. omega (arith, b₀)) (omega (arith, b₁)) b₂ (omega (arith, b₀, b₁, q)) (omega (arith, ap length z))

      plus_three : 100 ≤ n → n < 1000 → Shape s i (2 * (n - 1)) (i + length (bytes_of decimal n))
      plus_three h k =
          let z = digits_3 n h k in
          let w : drop i s ≡ (48 + n / 100) ∷ (48 + n / 10 % 10) ∷ (48 + n % 10) ∷ m = e ∙ ap (λ (y : List ℕ). y ++ m) z in
          let b₀ : get_or s i 0 ≡ 48 + n / 100 = byte_first _ w in
          let b₁ : get_or s (i + 1) 0 ≡ 48 + n / 10 % 10 = byte _ w 1 in
          let b₂ : get_or s (i + 2) 0 ≡ 48 + n % 10 = byte _ w 2 in
          let b₃ : get_or s (i + 3) 0 < 45 = ended _ (i + 3) (omega (arith, ap length z)) t in
          let q = lead_digit (get_or s i 0) 200 (omega (arith, b₀)) in
          three (λ x. omega (arith, b₀)) (omega (arith, b₁)) (omega (arith, b₂)) b₃ (omega (arith, b₀, b₁, b₂, q)) (omega (arith, ap length z))

      plus_four : 1000 ≤ n → n < 10000 → Shape s i (2 * (n - 1)) (i + length (bytes_of decimal n))
      plus_four h k =
          let z = digits_4 n h k in
          let w : drop i s ≡ (48 + n / 1000) ∷ (48 + n / 100 % 10) ∷ (48 + n / 10 % 10) ∷ (48 + n % 10) ∷ m = e ∙ ap (λ (y : List ℕ). y ++ m) z in
          let b₀ : get_or s i 0 ≡ 48 + n / 1000 = byte_first _ w in
          let b₁ : get_or s (i + 1) 0 ≡ 48 + n / 100 % 10 = byte _ w 1 in
          let b₂ : get_or s (i + 2) 0 ≡ 48 + n / 10 % 10 = byte _ w 2 in
          let b₃ : get_or s (i + 3) 0 ≡ 48 + n % 10 = byte _ w 3 in
          let b₄ : get_or s (i + 4) 0 < 45 = ended _ (i + 4) (omega (arith, ap length z)) t in
          let q = lead_digit (get_or s i 0) 2000 (omega (arith, b₀)) in
          four (λ x. omega (arith, b₀)) (omega (arith, b₁)) (omega (arith, b₂)) (omega (arith, b₃)) b₄
          (plus_sum n _ _ _ _ _ _ _ _ _ (omega arith) (four_digits n k) b₀ b₁ b₂ b₃ q)
          (omega (arith, ap length z))

      plus_shape : 0 < n → n ≤ 4096 → Shape s i (2 * (n - 1)) (i + length (bytes_of decimal n))
      plus_shape h k =
          ⊎_elim (λ (a : n < 10). plus_one h a)
          (λ (a : 10 ≤ n). ⊎_elim (λ (b : n < 100). plus_two a b)
          (λ (b : 100 ≤ n). ⊎_elim (λ (d : n < 1000). plus_three b d) (λ (d : 1000 ≤ n). plus_four d (omega arith)) (split n 1000)) (split n 100))
          (split n 10)

  -- a minus in front
  module _ (n : ℕ) (m : List ℕ) (e : drop i s ≡ 45 ∷ (bytes_of decimal n ++ m)) (t : get_or s (i + 1 + length (bytes_of decimal n)) 0 < 45)
    where
      minus_one : 0 < n → n < 10 → Shape s i (2 * (n - 1) + 1) (i + 1 + length (bytes_of decimal n))
      minus_one h k =
          let z = digits_1 n h k in
          let w : drop i s ≡ 45 ∷ (48 + n) ∷ m = e ∙ ap (λ (y : List ℕ). 45 ∷ (y ++ m)) z in
          let b₀ : get_or s i 0 ≡ 45 = byte_first _ w in
          let b₁ : get_or s (i + 1) 0 ≡ 48 + n = byte _ w 1 in
          let b₂ : get_or s (i + 2) 0 < 45 = ended _ (i + 2) (omega (arith, ap length z)) t in
          let q = lead_minus (get_or s i 0) 20 b₀ in
          two (λ x. absurd (x b₀)) (omega (arith, b₁)) b₂ (omega (arith, b₁, q)) (omega (arith, ap length z))

      minus_two : 10 ≤ n → n < 100 → Shape s i (2 * (n - 1) + 1) (i + 1 + length (bytes_of decimal n))
      minus_two h k =
          let z = digits_2 n h k in
          let w : drop i s ≡ 45 ∷ (48 + n / 10) ∷ (48 + n % 10) ∷ m = e ∙ ap (λ (y : List ℕ). 45 ∷ (y ++ m)) z in
          let b₀ : get_or s i 0 ≡ 45 = byte_first _ w in
          let b₁ : get_or s (i + 1) 0 ≡ 48 + n / 10 = byte _ w 1 in
          let b₂ : get_or s (i + 2) 0 ≡ 48 + n % 10 = byte _ w 2 in
          let b₃ : get_or s (i + 3) 0 < 45 = ended _ (i + 3) (omega (arith, ap length z)) t in
          let q = lead_minus (get_or s i 0) 200 b₀ in
          three (λ x. absurd (x b₀)) (omega (arith, b₁)) (omega (arith, b₂)) b₃ (omega (arith, b₁, b₂, q)) (omega (arith, ap length z))

      minus_three : 100 ≤ n → n < 1000 → Shape s i (2 * (n - 1) + 1) (i + 1 + length (bytes_of decimal n))
      minus_three h k =
          let z = digits_3 n h k in
          let w : drop i s ≡ 45 ∷ (48 + n / 100) ∷ (48 + n / 10 % 10) ∷ (48 + n % 10) ∷ m = e ∙ ap (λ (y : List ℕ). 45 ∷ (y ++ m)) z in
          let b₀ : get_or s i 0 ≡ 45 = byte_first _ w in
          let b₁ : get_or s (i + 1) 0 ≡ 48 + n / 100 = byte _ w 1 in
          let b₂ : get_or s (i + 2) 0 ≡ 48 + n / 10 % 10 = byte _ w 2 in
          let b₃ : get_or s (i + 3) 0 ≡ 48 + n % 10 = byte _ w 3 in
          let b₄ : get_or s (i + 4) 0 < 45 = ended _ (i + 4) (omega (arith, ap length z)) t in
          let q = lead_minus (get_or s i 0) 2000 b₀ in
          four (λ x. absurd (x b₀)) (omega (arith, b₁)) (omega (arith, b₂)) (omega (arith, b₃)) b₄ (omega (arith, b₁, b₂, b₃, q)) (omega (arith, ap length z))

      minus_four : 1000 ≤ n → n < 10000 → Shape s i (2 * (n - 1) + 1) (i + 1 + length (bytes_of decimal n))
      minus_four h k =
          let z = digits_4 n h k in
          let w : drop i s ≡ 45 ∷ (48 + n / 1000) ∷ (48 + n / 100 % 10) ∷ (48 + n / 10 % 10) ∷ (48 + n % 10) ∷ m =
          e ∙ ap (λ (y : List ℕ). 45 ∷ (y ++ m)) z in
          let b₁ : get_or s (i + 1) 0 ≡ 48 + n / 1000 = byte _ w 1 in
          let b₂ : get_or s (i + 2) 0 ≡ 48 + n / 100 % 10 = byte _ w 2 in
          let b₃ : get_or s (i + 3) 0 ≡ 48 + n / 10 % 10 = byte _ w 3 in
          let b₄ : get_or s (i + 4) 0 ≡ 48 + n % 10 = byte _ w 4 in
          five (omega (arith, b₁)) (omega (arith, b₂)) (omega (arith, b₃)) (omega (arith, b₄))
          (minus_sum n _ _ _ _ _ _ _ _ (omega arith) (four_digits n k) b₁ b₂ b₃ b₄) (omega (arith, ap length z))

      minus_shape : 0 < n → n ≤ 4096 → Shape s i (2 * (n - 1) + 1) (i + 1 + length (bytes_of decimal n))
      minus_shape h k =
          ⊎_elim (λ (a : n < 10). minus_one h a)
          (λ (a : 10 ≤ n). ⊎_elim (λ (b : n < 100). minus_two a b)
          (λ (b : 100 ≤ n). ⊎_elim (λ (d : n < 1000). minus_three b d) (λ (d : 1000 ≤ n). minus_four d (omega arith)) (split n 1000)) (split n 100))
          (split n 10)

-- every number that is read has a shape, and stands in the input
shape_of : (s : List ℕ) (i j : ℕ) {bs : List ℕ} {c : ℕ} (m : List ℕ) → Signed bs c → drop i s ≡ bs ++ m → j ≡ i + length bs → get_or s j 0 < 45
    → Shape s i c j
shape_of s i j {bs = bs} m (plus {i = k} h n) w q t =
    let z : bs ≡ bytes_of decimal (k + 1) = numeral_bytes decimal (omega arith) n in
    let p : i + length (bytes_of decimal (k + 1)) ≡ j = omega (arith, q, ap length z) in
    subst₂ (λ (x y : ℕ). Shape s i x y) (omega arith) p
    (plus_shape s i (k + 1) m (w ∙ ap (λ (y : List ℕ). y ++ m) z) (subst (λ (x : ℕ). get_or s x 0 < 45) (sym p) t) (omega arith) (omega arith))
shape_of s i j m (minus {bs = ds} {i = k} h n) w q t =
    let z : ds ≡ bytes_of decimal (k + 1) = numeral_bytes decimal (omega arith) n in
    let p : i + 1 + length (bytes_of decimal (k + 1)) ≡ j = omega (arith, q, ap length z) in
    subst₂ (λ (x y : ℕ). Shape s i x y) (omega arith) p
    (minus_shape s i (k + 1) m (w ∙ ap (λ (y : List ℕ). 45 ∷ (y ++ m)) z) (subst (λ (x : ℕ). get_or s x 0 < 45) (sym p) t) (omega arith) (omega arith))

module _ (s : List ℕ) (i : ℕ) (n : IsNumber s (signed_from i (drop i s))) where
  shape : Shape s i n.code n.next
  shape = let r = signed_sound i (drop i s) n.code n.next n.is in shape_of s i n.next r.rest r.spelled r.split r.place n.below

  pub inside : n.next < length s
  inside = n.inside

  -- the second byte
  pub second_inside : i + 1 < length s
  second_inside = go shape
    where
      go : Shape s i n.code n.next → i + 1 < length s
      go (one a b d f) = omega (arith, inside)
      go (two a b d f g) = omega (arith, inside)
      go (three a b d f g h) = omega (arith, inside)
      go (four a b d f g h k) = omega (arith, inside)
      go (five a b d f g h) = omega (arith, inside)

  pub one_is : get_or s (i + 1) 0 < 45 → (49 ≤ get_or s i 0) × (n.code + 2 ≡ 2 * (get_or s i 0 - 48)) × (n.next ≡ i + 1)
  one_is z = go shape
    where
      go : Shape s i n.code n.next → (49 ≤ get_or s i 0) × (n.code + 2 ≡ 2 * (get_or s i 0 - 48)) × (n.next ≡ i + 1)
      go (one a b d f) = (a, d, f)
      go (two a b d f g) = absurd (omega (arith, z, b))
      go (three a b d f g h) = absurd (omega (arith, z, b))
      go (four a b d f g h k) = absurd (omega (arith, z, b))
      go (five a b d f g h) = absurd (omega (arith, z, a))

  -- the number goes on at the second byte
  module _ (n₁ : 45 ≤ get_or s (i + 1) 0) where
    pub third_inside : (i + 2 < length s) × (48 ≤ get_or s (i + 1) 0)
    third_inside = go shape
      where
        go : Shape s i n.code n.next → (i + 2 < length s) × (48 ≤ get_or s (i + 1) 0)
        go (one a b d f) = absurd (omega (arith, n₁, b))
        go (two a b d f g) = (omega (arith, inside), b)
        go (three a b d f g h) = (omega (arith, inside), b)
        go (four a b d f g h k) = (omega (arith, inside), b)
        go (five a b d f g h) = (omega (arith, inside), a)

    pub two_is : get_or s (i + 2) 0 < 45
        → MinusOrDigit (get_or s i 0) × (n.code + 2 ≡ lead_of (get_or s i 0) 20 + 2 * (get_or s (i + 1) 0 - 48)) × (n.next ≡ i + 2)
    two_is z = go shape
      where
        go : Shape s i n.code n.next → MinusOrDigit (get_or s i 0) × (n.code + 2 ≡ lead_of (get_or s i 0) 20 + 2 * (get_or s (i + 1) 0 - 48))
            × (n.next ≡ i + 2)
        go (one a b d f) = absurd (omega (arith, n₁, b))
        go (two a b d f g) = (a, f, g)
        go (three a b d f g h) = absurd (omega (arith, z, d))
        go (four a b d f g h k) = absurd (omega (arith, z, d))
        go (five a b d f g h) = absurd (omega (arith, z, b))

    -- at the third
    module _ (n₂ : 45 ≤ get_or s (i + 2) 0) where
      pub fourth_inside : (i + 3 < length s) × (48 ≤ get_or s (i + 2) 0)
      fourth_inside = go shape
        where
          go : Shape s i n.code n.next → (i + 3 < length s) × (48 ≤ get_or s (i + 2) 0)
          go (one a b d f) = absurd (omega (arith, n₁, b))
          go (two a b d f g) = absurd (omega (arith, n₂, d))
          go (three a b d f g h) = (omega (arith, inside), d)
          go (four a b d f g h k) = (omega (arith, inside), d)
          go (five a b d f g h) = (omega (arith, inside), b)

      pub three_is : get_or s (i + 3) 0 < 45
          → MinusOrDigit (get_or s i 0) × (n.code + 2 ≡ lead_of (get_or s i 0) 200 + 20 * (get_or s (i + 1) 0 - 48) + 2 * (get_or s (i + 2) 0 - 48)) × (n.next ≡ i + 3)
      three_is z = go shape
        where
          go : Shape s i n.code n.next
              → MinusOrDigit (get_or s i 0) × (n.code + 2 ≡ lead_of (get_or s i 0) 200 + 20 * (get_or s (i + 1) 0 - 48) + 2 * (get_or s (i + 2) 0 - 48))
              × (n.next ≡ i + 3)
          go (one a b d f) = absurd (omega (arith, n₁, b))
          go (two a b d f g) = absurd (omega (arith, n₂, d))
          go (three a b d f g h) = (a, g, h)
          go (four a b d f g h k) = absurd (omega (arith, z, f))
          go (five a b d f g h) = absurd (omega (arith, z, d))

      -- at the fourth
      module _ (n₃ : 45 ≤ get_or s (i + 3) 0) where
        pub fifth_inside : (i + 4 < length s) × (48 ≤ get_or s (i + 3) 0)
        fifth_inside = go shape
          where
            go : Shape s i n.code n.next → (i + 4 < length s) × (48 ≤ get_or s (i + 3) 0)
            go (one a b d f) = absurd (omega (arith, n₁, b))
            go (two a b d f g) = absurd (omega (arith, n₂, d))
            go (three a b d f g h) = absurd (omega (arith, n₃, f))
            go (four a b d f g h k) = (omega (arith, inside), f)
            go (five a b d f g h) = (omega (arith, inside), d)

        pub four_is : get_or s (i + 4) 0 < 45
            → MinusOrDigit (get_or s i 0)
            × (n.code + 2 ≡ lead_of (get_or s i 0) 2000 + 200 * (get_or s (i + 1) 0 - 48) + 20 * (get_or s (i + 2) 0 - 48) + 2 * (get_or s (i + 3) 0 - 48))
            × (n.next ≡ i + 4)
        four_is z = go shape
          where
            go : Shape s i n.code n.next
                → MinusOrDigit (get_or s i 0)
                × (n.code + 2 ≡ lead_of (get_or s i 0) 2000 + 200 * (get_or s (i + 1) 0 - 48) + 20 * (get_or s (i + 2) 0 - 48) + 2 * (get_or s (i + 3) 0 - 48))
                × (n.next ≡ i + 4)
            go (one a b d f) = absurd (omega (arith, n₁, b))
            go (two a b d f g) = absurd (omega (arith, n₂, d))
            go (three a b d f g h) = absurd (omega (arith, n₃, f))
            go (four a b d f g h k) = (a, h, k)
            go (five a b d f g h) = absurd (omega (arith, z, f))

        pub five_is : (45 ≤ get_or s (i + 4) 0)
            → (48 ≤ get_or s (i + 4) 0)
            × (n.code + 1 ≡ 2000 * (get_or s (i + 1) 0 - 48) + 200 * (get_or s (i + 2) 0 - 48) + 20 * (get_or s (i + 3) 0 - 48) + 2 * (get_or s (i + 4) 0 - 48))
            × (n.next ≡ i + 5)
        five_is n₄ = go shape
          where
            go : Shape s i n.code n.next
                → (48 ≤ get_or s (i + 4) 0)
                × (n.code + 1 ≡ 2000 * (get_or s (i + 1) 0 - 48) + 200 * (get_or s (i + 2) 0 - 48) + 20 * (get_or s (i + 3) 0 - 48) + 2 * (get_or s (i + 4) 0 - 48))
                × (n.next ≡ i + 5)
            go (one a b d f) = absurd (omega (arith, n₁, b))
            go (two a b d f g) = absurd (omega (arith, n₂, d))
            go (three a b d f g h) = absurd (omega (arith, n₃, f))
            go (four a b d f g h k) = absurd (omega (arith, n₄, g))
            go (five a b d f g h) = (f, g, h)

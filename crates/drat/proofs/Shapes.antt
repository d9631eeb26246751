-- The bytes of small numbers, digit by digit: decimal up to four digits, LEB128 up to two bytes; and their lengths by comparisons.
use Prim.Native.Nat.{ℕ, zero, suc, ◌+◌, ◌*◌, ◌/◌, ◌%◌, ◌≤◌, ◌<◌}
use mathlib.Core.Path.{◌≡◌, refl, sym, ap, ap₂, ◌∙◌}
use mathlib.Core.List.{List, [], ◌∷◌, ◌++◌, append_assoc}
use mathlib.Core.Bool.{Bool, true, false}
use mathlib.Core.Logic.{⊎_elim}
use native.Mathlib.Omega.{arith}
use lib.Dec.{eqb, leb}
use lib.ListN.{length, get_or, set, drop, length-append}
use lib.Seq.{sets, set-set}
use Rattle.base.proofs.SetsLaws.{sets_append, store_before}
use borrow.Author.Tests.{eqb-true, eqb-false, leb-true, leb-false}
use Rattle.base.specs.Choice.{pick}
use Rattle.base.proofs.Truth.{split}
use Rattle.drat.specs.Numeral.{decimal, leb128, bytes_of}
use Rattle.drat.specs.Grammar.{sign, blanked, number, numbers, step_of, encode_step, Codes}
use Rattle.drat.specs.declared.Kind.{Kind}
use Rattle.drat.specs.declared.Format.{Format}
use Rattle.drat.specs.declared.Format.TheVariants.{Text, Binary}
use Rattle.drat.proofs.Numerals.{bytes_top, bytes_below}
use Rattle.drat.proofs.Steps.{step_length, numbers_sets, opens_le, ends_le}

-- a digit more
more_digit : (n : ℕ) (ds : List ℕ) → 10 ≤ n → bytes_of decimal (n / 10) ≡ ds → bytes_of decimal n ≡ ds ++ (48 + n % 10) ∷ []
more_digit n ds h e = bytes_below decimal (omega arith) n h ∙ ap (λ (bs : List ℕ). bs ++ (48 + n % 10) ∷ []) e

pub digits_1 : (n : ℕ) → 0 < n → n < 10 → bytes_of decimal n ≡ (48 + n) ∷ []
digits_1 n h k = bytes_top decimal (omega arith) n h k

pub digits_2 : (n : ℕ) → 10 ≤ n → n < 100 → bytes_of decimal n ≡ (48 + n / 10) ∷ (48 + n % 10) ∷ []
digits_2 n h k = more_digit n _ h (digits_1 (n / 10) (omega arith) (omega arith))

pub digits_3 : (n : ℕ) → 100 ≤ n → n < 1000 → bytes_of decimal n ≡ (48 + n / 100) ∷ (48 + n / 10 % 10) ∷ (48 + n % 10) ∷ []
digits_3 n h k =
    let e : n / 10 / 10 ≡ n / 100 = omega arith in
    more_digit n _ (omega arith) (digits_2 (n / 10) (omega arith) (omega arith)) ∙ ap (λ (d : ℕ). (48 + d) ∷ (48 + n / 10 % 10) ∷ (48 + n % 10) ∷ []) e

pub digits_4 : (n : ℕ) → 1000 ≤ n → n < 10000 → bytes_of decimal n ≡ (48 + n / 1000) ∷ (48 + n / 100 % 10) ∷ (48 + n / 10 % 10) ∷ (48 + n % 10) ∷ []
digits_4 n h k =
    let e : n / 10 / 100 ≡ n / 1000 = omega arith in
    let d : n / 10 / 10 ≡ n / 100 = omega arith in
    more_digit n _ (omega arith) (digits_3 (n / 10) (omega arith) (omega arith))
    ∙ ap₂ (λ (x y : ℕ). (48 + x) ∷ (48 + y % 10) ∷ (48 + n / 10 % 10) ∷ (48 + n % 10) ∷ []) e d

-- the last k digits
unfoldable pub last_digits : ℕ → ℕ → List ℕ
last_digits zero n = []
last_digits (suc k) n = last_digits k (n / 10) ++ (48 + n % 10) ∷ []

pub last_digits_length : (k n : ℕ) → length (last_digits k n) ≡ k
unfolding last_digits
last_digits_length zero n = refl
last_digits_length (suc k) n = omega (arith, length-append (last_digits k (n / 10)) ((48 + n % 10) ∷ []), last_digits_length k (n / 10))

-- a digit stored, and then those before it
pub last_digits_sets : (k n : ℕ) (o : List ℕ) (at j d : ℕ) → j ≡ at + k → sets (set o j d) at (last_digits k n) ≡ sets o at (last_digits k n ++ d ∷ [])
last_digits_sets k n o at j d e =
    let ds = last_digits k n in
    let z : j ≡ at + length ds = omega (arith, e, last_digits_length k n) in
    store_before ds o at j d (omega (arith, z)) ∙ ap (λ (i : ℕ). set (sets o at ds) i d) z ∙ sym (sets_append ds (d ∷ []) o at)

-- a digit more, and none
pub last_digits_step : (m k n : ℕ) (o : List ℕ) (at j : ℕ) → m ≡ suc k → j ≡ at + k
    → sets (set o j (48 + n % 10)) at (last_digits k (n / 10)) ≡ sets o at (last_digits m n)
unfolding last_digits
last_digits_step m k n o at j e h = last_digits_sets k (n / 10) o at j (48 + n % 10) h ∙ ap (λ (i : ℕ). sets o at (last_digits i n)) (sym e)

pub last_digits_none : (m n : ℕ) (o : List ℕ) (at : ℕ) → m ≡ 0 → sets o at (last_digits m n) ≡ o
unfolding last_digits
last_digits_none m n o at e = ap (λ (i : ℕ). sets o at (last_digits i n)) e

-- all digits of a number with so many
all_1 : (n : ℕ) → 0 < n → n < 10 → bytes_of decimal n ≡ last_digits 1 n
unfolding last_digits
all_1 n h k = let e : n ≡ n % 10 = omega arith in bytes_top decimal (omega arith) n h k ∙ ap (λ (d : ℕ). (48 + d) ∷ []) e

one_digit : (k n : ℕ) → 10 ≤ n → bytes_of decimal (n / 10) ≡ last_digits k (n / 10) → bytes_of decimal n ≡ last_digits (suc k) n
unfolding last_digits
one_digit k n h e = bytes_below decimal (omega arith) n h ∙ ap (λ (bs : List ℕ). bs ++ (48 + n % 10) ∷ []) e

all_2 : (n : ℕ) → 10 ≤ n → n < 100 → bytes_of decimal n ≡ last_digits 2 n
all_2 n h k = one_digit 1 n h (all_1 (n / 10) (omega arith) (omega arith))

all_3 : (n : ℕ) → 100 ≤ n → n < 1000 → bytes_of decimal n ≡ last_digits 3 n
all_3 n h k = one_digit 2 n (omega arith) (all_2 (n / 10) (omega arith) (omega arith))

all_4 : (n : ℕ) → 1000 ≤ n → n < 10000 → bytes_of decimal n ≡ last_digits 4 n
all_4 n h k = one_digit 3 n (omega arith) (all_3 (n / 10) (omega arith) (omega arith))

pub blanked_1 : (n : ℕ) → 0 < n → n < 10 → blanked n ≡ last_digits 1 n ++ 32 ∷ []
blanked_1 n h k = ap (λ (bs : List ℕ). bs ++ 32 ∷ []) (all_1 n h k)

pub blanked_2 : (n : ℕ) → 10 ≤ n → n < 100 → blanked n ≡ last_digits 2 n ++ 32 ∷ []
blanked_2 n h k = ap (λ (bs : List ℕ). bs ++ 32 ∷ []) (all_2 n h k)

pub blanked_3 : (n : ℕ) → 100 ≤ n → n < 1000 → blanked n ≡ last_digits 3 n ++ 32 ∷ []
blanked_3 n h k = ap (λ (bs : List ℕ). bs ++ 32 ∷ []) (all_3 n h k)

pub blanked_4 : (n : ℕ) → 1000 ≤ n → n < 10000 → blanked n ≡ last_digits 4 n ++ 32 ∷ []
blanked_4 n h k = ap (λ (bs : List ℕ). bs ++ 32 ∷ []) (all_4 n h k)

pub leb_1 : (n : ℕ) → 0 < n → n < 128 → bytes_of leb128 n ≡ n ∷ []
leb_1 n h k = bytes_top leb128 (omega arith) n h k

pub leb_2 : (n : ℕ) → 128 ≤ n → n < 16384 → bytes_of leb128 n ≡ (128 + n % 128) ∷ (n / 128) ∷ []
leb_2 n h k = bytes_below leb128 (omega arith) n h ∙ ap (λ (bs : List ℕ). (128 + n % 128) ∷ bs) (leb_1 (n / 128) (omega arith) (omega arith))

pub number_code : (c : ℕ) → number Binary c ≡ bytes_of leb128 (c + 2)
unfolding number
number_code c = refl

-- a byte more for each factor of 128, so at most five bytes for 32 bits
leb_step : (k m : ℕ) → ((v : ℕ) → 0 < v → v < m → length (bytes_of leb128 v) ≤ k) → 0 < k → (n : ℕ) → 0 < n → n < 128 * m → length (bytes_of leb128 n) ≤ k + 1
leb_step k m h g n p q = ⊎_elim
    (λ (s : n < 128). omega (arith, ap length (leb_1 n p s)))
    (λ (s : 128 ≤ n). omega (arith, ap length (bytes_below leb128 (omega arith) n s), h (n / 128) (omega arith) (omega arith)))
    (split n 128)

pub leb_most : (n : ℕ) → 0 < n → n < 4294967296 → length (bytes_of leb128 n) ≤ 5
leb_most n p q =
    leb_step 4 268435456 (leb_step 3 2097152 (leb_step 2 16384 (leb_step 1 128 (λ v h k. omega (arith, ap length (leb_1 v h k))) (omega arith)) (omega arith))
    (omega arith)) (omega arith) n p (omega arith)

-- 10, 100 and 1000 are the numbers of the codes 18, 198 and 1998
blanked_length : (c : ℕ) → c < 8192 → length (blanked (c / 2 + 1)) ≡ 2 + pick (leb 18 c) 1 0 + pick (leb 198 c) 1 0 + pick (leb 1998 c) 1 0
unfolding last_digits
blanked_length c h = go (leb 18 c) (leb 198 c) (leb 1998 c) refl refl refl
  where
    go : (x y z : Bool) → leb 18 c ≡ x → leb 198 c ≡ y → leb 1998 c ≡ z → length (blanked (c / 2 + 1)) ≡ 2 + pick x 1 0 + pick y 1 0 + pick z 1 0
    go true true true p q r = ap length (blanked_4 (c / 2 + 1) (omega (arith, leb-true 1998 c r)) (omega arith))
    go true true false p q r = ap length (blanked_3 (c / 2 + 1) (omega (arith, leb-true 198 c q)) (omega (arith, leb-false 1998 c r)))
    go true false false p q r = ap length (blanked_2 (c / 2 + 1) (omega (arith, leb-true 18 c p)) (omega (arith, leb-false 198 c q)))
    go false false false p q r = ap length (blanked_1 (c / 2 + 1) (omega arith) (omega (arith, leb-false 18 c p)))
    go false true z p q r = absurd (omega (arith, leb-false 18 c p, leb-true 198 c q))
    go true false true p q r = absurd (omega (arith, leb-false 198 c q, leb-true 1998 c r))
    go false false true p q r = absurd (omega (arith, leb-false 198 c q, leb-true 1998 c r))

sign_length : (c : ℕ) → length (sign c) ≡ c % 2
sign_length c = go (eqb (c % 2) 0) refl
  where
    go : (t : Bool) → eqb (c % 2) 0 ≡ t → length (pick {A = List ℕ} t [] (45 ∷ [])) ≡ c % 2
    go true e = sym (eqb-true (c % 2) 0 e)
    go false e = omega (arith, eqb-false (c % 2) 0 e)

-- the sign, then the digits and the blank
text_parts : (c : ℕ) → number Text c ≡ sign c ++ blanked (c / 2 + 1)
unfolding number
text_parts c = append_assoc (sign c) (bytes_of decimal (c / 2 + 1)) (32 ∷ [])

pub text_place : (c : ℕ) → length (number Text c) ≡ c % 2 + length (blanked (c / 2 + 1))
text_place c = ap length (text_parts c) ∙ length-append (sign c) (blanked (c / 2 + 1)) ∙ ap (λ (k : ℕ). k + length (blanked (c / 2 + 1))) (sign_length c)

pub text_length : (c : ℕ) → c < 8192 → length (number Text c) ≡ 2 + c % 2 + pick (leb 18 c) 1 0 + pick (leb 198 c) 1 0 + pick (leb 1998 c) 1 0
text_length c h = text_place c ∙ omega (arith, blanked_length c h)

pub code_length : (c : ℕ) → c < 8192 → length (number Binary c) ≡ 1 + pick (leb 126 c) 1 0
code_length c h = ap length (number_code c) ∙ go (leb 126 c) refl
  where
    go : (t : Bool) → leb 126 c ≡ t → length (bytes_of leb128 (c + 2)) ≡ 1 + pick t 1 0
    go true e = ap length (leb_2 (c + 2) (omega (arith, leb-true 126 c e)) (omega arith))
    go false e = ap length (leb_1 (c + 2) (omega arith) (omega (arith, leb-false 126 c e)))

-- codes of one byte each
abbrev pub Short : List ℕ → Type 0
Short l = (i : ℕ) → i < length l → get_or l i 0 < 126

pub code_short : (c : ℕ) → c < 126 → number Binary c ≡ (c + 2) ∷ []
code_short c h = number_code c ∙ leb_1 (c + 2) (omega arith) (omega arith)

pub short_length : (l : List ℕ) → Short l → length (numbers Binary l) ≡ length l
unfolding numbers
short_length [] h = refl
short_length (c ∷ cs) h =
    omega (
      arith,
      length-append (number Binary c) (numbers Binary cs),
      ap length (code_short c (h 0 (omega arith))),
      short_length cs
          (λ i l. h (suc i) (omega arith)),
    )

-- one of them written, and then those after it
pub short_sets : (l o : List ℕ) (p i : ℕ) → Short l → i < length l
    → sets (set o p (get_or l i 0 + 2)) (p + 1) (numbers Binary (drop (i + 1) l)) ≡ sets o p (numbers Binary (drop i l))
short_sets l o p i h k =
    let e = code_short (get_or l i 0) (h i k) in
    ap (λ (n : List ℕ). sets (sets o p n) (p + length n) (numbers Binary (drop (i + 1) l))) (sym e) ∙ numbers_sets Binary l o p i k

-- a literal takes at most six bytes
pub one_le : (t : Bool) → pick {A = ℕ} t 1 0 ≤ 1
one_le true = omega arith
one_le false = omega arith

pub number_le : (f : Format) (c : ℕ) → c < 8192 → length (number f c) ≤ 6
number_le Text c h = omega (arith, text_length c h, one_le (leb 18 c), one_le (leb 198 c), one_le (leb 1998 c))
number_le Binary c h = omega (arith, code_length c h, one_le (leb 126 c))

pub numbers_le : (f : Format) (cs : List ℕ) → Codes cs → length (numbers f cs) ≤ 6 * length cs
unfolding numbers
numbers_le f [] h = omega arith
numbers_le f (c ∷ cs) h =
    omega (arith, length-append (number f c) (numbers f cs), number_le f c (h 0 (omega arith)), numbers_le f cs (λ i l. h (suc i) (omega arith)))

-- and a step at most four more
pub step_le : (f : Format) (k : Kind) (cs : List ℕ) → Codes cs → length (encode_step f (step_of k cs)) ≤ 6 * length cs + 4
step_le f k cs h = omega (arith, step_length f k cs, numbers_le f cs h, opens_le f k, ends_le f)

-- the sign of a literal: a minus that the first digit of a positive one goes over
pub sign_sets : (o : List ℕ) (at c : ℕ) (b : ℕ) (bs : List ℕ) → sets (set o at 45) (at + c % 2) (b ∷ bs) ≡ sets o at (sign c ++ b ∷ bs)
sign_sets o at c b bs = go (eqb (c % 2) 0) refl
  where
    go : (t : Bool) → eqb (c % 2) 0 ≡ t → sets (set o at 45) (at + c % 2) (b ∷ bs) ≡ sets o at (pick t [] (45 ∷ []) ++ b ∷ bs)
    go true e =
        let p : at + c % 2 ≡ at = omega (arith, eqb-true (c % 2) 0 e) in
        ap (λ (i : ℕ). sets (set o at 45) i (b ∷ bs)) p ∙ ap (λ (l : List ℕ). sets l (suc at) bs) (set-set o at 45 b)
    go false e =
        let p : at + c % 2 ≡ suc at = omega (arith, eqb-false (c % 2) 0 e) in
        ap (λ (i : ℕ). sets (set o at 45) i (b ∷ bs)) p

-- a number has a digit
pub blanked_some : (n : ℕ) → 0 < n → (b : ℕ) × (bs : List ℕ) × (blanked n ≡ b ∷ bs)
blanked_some n h = go (bytes_of decimal n)
  where
    go : (ds : List ℕ) → (b : ℕ) × (bs : List ℕ) × (ds ++ 32 ∷ [] ≡ b ∷ bs)
    go [] = (32, [], refl)
    go (d ∷ ds) = (d, ds ++ 32 ∷ [], refl)

pub text_sets : (o : List ℕ) (at c : ℕ) → sets (set o at 45) (at + c % 2) (blanked (c / 2 + 1)) ≡ sets o at (number Text c)
text_sets o at c =
    let s = blanked_some (c / 2 + 1) (omega arith) in
    ap (sets (set o at 45) (at + c % 2)) s.2 ∙ sign_sets o at c s.0 s.1 ∙ sym (ap (λ (l : List ℕ). sets o at (sign c ++ l)) s.2)
    ∙ sym (ap (sets o at) (text_parts c))

-- Numbers as digits: decimal and LEB128 are one definition over a radix.
use Rattle.std.specs.Prelude.{ℕ, zero, suc, ◌+◌, ◌*◌, ◌/◌, ◌%◌, ◌<◌, Bool, ◌&&◌, List, [], ◌∷◌, ◌++◌, leb, ltb}
use Rattle.base.specs.Choice.{pick}

-- A byte from lo to hi; a decimal digit.
abbrev pub in_range : ℕ → ℕ → ℕ → Bool
in_range lo hi x = leb lo x && leb x hi

abbrev pub digit : ℕ → Bool
digit x = in_range 48 57 x

-- A way to write digits: the base, the bytes of a number's highest digit, and the bytes of a number with one digit d below those of bs.
pub record Radix : Type 0 where
  pub base : ℕ
  pub top : ℕ → List ℕ
  pub below : ℕ → List ℕ → List ℕ

-- Decimal digits, highest first.
abbrev pub decimal : Radix
decimal = record { base = 10; top = λ d. (48 + d) ∷ []; below = λ d bs. bs ++ (48 + d) ∷ [] }

-- LEB128: lowest first, 128 added to each byte that another follows.
abbrev pub leb128 : Radix
leb128 = record { base = 128; top = λ d. d ∷ []; below = λ d bs. (128 + d) ∷ bs }

-- The grammar: bytes that spell a number above 0 with no needless digit.
pub data Numeral (r : Radix) : List ℕ → ℕ → Type 0 where
  one : {d : ℕ} → 0 < d → d < r.base → Numeral r (r.top d) d
  more : {d v : ℕ} {bs : List ℕ} → d < r.base → Numeral r bs v → Numeral r (r.below d bs) (d + r.base * v)

-- n has k digits and one more.
unfoldable pub Digits : ℕ → ℕ → ℕ → Type 0
Digits b zero n = (0 < n) × (n < b)
Digits b (suc k) n = Digits b k (n / b)

-- The bytes of a number that has k digits and one more.
unfoldable pub spell : Radix → ℕ → ℕ → List ℕ
spell r zero n = r.top n
spell r (suc k) n = r.below (n % r.base) (spell r k (n / r.base))

-- How many digits n has after its first; f is at least n.
unfoldable pub further : ℕ → ℕ → ℕ → ℕ
further b zero n = 0
further b (suc f) n = pick (ltb n b) 0 (suc (further b f (n / b)))

-- The bytes of a number; of 0, the one digit 0.
unfoldable pub bytes_of : Radix → ℕ → List ℕ
bytes_of r n = spell r (further r.base n n) n

-- Whether the number that ends with a digit is within a limit. x is the byte in question and a b c p are the four before it.
use Rattle.std.specs.Prelude.{ℕ, ◌+◌, ◌/◌, ◌%◌, Bool, ◌&&◌, ◌||◌, not, ◌≡◌, leb, max}
use Rattle.base.specs.Choice.{pick}
use Rattle.drat.specs.Numeral.{digit}
use Rattle.drat_judge.specs.Local.{near}
use Rattle.dimacs_judge.specs.declared.limit.Limit.{Limit}

-- The limit v: its last digit as a byte, and of the three digits before it the byte below.
pub record LimitOf (v : ℕ) (t : Limit) : Type 0 where
  pub ones_is : t.ones ≡ 48 + v % 10
  pub tens_is : t.tens ≡ 47 + v / 10 % 10
  pub hundreds_is : t.hundreds ≡ 47 + v / 100 % 10
  pub thousands_is : t.thousands ≡ 47 + v / 1000

-- What is below the digits counts as the digit 0.
abbrev pub raised : ℕ → ℕ
raised b = max b 48

-- The number of the digits b c p x is within the limit: from the last digit on, each is at most the limit's, and less where those after it are more.
abbrev pub fits_digits : Limit → ℕ → ℕ → ℕ → ℕ → Bool
fits_digits t b c p x =
    leb b (t.thousands + pick (leb c (t.hundreds + pick (leb p (t.tens + pick (leb x t.ones) 1 0)) 1 0)) 1 0)

-- Digits count if those after them are digits too.
unfoldable pub fits : Limit → ℕ → ℕ → ℕ → ℕ → Bool
fits t b c p x = fits_digits t (raised (pick (near p && near c) b 0)) (raised (pick (near p) c 0)) (raised p) x

-- The digit x makes a number above the limit, or is a fifth digit.
unfoldable pub above : Limit → ℕ → ℕ → ℕ → ℕ → ℕ → Bool
above t a b c p x = digit x && ((near a && (near b && (near c && near p))) || not (fits t b c p x))

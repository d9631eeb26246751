-- The DIMACS number of a literal (document 01, "Words used"), and the bytes that are written for the literal in either format.
use Prim.Native.Nat.{ℕ, zero, suc, ◌+◌, ◌-◌, ◌*◌, ◌/◌, ◌%◌, ◌<◌}
use mathlib.Core.Path.{◌≡◌, refl, ap}
use mathlib.Core.Bool.{Bool, true, false}
use mathlib.Core.List.{[], ◌∷◌, ◌++◌}
use native.Mathlib.Omega.{arith}
use lib.Dec.{eqb}
use Rattle.base.specs.Choice.{pick}
use Rattle.drat.specs.Numeral.{decimal, leb128, bytes_of}
use Rattle.drat.specs.Grammar.{number}
use Rattle.drat.specs.declared.Format.{Format}
use Rattle.drat.specs.declared.Format.TheVariants.{Text, Binary}
use Rattle.scope.specs.Literals.{Dimacs, dimacs_of}
use Rattle.session.specs.Worked.{literal_of, dimacs_bytes}

sign_cases : (P : ℕ → Type 0) → P 0 → P 1 → (c : ℕ) → P (c % 2)
sign_cases P a b c = go (c % 2) (omega arith)
  where
    go : (n : ℕ) → n < 2 → P n
    go zero h = a
    go (suc zero) h = b
    go (suc (suc n)) h = absurd (omega arith)

-- What is written for a literal is its DIMACS number.
pub number_bytes : (f : Format) (c : ℕ) → number f c ≡ dimacs_bytes f (dimacs_of c)
unfolding number
number_bytes Text c =
    sign_cases (λ n. (pick (eqb n 0) [] (45 ∷ []) ++ bytes_of decimal (c / 2 + 1)) ++ 32 ∷ []
    ≡ pick (eqb n 1) (45 ∷ []) [] ++ (bytes_of decimal (c / 2 + 1) ++ 32 ∷ []))
    refl refl c
number_bytes Binary c = ap (bytes_of leb128) (go (c % 2) refl)
  where
    go : (n : ℕ) → c % 2 ≡ n → c + 2 ≡ 2 * (c / 2 + 1) + pick (eqb n 1) 1 0
    go zero e = omega arith
    go (suc zero) e = omega arith
    go (suc (suc n)) e = absurd (omega arith)

-- A number above 0 is the DIMACS number of its literal.
pub dimacs_literal : (d : Dimacs) → 0 < d.magnitude → dimacs_of (literal_of d) ≡ d
dimacs_literal d h = go d.negative
  where
    at : (m n : ℕ) → 0 < n → m < 2 → (eqb ((2 * (n - 1) + m) % 2) 1 ≡ eqb m 1) × ((2 * (n - 1) + m) / 2 + 1 ≡ n)
    at m n h l = let e : (2 * (n - 1) + m) % 2 ≡ m = omega arith in (ap (λ (x : ℕ). eqb x 1) e, omega arith)

    go : (b : Bool) → dimacs_of (literal_of (record { negative = b; magnitude = d.magnitude })) ≡ record { negative = b; magnitude = d.magnitude }
    go true = let (p, q) = at 1 d.magnitude h (omega arith) in λ i. record { negative = p i; magnitude = q i }
    go false = let (p, q) = at 0 d.magnitude h (omega arith) in λ i. record { negative = p i; magnitude = q i }

-- A list of refusals in order, each a test with its number less one: the first that applies, else what comes after.
use Prim.Native.Nat.{ℕ, suc}
use mathlib.Core.Path.{◌≡◌, refl}
use mathlib.Core.Bool.{Bool, true, false}
use mathlib.Core.List.{List, [], ◌∷◌}
use native.Mathlib.Omega.{arith}
use Rattle.base.specs.Choice.{pick}

abbrev pub first_of : List (Bool × ℕ) → ℕ → ℕ
first_of [] rest = rest
first_of (x ∷ xs) rest = pick x.0 (suc x.1) (first_of xs rest)

-- a refusal of the list applies whatever comes after
pub first_some : (xs : List (Bool × ℕ)) (n a b : ℕ) → (n ≡ a → n ≡ b) → n ≡ first_of xs a → n ≡ first_of xs b
first_some [] n a b f e = f e
first_some (x ∷ xs) n a b f e = go (λ q. first_some xs n a b f q) x.0 e
  where
    go : (n ≡ first_of xs a → n ≡ first_of xs b) → (b' : Bool) → n ≡ pick b' (suc x.1) (first_of xs a) → n ≡ pick b' (suc x.1) (first_of xs b)
    go k true q = q
    go k false q = k q

-- where none of the list applies, what comes after does
pub first_none : (xs : List (Bool × ℕ)) (a b : ℕ) → first_of xs a ≡ 0 → (a ≡ 0) × (first_of xs b ≡ b)
first_none [] a b e = (e, refl)
first_none (x ∷ xs) a b e = go (λ q. first_none xs a b q) x.0 e
  where
    go : (first_of xs a ≡ 0 → (a ≡ 0) × (first_of xs b ≡ b)) → (b' : Bool) → pick b' (suc x.1) (first_of xs a) ≡ 0
        → (a ≡ 0) × (pick b' (suc x.1) (first_of xs b) ≡ b)
    go k true q = absurd (omega arith)
    go k false q = k q

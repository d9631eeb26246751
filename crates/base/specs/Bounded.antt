-- Tests over the numbers below a bound, and over the members of a list.
use Rattle.std.specs.Prelude.{ℕ, zero, suc, Bool, true, false, ◌&&◌, ◌||◌, List, [], ◌∷◌, ltb}
use Rattle.base.specs.Choice.{pick}

-- p holds of every number below n
unfoldable pub all_below : ℕ → (ℕ → Bool) → Bool
all_below zero p = true
all_below (suc n) p = all_below n p && p n

-- the least number below n that passes, n if none does
unfoldable pub least : ℕ → (ℕ → Bool) → ℕ
least zero p = zero
least (suc n) p = pick (ltb (least n p) n) (least n p) (pick (p n) n (suc n))

-- how many numbers below n pass
unfoldable pub count : ℕ → (ℕ → Bool) → ℕ
count zero p = zero
count (suc n) p = pick (p n) (suc (count n p)) (count n p)

-- every member passes
unfoldable pub every_of {ℓ} : {A : Type ℓ} → (A → Bool) → List A → Bool
every_of p [] = true
every_of p (x ∷ xs) = p x && every_of p xs

-- some member passes
unfoldable pub any_of {ℓ} : {A : Type ℓ} → (A → Bool) → List A → Bool
any_of p [] = false
any_of p (x ∷ xs) = p x || any_of p xs

-- the members that pass
unfoldable pub keep_of {ℓ} : {A : Type ℓ} → (A → Bool) → List A → List A
keep_of p [] = []
keep_of p (x ∷ xs) = pick (p x) (x ∷ keep_of p xs) (keep_of p xs)

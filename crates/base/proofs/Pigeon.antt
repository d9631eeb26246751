-- No more numbers go one to one into fewer.
use Prim.Native.Nat.{ℕ, zero, suc, ◌<◌, ◌≤◌, zero-le, suc-le-suc}
use mathlib.Core.Path.{◌≡◌, refl, sym, ◌∙◌}
use mathlib.Core.Bool.{Bool, true, false}
use native.Mathlib.Nat.{not-suc-le-zero}
use native.Mathlib.Omega.{arith}
use lib.Dec.{eqb}
use borrow.Author.Tests.{eqb-true, eqb-false}
use Rattle.base.specs.Choice.{pick}

-- f takes the numbers below n one to one to numbers below m
pub record Into (n m : ℕ) (f : ℕ → ℕ) : Type 0 where
  pub bound : (i : ℕ) → i < n → f i < m
  pub one : (i j : ℕ) → i < n → j < n → f i ≡ f j → i ≡ j

-- x, but b in the place of a
abbrev swap : ℕ → ℕ → ℕ → ℕ
swap a b x = pick (eqb x a) b x

-- the last of n + 1 numbers left out
fewer : (n m : ℕ) (f : ℕ → ℕ) → Into (suc n) (suc m) f → Into n m (λ i. swap m (f n) (f i))
fewer n m f h =
    record {
      bound = λ i l. low i l (eqb (f i) m) refl;
      one = λ i j l k e. same i j l k (eqb (f i) m) refl (eqb (f j) m) refl e;
    }
  where
    low : (i : ℕ) → i < n → (b : Bool) → eqb (f i) m ≡ b → pick b (f n) (f i) < m
    low i l true e =
        let q = eqb-true (f i) m e in
        let x = h.bound n (omega arith) in
        let y : f n ≡ m → ⊥ = λ z. let w = h.one i n (omega arith) (omega arith) (q ∙ sym z) in omega arith in
        omega arith
    low i l false e =
        let x = h.bound i (omega arith) in
        let y : f i ≡ m → ⊥ = eqb-false (f i) m e in
        omega arith

    same : (i j : ℕ) → i < n → j < n → (b : Bool) → eqb (f i) m ≡ b → (d : Bool) → eqb (f j) m ≡ d → pick b (f n) (f i) ≡ pick d (f n) (f j) → i ≡ j
    same i j l k true p true q e = h.one i j (omega arith) (omega arith) (eqb-true _ _ p ∙ sym (eqb-true _ _ q))
    same i j l k true p false q e = let w = h.one n j (omega arith) (omega arith) e in absurd (omega arith)
    same i j l k false p true q e = let w = h.one i n (omega arith) (omega arith) e in absurd (omega arith)
    same i j l k false p false q e = h.one i j (omega arith) (omega arith) e

pub pigeon : (n m : ℕ) (f : ℕ → ℕ) → Into n m f → n ≤ m
pigeon zero m f h = zero-le
pigeon (suc n) zero f h = absurd (not-suc-le-zero (h.bound n (omega arith)))
pigeon (suc n) (suc m) f h = suc-le-suc (pigeon n m (λ i. swap m (f n) (f i)) (fewer n m f h))

-- What the tests say, as equivalences for `simp`: `simp truth at h` turns `h : test ≡ true` into facts.
use Prim.Native.Nat.{ℕ, ◌≤◌, ◌<◌}
use mathlib.Core.Path.{◌≡◌, refl, sym, ◌∙◌}
use mathlib.Core.Bool.{Bool, true, false, ◌&&◌, ◌||◌, not, true≢false, beq}
use mathlib.Core.Logic.{◌↔◌, ◌⊎◌, inl, inr}
use lib.Dec.{eqb, ltb, leb}
use borrow.Author.Tests.{ltb-true, ltb-false, leb-true, eqb-true, eqb-false, le-ltb, le-leb, eq-eqb, ne_eqb}
use Rattle.base.proofs.BelowLaws.{and_left, and_right, and_both}

pub and_iff : (a b : Bool) → (a && b ≡ true) ↔ ((a ≡ true) × (b ≡ true))
and_iff a b = (λ h. (and_left a b h, and_right a b h), λ p. and_both p.0 p.1)

or_to : (a b : Bool) → a || b ≡ true → a ≡ false → b ≡ true
or_to true b h e = absurd (true≢false e)
or_to false b h e = h

or_from : (a b : Bool) → (a ≡ false → b ≡ true) → a || b ≡ true
or_from true b h = refl
or_from false b h = h refl

pub or_iff : (a b : Bool) → (a || b ≡ true) ↔ (a ≡ false → b ≡ true)
or_iff a b = (or_to a b, or_from a b)

pub leb_iff : (a b : ℕ) → (leb a b ≡ true) ↔ (a ≤ b)
leb_iff a b = (leb-true a b, le-leb a b)

pub ltb_not_iff : (a b : ℕ) → (ltb a b ≡ false) ↔ (b ≤ a)
ltb_not_iff a b = (ltb-false a b, le-ltb a b)

pub eqb_iff : (a b : ℕ) → (eqb a b ≡ true) ↔ (a ≡ b)
eqb_iff a b = (eqb-true a b, eq-eqb a b)

pub eqb_not_iff : (a b : ℕ) → (eqb a b ≡ false) ↔ (a ≡ b → ⊥)
eqb_not_iff a b = (eqb-false a b, ne_eqb a b)

beq_to : (a b : Bool) → beq a b ≡ true → a ≡ b
beq_to true true h = refl
beq_to true false h = sym h
beq_to false true h = h
beq_to false false h = refl

beq_from : (a b : Bool) → (a ≡ true → b ≡ true) → (b ≡ true → a ≡ true) → beq a b ≡ true
beq_from true true f g = refl
beq_from true false f g = f refl
beq_from false true f g = g refl
beq_from false false f g = refl

pub beq_iff : (a b : Bool) → (beq a b ≡ true) ↔ ((a ≡ true → b ≡ true) × (b ≡ true → a ≡ true))
beq_iff a b = (λ h. (λ e. sym (beq_to a b h) ∙ e, λ e. beq_to a b h ∙ e), λ p. beq_from a b p.0 p.1)

not_to : (a : Bool) → not a ≡ true → a ≡ false
not_to true h = sym h
not_to false h = refl

not_from : (a : Bool) → a ≡ false → not a ≡ true
not_from true h = sym h
not_from false h = refl

pub not_iff : (a : Bool) → (not a ≡ true) ↔ (a ≡ false)
not_iff a = (not_to a, not_from a)

-- where a test is false, so is one that says no less
pub false_of : (a b : Bool) → (b ≡ true → a ≡ true) → a ≡ false → b ≡ false
false_of a true h e = sym (h refl) ∙ e
false_of a false h e = refl

-- equality of numbers is decided, so what is not unequal is equal
pub equal_of : (a b : ℕ) → ((a ≡ b → ⊥) → ⊥) → a ≡ b
equal_of a b h = eqb-true a b (go (eqb a b) refl)
  where
    go : (t : Bool) → eqb a b ≡ t → t ≡ true
    go true e = refl
    go false e = absurd (h (eqb-false a b e))

-- one number is below another or not
pub split : (a b : ℕ) → (a < b) ⊎ (b ≤ a)
split a b = go (ltb a b) refl
  where
    go : (t : Bool) → ltb a b ≡ t → (a < b) ⊎ (b ≤ a)
    go true e = inl (ltb-true a b e)
    go false e = inr (ltb-false a b e)

-- two numbers are equal or not
pub same : (a b : ℕ) → (a ≡ b) ⊎ (a ≡ b → ⊥)
same a b = go (eqb a b) refl
  where
    go : (t : Bool) → eqb a b ≡ t → (a ≡ b) ⊎ (a ≡ b → ⊥)
    go true e = inl (eqb-true a b e)
    go false e = inr (eqb-false a b e)

pub ruleset truth = (and_iff, beq_iff, not_iff, or_iff, leb_iff, ltb_not_iff, eqb_iff, eqb_not_iff)

-- One add per unit, for a loop that has passed the first i units; and the bytes of a single step.
use Prim.Native.Nat.{ℕ, ◌+◌, ◌-◌, ◌/◌, ◌≤◌, ◌<◌}
use mathlib.Core.Path.{◌≡◌, refl, sym, ap, ap₂, ◌∙◌, subst}
use mathlib.Core.Bool.{Bool, true}
use mathlib.Core.Logic.{◌≢◌}
use mathlib.Core.List.{List, [], ◌∷◌, ◌++◌}
use native.Mathlib.Omega.{arith}
use lib.ListN.{length, get_or, take, drop, length-append, drop_of_length-le}
use lib.Seq.{sets}
use Rattle.base.proofs.SetsLaws.{sets_append}
use Rattle.drat.specs.Grammar.{step_of, encode_step, encode}
use Rattle.drat.specs.declared.Format.{Format}
use Rattle.drat.specs.declared.Kind.TheVariants.{Add}
use Rattle.drat.proofs.Steps.{next}
use Rattle.scope.specs.declared.Writes.TheVariants.{AddEach}
use Rattle.scope.specs.Steps.{written}

pub encode_none : (f : Format) → encode f [] ≡ []
unfolding encode
encode_none f = refl

-- the part of the unit at i
pub unit_is : (l : List ℕ) (i : ℕ) → i < length l → take (i + 1 - i) (drop i l) ≡ get_or l i 0 ∷ []
unit_is l i h = ap (take (i + 1 - i)) (next l i h) ∙ ap (λ (n : ℕ). take n (get_or l i 0 ∷ drop (i + 1) l)) one
  where
    one : i + 1 - i ≡ 1
    one = omega arith

-- what its renaming asks, and what it gives
pub unit_asks : (gs : List ℕ) (s : Bool) (l : List ℕ) (i : ℕ) → i < length l
    → get_or gs (get_or l i 0 / 2) 0 ≤ 4096 → (s ≡ true → get_or gs (get_or l i 0 / 2) 0 ≢ 0)
    → (length (take (i + 1 - i) (drop i l)) ≡ 1)
    × ((get_or gs (get_or (take (i + 1 - i) (drop i l)) 0 0 / 2) 0 ≤ 4096) × (s ≡ true → get_or gs (get_or (take (i + 1 - i) (drop i l)) 0 0 / 2) 0 ≢ 0))
unit_asks gs s l i h a b =
    let e = unit_is l i h in (
      ap length e,
      subst (λ (xs : List ℕ). (get_or gs (get_or xs 0 0 / 2) 0 ≤ 4096) × (s ≡ true → get_or gs (get_or xs 0 0 / 2) 0 ≢ 0)) (sym e) (a, b),
    )

pub unit_named : (name : ℕ → ℕ) (l : List ℕ) (i r : ℕ) → i < length l → r ≡ name (get_or (take (i + 1 - i) (drop i l)) 0 0) → r ≡ name (get_or l i 0)
unit_named name l i r h e = e ∙ ap (λ (xs : List ℕ). name (get_or xs 0 0)) (unit_is l i h)

module _ (f : Format) (l : List ℕ) where
  -- the bytes of the units from i on, and of the unit at i alone
  abbrev pub units_from : ℕ → List ℕ
  units_from i = encode f (written AddEach (drop i l))

  abbrev pub unit_at : ℕ → List ℕ
  unit_at i = encode_step f (step_of Add (take (i + 1 - i) (drop i l)))

  units_next : (i : ℕ) → i < length l → units_from i ≡ unit_at i ++ units_from (i + 1)
  unfolding encode
  units_next i h =
      ap (λ (xs : List ℕ). encode f (written AddEach xs)) (next l i h)
      ∙ ap (λ (xs : List ℕ). encode_step f (step_of Add xs) ++ units_from (i + 1)) (sym (unit_is l i h))

  pub units_length : (i : ℕ) → i < length l → length (units_from i) ≡ length (unit_at i) + length (units_from (i + 1))
  units_length i h = ap length (units_next i h) ∙ length-append (unit_at i) (units_from (i + 1))

  pub units_done : (i : ℕ) → length l ≤ i → units_from i ≡ []
  unfolding encode
  units_done i h = ap (λ (xs : List ℕ). encode f (written AddEach xs)) (drop_of_length-le l h)

  -- one step more written
  pub units_put : (o m : List ℕ) (p q i : ℕ) → i < length l → m ≡ sets o p (unit_at i) → q ≡ p + length (unit_at i)
      → sets m q (units_from (i + 1)) ≡ sets o p (units_from i)
  units_put o m p q i h e k =
      ap₂ (λ (x : List ℕ) (j : ℕ). sets x j (units_from (i + 1))) e k
      ∙ sym (sets_append (unit_at i) (units_from (i + 1)) o p)
      ∙ sym (ap (sets o p) (units_next i h))

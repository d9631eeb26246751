-- The digits of the header's numbers, and their value.
use Prim.Native.Nat.{ℕ, ◌+◌, ◌-◌, ◌*◌, ◌≤◌, ◌<◌}
use mathlib.Core.Path.{◌≡◌, refl, sym, ap, ◌∙◌, subst, subst₂}
use mathlib.Core.List.{List, [], ◌∷◌, ◌++◌, append_assoc, append-nil}
use mathlib.Core.Bool.{Bool, true, false, not}
use native.Mathlib.Omega.{arith}
use lib.Dec.{eqb}
use borrow.Author.Tests.{eqb-true, eqb-false, ne_eqb}
use Rattle.base.specs.Choice.{pick}
use Rattle.drat.specs.Numeral.{digit, decimal, Numeral, one, more}
use Rattle.drat.specs.Reading.{with_digit}
use Rattle.drat.proofs.Numerals.{in_range_is, is_in_range}
use Rattle.drat.proofs.Complete.{Apart, decimal_first}
use Rattle.dimacs.specs.Cnf.{Count, nought, some}
use Rattle.dimacs.specs.Reading.{digits_of, value_from, proper}

-- every byte is a digit
unfoldable pub AllDigits : List ℕ → Type 0
AllDigits [] = Unit {0}
AllDigits (b ∷ ds) = (digit b ≡ true) × AllDigits ds

all_append : (xs ys : List ℕ) → AllDigits xs → AllDigits ys → AllDigits (xs ++ ys)
unfolding AllDigits
all_append [] ys h g = g
all_append (x ∷ xs) ys h g = (h.0, all_append xs ys h.1 g)

pub value_append : (v : ℕ) (xs ys : List ℕ) → value_from v (xs ++ ys) ≡ value_from (value_from v xs) ys
unfolding value_from
value_append v [] ys = refl
value_append v (x ∷ xs) ys = value_append (with_digit v x) xs ys

one_digit : (d : ℕ) → d < 10 → AllDigits ((48 + d) ∷ [])
unfolding AllDigits
one_digit d h = (is_in_range 48 57 (48 + d) (omega arith) (omega arith), tt)

-- a numeral is digits, and has its value
numeral_digits : {bs : List ℕ} {n : ℕ} → Numeral decimal bs n → AllDigits bs
numeral_digits (one {d = d} p q) = one_digit d q
numeral_digits (more {d = d} {bs = bs} p n) = all_append bs ((48 + d) ∷ []) (numeral_digits n) (one_digit d p)

numeral_value : {bs : List ℕ} {n : ℕ} → Numeral decimal bs n → value_from 0 bs ≡ n
unfolding value_from
numeral_value (one {d = d} p q) = omega arith
numeral_value (more {d = d} {v = v} {bs = bs} p n) =
    value_append 0 bs ((48 + d) ∷ []) ∙ ap (λ (x : ℕ). with_digit x (48 + d)) (numeral_value n) ∙ omega arith

proper_first : (b : ℕ) (m : List ℕ) → 49 ≤ b → proper (b ∷ m) ≡ true
proper_first b [] h = refl
proper_first b (d ∷ m) h = ap not (ne_eqb b 48 (omega arith))

pub count_digits : {bs : List ℕ} {n : ℕ} → Count bs n → AllDigits bs
count_digits nought = one_digit 0 (omega arith)
count_digits (some n) = numeral_digits n

pub count_value : {bs : List ℕ} {n : ℕ} → Count bs n → value_from 0 bs ≡ n
unfolding value_from
count_value nought = refl
count_value (some n) = numeral_value n

pub count_proper : {bs : List ℕ} {n : ℕ} → Count bs n → proper bs ≡ true
count_proper nought = refl
count_proper (some n) = let f = decimal_first n in ap proper f.2 ∙ proper_first f.0 f.1 f.3

-- digits with no 0 in front are a number's
grow : {p : List ℕ} {v : ℕ} → Numeral decimal p v → (m : List ℕ) → AllDigits m → Numeral decimal (p ++ m) (value_from v m)
unfolding AllDigits value_from
grow {p} {v} n [] h = subst (λ (x : List ℕ). Numeral decimal x v) (sym (append-nil p)) n
grow {p} {v} n (b ∷ m) h =
    let (low, high) = in_range_is 48 57 b h.0 in
    let e : 48 + (b - 48) ≡ b = omega arith in
    let w : b - 48 + 10 * v ≡ with_digit v b = omega arith in
    let d : Numeral decimal (p ++ b ∷ []) (with_digit v b) =
    subst₂ (λ (x y : ℕ). Numeral decimal (p ++ x ∷ []) y) e w (more {d = b - 48} (omega arith) n) in
    subst (λ (x : List ℕ). Numeral decimal x (value_from (with_digit v b) m)) (append_assoc p (b ∷ []) m) (grow {p = p ++ b ∷ []} {v = with_digit v b} d m h.1)

first_digit : (b : ℕ) → digit b ≡ true → (b ≡ 48 → ⊥) → Numeral decimal (b ∷ []) (with_digit 0 b)
first_digit b h z =
    let (low, high) = in_range_is 48 57 b h in
    let e : 48 + (b - 48) ≡ b = omega arith in
    let w : b - 48 ≡ with_digit 0 b = omega arith in
    subst₂ (λ (x y : ℕ). Numeral decimal (x ∷ []) y) e w (one {d = b - 48} (omega arith) (omega arith))

pub proper_count : (ds : List ℕ) → AllDigits ds → proper ds ≡ true → Count ds (value_from 0 ds)
unfolding AllDigits value_from
proper_count [] h p = let z : ◌≡◌ {A = ℕ} 0 1 = cc in absurd (omega arith)
proper_count (b ∷ []) h p = go (eqb b 48) refl
  where
    go : (t : Bool) → eqb b 48 ≡ t → Count (b ∷ []) (with_digit 0 b)
    go true e = subst (λ (x : ℕ). Count (x ∷ []) (with_digit 0 x)) (sym (eqb-true b 48 e)) nought
    go false e = some (first_digit b h.0 (eqb-false b 48 e))
proper_count (b ∷ d ∷ ds) h p = some (grow (first_digit b h.0 (not_zero (eqb b 48) refl p)) (d ∷ ds) h.1)
  where
    not_zero : (t : Bool) → eqb b 48 ≡ t → not t ≡ true → b ≡ 48 → ⊥
    not_zero true e q = let z : ◌≡◌ {A = ℕ} 0 1 = cc in absurd (omega arith)
    not_zero false e q = eqb-false b 48 e

-- the digits that a list starts with, and what is left
pub digits_all : (l : List ℕ) → AllDigits (digits_of l)
unfolding AllDigits digits_of
digits_all [] = tt
digits_all (b ∷ l) = go (digit b) refl (digits_all l)
  where
    go : (t : Bool) → digit b ≡ t → AllDigits (digits_of l) → AllDigits (pick t (b ∷ digits_of l) [])
    go true e ih = (e, ih)
    go false e ih = tt

pub digits_split : (l : List ℕ) → (rest : List ℕ) × (l ≡ digits_of l ++ rest)
unfolding digits_of
digits_split [] = ([], refl)
digits_split (b ∷ l) = go (digit b) (digits_split l)
  where
    go : (t : Bool) → ((rest : List ℕ) × (l ≡ digits_of l ++ rest)) → (rest : List ℕ) × (b ∷ l ≡ pick t (b ∷ digits_of l) [] ++ rest)
    go true ih = (ih.0, ap (λ (m : List ℕ). b ∷ m) ih.1)
    go false ih = (b ∷ l, refl)

pub digits_apart : (ds l : List ℕ) → AllDigits ds → Apart l → digits_of (ds ++ l) ≡ ds
unfolding AllDigits digits_of
digits_apart [] [] h a = refl
digits_apart [] (b ∷ l) h a = rw a
digits_apart (d ∷ ds) l h a = rw h.0 (ap (λ (m : List ℕ). d ∷ m) (digits_apart ds l h.1 a))

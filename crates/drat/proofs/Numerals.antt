-- The laws of digits, for every base and every length at once.
use Prim.Native.Nat.{ℕ, zero, suc, ◌+◌, ◌*◌, ◌/◌, ◌%◌, ◌≤◌, ◌<◌}
use mathlib.Core.Path.{◌≡◌, refl, sym, ap, ◌∙◌, subst}
use mathlib.Core.List.{List}
use mathlib.Core.Bool.{Bool, true, false, true≢false}
use native.Mathlib.Omega.{arith}
use native.Mathlib.Nat.{mod-add-div, mod-lt, mod-eq_of_lt, div-lt_self, div-eq_of_lt, le-div_iff_mul-le, pos_of_div-pos, add-mul-div_left}
use native.Mathlib.Nat.{add-mul-mod_self_left}
use lib.Dec.{leb, ltb}
use borrow.Author.Tests.{leb-true, leb-false, le-leb, lt-leb, ltb-true, ltb-false}
use Rattle.base.proofs.BelowLaws.{and_left, and_right, and_both, and_not_left, and_not_right}
use Rattle.base.specs.Choice.{pick}
use Rattle.drat.specs.Numeral.{in_range, Radix, Numeral, one, more, Digits, spell, further, bytes_of}

-- a byte from lo to hi, and beside them
pub in_range_is : (lo hi x : ℕ) → in_range lo hi x ≡ true → (lo ≤ x) × (x ≤ hi)
in_range_is lo hi x e = (leb-true lo x (and_left (leb lo x) (leb x hi) e), leb-true x hi (and_right (leb lo x) (leb x hi) e))

pub is_in_range : (lo hi x : ℕ) → lo ≤ x → x ≤ hi → in_range lo hi x ≡ true
is_in_range lo hi x h k = and_both (le-leb lo x h) (le-leb x hi k)

pub below_range : (lo hi x : ℕ) → x < lo → in_range lo hi x ≡ false
below_range lo hi x h = and_not_left (leb lo x) (leb x hi) (lt-leb lo x h)

pub above_range : (lo hi x : ℕ) → hi < x → in_range lo hi x ≡ false
above_range lo hi x h = and_not_right (leb lo x) (leb x hi) (lt-leb x hi h)

pub out_of_range : (lo hi x : ℕ) → in_range lo hi x ≡ false → x ≤ hi → x < lo
out_of_range lo hi x e h = go (leb lo x) refl
  where
    go : (t : Bool) → leb lo x ≡ t → x < lo
    go true f = absurd (true≢false (sym (is_in_range lo hi x (leb-true lo x f) h) ∙ e))
    go false f = leb-false lo x f

-- what is spelled by length is spelled by the grammar
pub spell_numeral : (r : Radix) → 1 < r.base → (k n : ℕ) → Digits r.base k n → Numeral r (spell r k n) n
unfolding Digits spell
spell_numeral r hb zero n h = one h.0 h.1
spell_numeral r hb (suc k) n h =
    subst (λ (m : ℕ). Numeral r (spell r (suc k) n) m) (mod-add-div n r.base)
    (more (mod-lt n (omega arith)) (spell_numeral r hb k (n / r.base) h))

-- the length is the number's
pub further_digits : (b : ℕ) → 1 < b → (f n : ℕ) → n ≤ f → 0 < n → Digits b (further b f n) n
unfolding Digits further
further_digits b hb zero n hf hn = (hn, omega arith)
further_digits b hb (suc f) n hf hn =
    go (ltb n b) refl (λ h. further_digits b hb f (n / b) (omega (arith, div-lt_self hn hb)) h)
  where
    go : (t : Bool) → ltb n b ≡ t → (0 < n / b → Digits b (further b f (n / b)) (n / b)) → Digits b (pick t 0 (suc (further b f (n / b)))) n
    go true e ih = (hn, ltb-true n b e)
    go false e ih = ih ((le-div_iff_mul-le {x = 1} (omega arith)).1 (omega (arith, ltb-false n b e)))

pub bytes_numeral : (r : Radix) → 1 < r.base → (n : ℕ) → 0 < n → Numeral r (bytes_of r n) n
unfolding bytes_of
bytes_numeral r hb n hn = spell_numeral r hb (further r.base n n) n (further_digits r.base hb n n (omega arith) hn)

pub digits_pos : (b k n : ℕ) → Digits b k n → 0 < n
unfolding Digits
digits_pos b zero n h = h.0
digits_pos b (suc k) n h = pos_of_div-pos b (digits_pos b k (n / b) h)

-- a number below the base has no further digit
short : (b k n : ℕ) → n < b → Digits b k (n / b) → ⊥
short b k n p h = omega (arith, digits_pos b k (n / b) h, div-eq_of_lt p)

-- a number has one length
pub digits_once : (b j k n : ℕ) → Digits b j n → Digits b k n → j ≡ k
unfolding Digits
digits_once b zero zero n h₁ h₂ = refl
digits_once b zero (suc k) n h₁ h₂ = absurd (short b k n h₁.1 h₂)
digits_once b (suc j) zero n h₁ h₂ = absurd (short b j n h₂.1 h₁)
digits_once b (suc j) (suc k) n h₁ h₂ = ap suc (digits_once b j k (n / b) h₁ h₂)

div_digit : (b d v : ℕ) → d < b → (d + b * v) / b ≡ v
div_digit b d v p = add-mul-div_left d v {y = b} (omega arith) ∙ (rw (div-eq_of_lt p) (omega arith))

mod_digit : (b d v : ℕ) → d < b → (d + b * v) % b ≡ d
mod_digit b d v p = add-mul-mod_self_left d b v ∙ mod-eq_of_lt p

-- what the grammar spells is what is spelled by length
pub numeral_spell : (r : Radix) {bs : List ℕ} {n : ℕ} → Numeral r bs n → (k : ℕ) × (Digits r.base k n × (bs ≡ spell r k n))
unfolding Digits spell
numeral_spell r (one p q) = (0, ((p, q), refl))
numeral_spell r (more {d = d} {v = v} p h) =
    let ih = numeral_spell r h in
    (suc ih.0, (rw (div_digit r.base d v p) ih.1.0, cc (div_digit r.base d v p, mod_digit r.base d v p, ih.1.1)))

-- so a number has one spelling, and it is bytes_of's
pub numeral_bytes : (r : Radix) → 1 < r.base → {bs : List ℕ} {n : ℕ} → Numeral r bs n → bs ≡ bytes_of r n
unfolding bytes_of
numeral_bytes r hb {bs} {n} h =
    let s = numeral_spell r h in
    let e = digits_once r.base s.0 (further r.base n n) n s.1.0
    (further_digits r.base hb n n (omega arith) (digits_pos r.base s.0 n s.1.0)) in
    s.1.1 ∙ ap (λ (k : ℕ). spell r k n) e

pub numeral_pos : (r : Radix) {bs : List ℕ} {n : ℕ} → Numeral r bs n → 0 < n
numeral_pos r {n = n} h = let s = numeral_spell r h in digits_pos r.base s.0 n s.1.0

-- a quotient is above 0 and falls
pub quotient : (b : ℕ) → 1 < b → (n : ℕ) → b ≤ n → (0 < n / b) × (n / b < n)
quotient b hb n h = ((le-div_iff_mul-le {k = b} {x = 1} {y = n} (omega arith)).1 (omega arith), div-lt_self (omega arith) hb)

-- a number below the base is its one digit; any other is its lowest digit and the rest
pub bytes_top : (r : Radix) → 1 < r.base → (n : ℕ) → 0 < n → n < r.base → bytes_of r n ≡ r.top n
bytes_top r hb n p q = sym (numeral_bytes r hb (one p q))

pub bytes_below : (r : Radix) → 1 < r.base → (n : ℕ) → r.base ≤ n → bytes_of r n ≡ r.below (n % r.base) (bytes_of r (n / r.base))
bytes_below r hb n h =
    let q = (quotient r.base hb n h).0 in
    sym (numeral_bytes r hb (subst (λ (m : ℕ). Numeral r (r.below (n % r.base) (bytes_of r (n / r.base))) m) (mod-add-div n r.base)
    (more (mod-lt n (omega arith)) (bytes_numeral r hb (n / r.base) q))))

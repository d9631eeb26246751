-- What a test on neighbours says, byte by byte.
use Prim.Native.Nat.{ℕ, ◌+◌, ◌-◌, ◌*◌, ◌≤◌, ◌<◌}
use mathlib.Core.Bool.{Bool, true, false, ◌&&◌, ◌||◌, not, true≢false}
use mathlib.Core.List.{List, [], ◌∷◌}
use mathlib.Core.Logic.{◌⊎◌, inl, inr}
use mathlib.Core.Path.{◌≡◌, refl, sym, ap₂, ◌∙◌, subst}
use lib.Dec.{eqb, leb, ltb}
use native.Mathlib.Omega.{arith}
use borrow.Author.Tests.{leb-true, ltb-true, ltb-false, eqb-true, eqb-false, lt-ltb, le-ltb, eq-eqb, ne_eqb, not-true}
use Rattle.base.proofs.BelowLaws.{and_left, and_right}
use Rattle.base.proofs.MemberLaws.{or_left, or_right}
use Rattle.drat.proofs.Numerals.{in_range_is, is_in_range, below_range}
use Rattle.drat.specs.Grammar.{Sep, blank, feed}
use Rattle.drat.specs.Numeral.{in_range, digit}
use Rattle.drat.specs.Reading.{sep}
use Rattle.drat.specs.declared.Format.TheVariants.{Text, Binary}
use Rattle.drat.specs.declared.Format.{Format}
use Rattle.drat_judge.specs.Local.{near, small, closing, low, closed, digit_next, mark_next, text_next, binary_next, may_follow, ended, runs}

pub runs_cons : (f : Format) (a b c p x : ℕ) (l : List ℕ) → runs f a b c p (x ∷ l) ≡ true → (may_follow f a b c p x ≡ true) × (runs f b c p x l ≡ true)
unfolding runs
runs_cons f a b c p x l e = (and_left (may_follow f a b c p x) (runs f b c p x l) e, and_right (may_follow f a b c p x) (runs f b c p x l) e)

runs_end : (f : Format) (a b c p : ℕ) → runs f a b c p [] ≡ true → ended f a b c p ≡ true
unfolding runs
runs_end f a b c p e = e

either : (a b : Bool) → a || b ≡ true → (a ≡ true) ⊎ (b ≡ true)
either true b h = inl refl
either false b h = inr h

-- ---- the end
pub not_near : (c : ℕ) → 48 ≤ c → c ≤ 127 → near c ≡ false → ⊥
not_near c h k e = true≢false (sym (is_in_range 48 127 c h k) ∙ e)

pub not_closing : (c p : ℕ) → (p ≡ 48 → near c ≡ false → ⊥) → closing c p ≡ true → ⊥
not_closing c p h e = h (eqb-true p 48 (and_left (eqb p 48) (not (near c)) e)) (not-true (near c) (and_right (eqb p 48) (not (near c)) e))

-- a closing 0, and one separator or two: the last, p, is apart
pub data Closed (a b c : ℕ) : Type 0 where
  once : closing b c ≡ true → Closed a b c
  twice : near c ≡ false → closing a b ≡ true → Closed a b c

pub not_closed : (a b c : ℕ) → (closing b c ≡ true → ⊥) → (near c ≡ false → closing a b ≡ true → ⊥) → Closed a b c → ⊥
not_closed a b c h k (once e) = h e
not_closed a b c h k (twice n e) = k n e

closed_is : (a b c : ℕ) → closed a b c ≡ true → Closed a b c
closed_is a b c h = go (either (closing b c) (not (near c) && closing a b) h)
  where
    go : (closing b c ≡ true) ⊎ (not (near c) && closing a b ≡ true) → Closed a b c
    go (inl e) = once e
    go (inr e) = twice (not-true (near c) (and_left (not (near c)) (closing a b) e)) (and_right (not (near c)) (closing a b) e)

-- p is below 45, or no byte of text
abbrev pub Low : ℕ → Type 0
Low p = 45 ≤ p → p ≤ 127 → ⊥

low_is : (p : ℕ) → low p ≡ true → Low p
low_is p h i j = true≢false (sym (is_in_range 45 127 p i j) ∙ not-true (in_range 45 127 p) h)

pub text_end : (a b c p : ℕ) → runs Text a b c p [] ≡ true → (closing c p ≡ true) ⊎ (Low p × Closed a b c)
text_end a b c p e = go (either (closing c p) (low p && closed a b c) (runs_end Text a b c p e))
  where
    go : (closing c p ≡ true) ⊎ (low p && closed a b c ≡ true) → (closing c p ≡ true) ⊎ (Low p × Closed a b c)
    go (inl h) = inl h
    go (inr h) = inr (low_is p (and_left (low p) (closed a b c) h), closed_is a b c (and_right (low p) (closed a b c) h))

pub binary_end : (a b c p : ℕ) → runs Binary a b c p [] ≡ true → p ≡ 0
binary_end a b c p e = eqb-true p 0 (runs_end Binary a b c p e)

-- ---- text: what x may be
pub sep_is : (x : ℕ) → sep x ≡ true → Sep x
sep_is x h = go (either (eqb x 32) (eqb x 10) h)
  where
    go : (eqb x 32 ≡ true) ⊎ (eqb x 10 ≡ true) → Sep x
    go (inl e) = subst Sep (sym (eqb-true x 32 e)) blank
    go (inr e) = subst Sep (sym (eqb-true x 10 e)) feed

pub sep_low : {x : ℕ} → Sep x → x < 45
sep_low blank = omega arith
sep_low feed = omega arith

pub record Digit (a b c p x : ℕ) : Type 0 where
  pub low : 48 ≤ x
  pub high : x ≤ 57
  pub no_dee : p ≡ 100 → ⊥
  pub inside : closing c p ≡ false
  pub proper : p ≡ 45 → 49 ≤ x
  pub within : small a b c p x ≡ true

pub data Next (a b c p x : ℕ) : Type 0 where
  digits : Digit a b c p x → Next a b c p x
  seps : Sep x → (p ≡ 45 → ⊥) → Next a b c p x
  signs : Low p → x ≡ 45 → Next a b c p x
  dees : Low p → x ≡ 100 → Closed a b c → Next a b c p x

after_minus : (p x : ℕ) → not (eqb p 45) || in_range 49 127 x ≡ true → p ≡ 45 → 49 ≤ x
after_minus p x h e = (in_range_is 49 127 x (go (eqb p 45) (eq-eqb p 45 e) h)).0
  where
    go : (u : Bool) → u ≡ true → not u || in_range 49 127 x ≡ true → in_range 49 127 x ≡ true
    go true e h = h
    go false e h = absurd (true≢false (sym e))

digit_is : (a b c p x : ℕ) → digit_next a b c p x ≡ true → (p ≡ 45 → 49 ≤ x) → Digit a b c p x
digit_is a b c p x h m =
    let token = not (eqb p 100 || closing c p) in
    let d = in_range_is 48 57 x (and_left (digit x) (small a b c p x && token) h) in
    let r = and_right (digit x) (small a b c p x && token) h in
    let n = not-true (eqb p 100 || closing c p) (and_right (small a b c p x) token r) in
    record {
      low = d.0;
      high = d.1;
      no_dee = eqb-false p 100 (or_left (eqb p 100) (closing c p) n);
      inside = or_right (eqb p 100) (closing c p) n;
      proper = m;
      within = and_left (small a b c p x) token r;
    }

mark_is : (a b c p x : ℕ) → mark_next a b c p x ≡ true → Next a b c p x
mark_is a b c p x h = go (either (eqb x 45) (eqb x 100 && closed a b c) (and_right (low p) (eqb x 45 || (eqb x 100 && closed a b c)) h))
  where
    lows : Low p
    lows = low_is p (and_left (low p) (eqb x 45 || (eqb x 100 && closed a b c)) h)

    go : (eqb x 45 ≡ true) ⊎ (eqb x 100 && closed a b c ≡ true) → Next a b c p x
    go (inl e) = signs lows (eqb-true x 45 e)
    go (inr e) = dees lows (eqb-true x 100 (and_left (eqb x 100) (closed a b c) e)) (closed_is a b c (and_right (eqb x 100) (closed a b c) e))

pub next_is : (a b c p x : ℕ) → text_next a b c p x ≡ true → Next a b c p x
unfolding text_next
next_is a b c p x h = go (either (digit_next a b c p x) (sep x || mark_next a b c p x) (and_left kinds minus h))
  where
    kinds : Bool
    kinds = digit_next a b c p x || (sep x || mark_next a b c p x)

    minus : Bool
    minus = not (eqb p 45) || in_range 49 127 x

    proper : p ≡ 45 → 49 ≤ x
    proper = after_minus p x (and_right kinds minus h)

    spaced : (sep x ≡ true) ⊎ (mark_next a b c p x ≡ true) → Next a b c p x
    spaced (inl e) = let s = sep_is x e in seps s (λ z. omega (arith, proper z, sep_low s))
    spaced (inr e) = mark_is a b c p x e

    go : (digit_next a b c p x ≡ true) ⊎ (sep x || mark_next a b c p x ≡ true) → Next a b c p x
    go (inl e) = digits (digit_is a b c p x e proper)
    go (inr e) = spaced (either (sep x) (mark_next a b c p x) e)

-- a closing 0
pub closing_is : (c p : ℕ) → p ≡ 48 → c < 48 → closing c p ≡ true
closing_is c p e h = ap₂ (λ (u w : Bool). u && not w) (eq-eqb p 48 e) (below_range 48 127 c h)

-- ---- binary
pub start_next : (x : ℕ) → binary_next 0 x ≡ true → (x ≡ 97) ⊎ (x ≡ 100)
unfolding binary_next
start_next x h = go (eqb x 97) refl h
  where
    go : (t : Bool) → eqb x 97 ≡ t → t || eqb x 100 ≡ true → (x ≡ 97) ⊎ (x ≡ 100)
    go true e h = inl (eqb-true x 97 e)
    go false e h = inr (eqb-true x 100 h)

pub inside_next : (p x : ℕ) → 0 < p → p < 128 → binary_next p x ≡ true → x ≡ 1 → ⊥
unfolding binary_next
inside_next p x k m h = eqb-false x 1 (not-true (eqb x 1) (simp (lt-ltb p 128 m, ne_eqb p 0 (omega arith)) at h))

pub second_next : (p x : ℕ) → 128 ≤ p → p < 256 → binary_next p x ≡ true → (1 ≤ x) × (x ≤ 64) × (p - 128 + 128 * x ≤ 8193)
unfolding binary_next
second_next p x k m h = go (ltb x 64) refl (simp (le-ltb p 128 k) at h)
  where
    go : (t : Bool) → ltb x 64 ≡ t → in_range 1 64 x && (t || leb p 129) ≡ true → (1 ≤ x) × (x ≤ 64) × (p - 128 + 128 * x ≤ 8193)
    go true e h = omega (arith, ltb-true x 64 e, in_range_is 1 64 x (and_left (in_range 1 64 x) true h))
    go false e h = omega (
      arith,
      ltb-false x 64 e,
      in_range_is 1 64 x (and_left (in_range 1 64 x) (leb p 129) h),
      leb-true p 129
          (and_right (in_range 1 64 x) (leb p 129) h),
    )

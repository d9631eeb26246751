-- What stands at a place: numbers, separators, and the gaps after them.
use Prim.Native.Nat.{ℕ, suc, ◌+◌, ◌≤◌, ◌<◌}
use mathlib.Core.Bool.{Bool, true, false}
use mathlib.Core.List.{List}
use mathlib.Core.Path.{◌≡◌, refl, sym, ap, ◌∙◌}
use lib.Dec.{eqb}
use lib.ListN.{length, get_or, drop, get_or-eq_default}
use native.Mathlib.Omega.{arith}
use borrow.Author.Tests.{ne_eqb}
use Rattle.base.proofs.MemberLaws.{word_inside}
use Rattle.base.specs.Choice.{pick}
use Rattle.drat.proofs.At.{signed_here, seps_here, text_here, gap_at}
use Rattle.drat.proofs.Separators.{is_sep}
use Rattle.drat.specs.Grammar.{Sep, blank, feed}
use Rattle.drat.specs.Reading.{digits_from, signed_from, sep, seps, then_gap, token, gap_from}
use Rattle.drat.specs.declared.Format.TheVariants.{Text}
use Rattle.drat.specs.declared.Kind.TheVariants.{Delete}
use Rattle.drat.specs.declared.Token.TheVariants.{Lit}
use Rattle.std.specs.Prelude.{Some, None}
use Rattle.drat.specs.Reading.{opens}

-- a number: an optional minus, then digits
pub signed_digits : (s : List ℕ) (i sign : ℕ) → i < length s → sign ≡ pick (eqb (get_or s i 0) 45) 1 0
    → signed_from i (drop i s) ≡ digits_from sign 0 (i + sign) (drop (i + sign) s)
signed_digits s i sign h e = go (eqb (get_or s i 0) 45) refl
  where
    choice : (u : Bool) → eqb (get_or s i 0) 45 ≡ u → signed_from i (drop i s) ≡ pick u (digits_from 1 0 (i + 1) (drop (i + 1) s)) (digits_from 0 0 i (drop i s))
    choice u q = signed_here s i h ∙ ap (λ (w : Bool). pick w (digits_from 1 0 (i + 1) (drop (i + 1) s)) (digits_from 0 0 i (drop i s))) q

    signs : (u : Bool) → eqb (get_or s i 0) 45 ≡ u → pick u 1 0 ≡ sign
    signs u q = sym (e ∙ ap (λ (w : Bool). pick w 1 0) q)

    go : (u : Bool) → eqb (get_or s i 0) 45 ≡ u → signed_from i (drop i s) ≡ digits_from sign 0 (i + sign) (drop (i + sign) s)
    go true q = choice true q ∙ ap (λ (w : ℕ). digits_from w 0 (i + w) (drop (i + w) s)) (signs true q)
    go false q =
        let z : i ≡ i + 0 = omega arith in
        choice false q ∙ ap (λ (w : ℕ). digits_from 0 0 w (drop w s)) z ∙ ap (λ (w : ℕ). digits_from w 0 (i + w) (drop (i + w) s)) (signs false q)

-- a text literal: a number and the separators after it
pub text_literal : (s : List ℕ) (i : ℕ) → i < length s → (get_or s i 0 ≡ 48 → ⊥) → token Text i (drop i s) ≡ then_gap i (drop i s) (signed_from i (drop i s))
text_literal s i h n = text_here s i h ∙ simp (ne_eqb (get_or s i 0) 48 n)

-- a separator is a byte below a minus, and no default
pub sep_small : (b : ℕ) → sep b ≡ true → (0 < b) × (b < 45)
sep_small b h = go (is_sep b h)
  where
    go : {x : ℕ} → Sep x → (0 < x) × (x < 45)
    go blank = omega arith
    go feed = omega arith

-- no separator
pub seps_none : (s : List ℕ) (i : ℕ) → i < length s → sep (get_or s i 0) ≡ false → seps (drop i s) ≡ 0
seps_none s i h n = seps_here s i h ∙ simp n

-- separators, the first of them apart
pub seps_one : (s : List ℕ) (i : ℕ) → sep (get_or s i 0) ≡ true → i + seps (drop i s) ≡ i + 1 + seps (drop (i + 1) s)
seps_one s i h =
    let b = sep_small (get_or s i 0) h in
    let e : seps (drop i s) ≡ suc (seps (drop (i + 1) s)) = seps_here s i (word_inside s i (λ z. omega (arith, b.0))) ∙ simp h in
    omega (arith, e)

-- the gap after a number, and the one after a `d`
pub gap_some : (s : List ℕ) (code i r : ℕ) → sep (get_or s i 0) ≡ true → r ≡ i + 1 + seps (drop (i + 1) s)
    → Some (Lit code r) ≡ pick (sep (get_or s i 0)) (Some (Lit code (i + seps (drop i s)))) None
gap_some s code i r h e = ap (λ (x : ℕ). Some (Lit code x)) (e ∙ sym (seps_one s i h)) ∙ sym (ap (λ (t : Bool). pick t (Some (Lit code (i + seps (drop i s)))) None) h)

pub open_none : (s : List ℕ) (i : ℕ) → length s ≤ i → None ≡ gap_from i (drop i s)
open_none s i h = sym (gap_at s i ∙ simp (get_or-eq_default s 0 h))

pub open_some : (s : List ℕ) (i r : ℕ) → sep (get_or s i 0) ≡ true → r ≡ i + 1 + seps (drop (i + 1) s) → opens Delete r ≡ gap_from i (drop i s)
open_some s i r h e =
    ap (λ (x : ℕ). opens Delete x) (e ∙ sym (seps_one s i h)) ∙ sym (gap_at s i ∙ ap (λ (t : Bool). pick t (opens Delete (i + seps (drop i s))) None) h)

pub open_not : (s : List ℕ) (i : ℕ) → sep (get_or s i 0) ≡ false → None ≡ gap_from i (drop i s)
open_not s i h = sym (gap_at s i ∙ ap (λ (t : Bool). pick t (opens Delete (i + seps (drop i s))) None) h)

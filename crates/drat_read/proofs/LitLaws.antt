-- What a place must hold if a literal stands there.
use Prim.Native.Nat.{ℕ, ◌+◌, ◌-◌, ◌*◌, ◌≤◌, ◌<◌}
use mathlib.Core.Bool.{Bool, true, false}
use mathlib.Core.List.{List}
use mathlib.Core.Logic.{⊎_elim}
use mathlib.Core.Path.{◌≡◌, refl, sym, ap, ap₂, ◌∙◌}
use lib.Dec.{eqb, ltb}
use lib.ListN.{length, get_or, drop}
use native.Mathlib.Omega.{arith}
use borrow.Author.Tests.{eqb-false, ltb-false, ne_eqb, lt-ltb, le-ltb}
use Rattle.base.proofs.MemberLaws.{word_inside}
use Rattle.base.proofs.Truth.{split}
use Rattle.base.specs.Choice.{pick}
use Rattle.drat.proofs.At.{leb_here, binary_here, leb_past, token_past, gap_after, gap_stop, gap_bad}
use Rattle.drat.proofs.Places.{signed_moves}
use Rattle.drat.proofs.Separators.{no_sep}
use Rattle.drat.proofs.Sound.{lit_bad, lit_parts, passed}
use Rattle.drat.specs.Reading.{signed_from, sep, seps, then_gap, leb_from, token}
use Rattle.drat.specs.declared.Format.TheVariants.{Text, Binary}
use Rattle.drat.specs.declared.Format.{Format}
use Rattle.drat.specs.declared.Token.TheVariants.{Lit, Stop}
use Rattle.drat.specs.declared.Token.{Token}
use Rattle.drat_scan.proofs.PlaceLaws.{text_literal, sep_small, seps_none, seps_one}
use Rattle.drat_read.specs.Known.{IsNumber, IsGap}
use Rattle.std.specs.Prelude.{Option, Some, None}

-- a literal's code may be written as any sum that it is
pub lit_code : (x : Option Token) (c k j : ℕ) → x ≡ Some (Lit c j) → k ≡ c → x ≡ Some (Lit k j)
lit_code x c k j e h = e ∙ ap (λ (i : ℕ). Some (Lit i j)) (sym h)

kept : (t : Bool) (y : Option Token) (c j : ℕ) → pick t y None ≡ Some (Lit c j) → y ≡ Some (Lit c j)
kept true y c j e = e
kept false y c j e = absurd (lit_bad c j (sym e))

-- what is read stands in the input
standing : (s : List ℕ) (i : ℕ) (t : Option Token) (c j : ℕ) → t ≡ Some (Lit c j) → (length s ≤ i → t ≡ None) → i < length s
standing s i t c j e past = ⊎_elim (λ (h : i < length s). h) (λ (h : length s ≤ i). absurd (lit_bad c j (sym e ∙ past h))) (split i (length s))

pub token_inside : (f : Format) (s : List ℕ) (i c j : ℕ) → token f i (drop i s) ≡ Some (Lit c j) → i < length s
token_inside f s i c j e = standing s i (token f i (drop i s)) c j e (λ h. token_past s i h f)

-- its number ends at place end, and its separators before place j
pub record Spaced (s : List ℕ) (i c j : ℕ) : Type 0 where
  pub end : ℕ
  pub number : signed_from i (drop i s) ≡ Some (Lit c end)
  pub sepped : sep (get_or s end 0) ≡ true
  pub place : j ≡ end + seps (drop end s)

pub text_spaced : (s : List ℕ) (i c j : ℕ) → i < length s → (get_or s i 0 ≡ 48 → ⊥) → token Text i (drop i s) ≡ Some (Lit c j) → Spaced s i c j
text_spaced s i c j h n e = go (signed_from i (drop i s)) refl (sym (text_literal s i h n) ∙ e)
  where
    go : (t : Option Token) → signed_from i (drop i s) ≡ t → then_gap i (drop i s) t ≡ Some (Lit c j) → Spaced s i c j
    go (Some (Lit d k)) q g =
        let m = (signed_moves i (drop i s) d k q).0 in
        gone (sep (get_or s k 0)) refl (sym (gap_after s i k (omega arith) d) ∙ g)
      where
        gone : (u : Bool) → sep (get_or s k 0) ≡ u → pick u (Some (Lit d (k + seps (drop k s)))) None ≡ Some (Lit c j) → Spaced s i c j
        gone true u g = let l = lit_parts d (k + seps (drop k s)) c j g in
            record { end = k; number = q ∙ ap (λ (x : ℕ). Some (Lit x k)) l.0; sepped = u; place = sym l.1 }
        gone false u g = absurd (lit_bad c j (sym g))
    go (Some (Stop k)) q g = absurd (lit_bad c j (sym g ∙ gap_stop i (drop i s) k))
    go None q g = absurd (lit_bad c j (sym g ∙ gap_bad i (drop i s)))

pub text_number : (s : List ℕ) (i c j : ℕ) → i < length s → (get_or s i 0 ≡ 48 → ⊥) → token Text i (drop i s) ≡ Some (Lit c j)
    → IsNumber s (signed_from i (drop i s))
text_number s i c j h n e =
    let r = text_spaced s i c j h n e in
    let b = sep_small (get_or s r.end 0) r.sepped in
    record { code = c; next = r.end; is = r.number; inside = word_inside s r.end (λ z. omega (arith, b.0)); below = b.1 }

pub text_read : (s : List ℕ) (i c j d k : ℕ) → i < length s → (get_or s i 0 ≡ 48 → ⊥) → token Text i (drop i s) ≡ Some (Lit c j) → signed_from i (drop i s) ≡ Some (Lit d k)
    → (k < length s) × (token Text i (drop i s) ≡ Some (Lit d (k + 1 + seps (drop (k + 1) s))))
text_read s i c j d k h n e q =
    let r = text_spaced s i c j h n e in
    let w = text_number s i c j h n e in
    let p = lit_parts c r.end d k (sym r.number ∙ q) in
    let v = lit_parts w.code w.next d k (sym w.is ∙ q) in
    let o : j ≡ k + 1 + seps (drop (k + 1) s) = r.place ∙ seps_one s r.end r.sepped ∙ ap (λ (x : ℕ). x + 1 + seps (drop (x + 1) s)) p.1 in
    (omega (arith, v.1, w.inside), e ∙ ap₂ (λ (x y : ℕ). Some (Lit x y)) p.0 o)

-- inside a gap: a byte below 45 is a separator, and no other
module _ (s : List ℕ) (at i : ℕ) (g : IsGap s at) (e : i + seps (drop i s) ≡ at + seps (drop at s)) where
  pub gap_inside : i < length s
  gap_inside = omega (arith, e, g.inside)

  pub gap_end : 45 ≤ get_or s i 0 → i ≡ at + seps (drop at s)
  gap_end h = let z = seps_none s i gap_inside (no_sep (get_or s i 0) (omega arith)) in omega (arith, z, e)

  pub gap_more : get_or s i 0 < 45 → i + 1 + seps (drop (i + 1) s) ≡ at + seps (drop at s)
  gap_more h = go (sep (get_or s i 0)) refl
    where
      go : (t : Bool) → sep (get_or s i 0) ≡ t → i + 1 + seps (drop (i + 1) s) ≡ at + seps (drop at s)
      go true t = sym (seps_one s i t) ∙ e
      go false t =
          let z = seps_none s i gap_inside t in
          let o : i ≡ at + seps (drop at s) = omega (arith, z, e) in
          absurd (omega (arith, h, g.token, ap (λ (x : ℕ). get_or s x 0) o))

-- a binary literal: one byte, or two
pub binary_literal : (s : List ℕ) (i : ℕ) → i < length s → (get_or s i 0 ≡ 0 → ⊥) → token Binary i (drop i s) ≡ leb_from 0 1 i (drop i s)
binary_literal s i h n = binary_here s i h ∙ ap (λ (t : Bool). pick t (Some (Stop (i + 1))) (leb_from 0 1 i (drop i s))) (ne_eqb (get_or s i 0) 0 n)

module _ (s : List ℕ) (i c j : ℕ) (e : leb_from 0 1 i (drop i s) ≡ Some (Lit c j)) where
  pub leb_inside : i < length s
  leb_inside = standing s i (leb_from 0 1 i (drop i s)) c j e (λ h. leb_past s i h 0 1)

  pub leb_one : get_or s i 0 < 128 → (2 ≤ get_or s i 0) × (leb_from 0 1 i (drop i s) ≡ Some (Lit (get_or s i 0 - 2) (i + 1)))
  leb_one h =
      let b = get_or s i 0 in
      let d : leb_from 0 1 i (drop i s) ≡ pick (eqb b 0) None (pick (ltb (0 + 1 * b) 2) None (pick (ltb 8193 (0 + 1 * b)) None (Some (Lit (0 + 1 * b - 2) (i + 1))))) =
      leb_here s i leb_inside 0 1 ∙ simp (lt-ltb (get_or s i 0) 128 h) in
      let z₁ = passed (eqb b 0) _ c j (sym d ∙ e) in
      let z₂ = passed (ltb (0 + 1 * b) 2) _ c j z₁.1 in
      let z₃ = passed (ltb 8193 (0 + 1 * b)) _ c j z₂.1 in
      let k = ltb-false (0 + 1 * b) 2 z₂.0 in
      let w : 0 + 1 * b - 2 ≡ b - 2 = omega arith in
      (omega arith, e ∙ sym z₃.1 ∙ ap (λ (x : ℕ). Some (Lit x (i + 1))) w)

  pub leb_two : 128 ≤ get_or s i 0 → (i + 1 < length s) × (0 < get_or s (i + 1) 0)
      × (leb_from 0 1 i (drop i s) ≡ Some (Lit (128 * get_or s (i + 1) 0 + get_or s i 0 - 130) (i + 2)))
  leb_two h =
      let a = get_or s i 0 in
      let b = get_or s (i + 1) 0 in
      let v = 0 + 1 * (a - 128) in
      let d : leb_from 0 1 i (drop i s) ≡ leb_from v (1 * 128) (i + 1) (drop (i + 1) s) = leb_here s i leb_inside 0 1 ∙ simp (le-ltb (get_or s i 0) 128 h) in
      let k = standing s (i + 1) (leb_from v (1 * 128) (i + 1) (drop (i + 1) s)) c j (sym d ∙ e) (λ o. leb_past s (i + 1) o v (1 * 128)) in
      let n = v + 1 * 128 * b in
      let z₀ = kept (ltb b 128) (pick (eqb b 0) None (pick (ltb n 2) None (pick (ltb 8193 n) None (Some (Lit (n - 2) (i + 1 + 1)))))) c j
      (sym (leb_here s (i + 1) k v (1 * 128)) ∙ sym d ∙ e) in
      let z₁ = passed (eqb b 0) _ c j z₀ in
      let z₂ = passed (ltb n 2) _ c j z₁.1 in
      let z₃ = passed (ltb 8193 n) _ c j z₂.1 in
      let o = eqb-false b 0 z₁.0 in
      let w : n - 2 ≡ 128 * b + a - 130 = omega arith in
      let q : i + 1 + 1 ≡ i + 2 = omega arith in
      (k, omega arith, e ∙ sym z₃.1 ∙ ap₂ (λ (x y : ℕ). Some (Lit x y)) w q)

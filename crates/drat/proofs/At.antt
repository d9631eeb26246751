-- The reader's definitions at a place of the input: one byte, and the rest.
use Prim.Native.Nat.{ℕ, suc, ◌+◌, ◌-◌, ◌*◌, ◌≤◌, ◌<◌}
use mathlib.Core.Path.{◌≡◌, refl, sym, ap, ap₂, ◌∙◌}
use mathlib.Core.List.{List}
use lib.Dec.{eqb, ltb}
use lib.ListN.{length, get_or, drop, drop_of_length-le}
use lib.Seq.{get_or-drop, drop-drop}
use native.Mathlib.Omega.{arith}
use Rattle.base.specs.Choice.{pick}
use Rattle.drat.specs.Numeral.{digit}
use Rattle.drat.specs.Reading.{numbered, with_digit, digits_from, signed_from, sep, seps, then_gap, leb_from, close_from, token, gap_from, opening}
use Rattle.drat.specs.declared.Kind.TheVariants.{Add, Delete}
use Rattle.drat.specs.declared.Format.{Format}
use Rattle.drat.specs.declared.Format.TheVariants.{Text, Binary}
use Rattle.drat.specs.declared.Token.TheVariants.{Lit, Stop}
use Rattle.drat.proofs.Steps.{next}
use Rattle.std.specs.Prelude.{Some, None}
use Rattle.drat.specs.Reading.{opens}

module _ (s : List ℕ) (i : ℕ) (h : i < length s) where
  pub digits_here : (sign v : ℕ) → digits_from sign v i (drop i s) ≡
      pick (digit (get_or s i 0))
      (pick (eqb (with_digit v (get_or s i 0)) 0) None
      (pick (ltb 4096 (with_digit v (get_or s i 0))) None (digits_from sign (with_digit v (get_or s i 0)) (i + 1) (drop (i + 1) s))))
      (numbered sign v i)
  unfolding digits_from
  digits_here sign v = ap (digits_from sign v i) (next s i h)

  pub signed_here : signed_from i (drop i s) ≡ pick (eqb (get_or s i 0) 45) (digits_from 1 0 (i + 1) (drop (i + 1) s)) (digits_from 0 0 i (drop i s))
  unfolding signed_from
  signed_here =
      ap (signed_from i) (next s i h)
      ∙ ap (λ (l : List ℕ). pick (eqb (get_or s i 0) 45) (digits_from 1 0 (i + 1) (drop (i + 1) s)) (digits_from 0 0 i l)) (sym (next s i h))

  pub leb_here : (v w : ℕ) → leb_from v w i (drop i s) ≡
      pick (ltb (get_or s i 0) 128)
      (pick (eqb (get_or s i 0) 0) None (pick (ltb (v + w * get_or s i 0) 2) None (pick (ltb 8193 (v + w * get_or s i 0)) None (Some (Lit (v + w * get_or s i 0 - 2) (i + 1))))))
      (pick (ltb 64 w) None (leb_from (v + w * (get_or s i 0 - 128)) (w * 128) (i + 1) (drop (i + 1) s)))
  unfolding leb_from
  leb_here v w = ap (leb_from v w i) (next s i h)

  pub seps_here : seps (drop i s) ≡ pick (sep (get_or s i 0)) (suc (seps (drop (i + 1) s))) 0
  unfolding seps
  seps_here = ap seps (next s i h)

  pub close_here : (j : ℕ) → close_from j (drop i s) ≡ pick (sep (get_or s i 0)) (Some (Stop j)) None
  unfolding close_from
  close_here j = ap (close_from j) (next s i h)

  pub text_here : token Text i (drop i s) ≡
      pick (eqb (get_or s i 0) 48) (close_from (i + 1) (drop (i + 1) s)) (then_gap i (drop i s) (signed_from i (drop i s)))
  unfolding token
  text_here =
      ap (token Text i) (next s i h)
      ∙ ap (λ (l : List ℕ). pick (eqb (get_or s i 0) 48) (close_from (i + 1) (drop (i + 1) s)) (then_gap i l (signed_from i l))) (sym (next s i h))

  pub binary_here : token Binary i (drop i s) ≡ pick (eqb (get_or s i 0) 0) (Some (Stop (i + 1))) (leb_from 0 1 i (drop i s))
  unfolding token
  binary_here = ap (token Binary i) (next s i h) ∙ ap (λ (l : List ℕ). pick (eqb (get_or s i 0) 0) (Some (Stop (i + 1))) (leb_from 0 1 i l)) (sym (next s i h))

  pub text_opens : opening Text i (drop i s) ≡ pick (eqb (get_or s i 0) 100) (gap_from (i + 1) (drop (i + 1) s)) (opens Add i)
  unfolding opening
  text_opens = ap (opening Text i) (next s i h)

  pub binary_opens : opening Binary i (drop i s) ≡ pick (eqb (get_or s i 0) 97) (opens Add (i + 1)) (pick (eqb (get_or s i 0) 100) (opens Delete (i + 1)) None)
  unfolding opening
  binary_opens = ap (opening Binary i) (next s i h)

module _ (s : List ℕ) (i : ℕ) (h : length s ≤ i) where
  pub digits_past : (sign v : ℕ) → digits_from sign v i (drop i s) ≡ numbered sign v i
  unfolding digits_from
  digits_past sign v = ap (digits_from sign v i) (drop_of_length-le s h)

  pub signed_past : signed_from i (drop i s) ≡ None
  unfolding signed_from
  signed_past = ap (signed_from i) (drop_of_length-le s h)

  pub leb_past : (v w : ℕ) → leb_from v w i (drop i s) ≡ None
  unfolding leb_from
  leb_past v w = ap (leb_from v w i) (drop_of_length-le s h)

  pub seps_past : seps (drop i s) ≡ 0
  unfolding seps
  seps_past = ap seps (drop_of_length-le s h)

  pub close_past : (j : ℕ) → close_from j (drop i s) ≡ Some (Stop j)
  unfolding close_from
  close_past j = ap (close_from j) (drop_of_length-le s h)

  pub token_past : (f : Format) → token f i (drop i s) ≡ None
  unfolding token
  token_past Text = ap (token Text i) (drop_of_length-le s h)
  token_past Binary = ap (token Binary i) (drop_of_length-le s h)

  pub opening_past : (f : Format) → opening f i (drop i s) ≡ None
  unfolding opening
  opening_past Text = ap (opening Text i) (drop_of_length-le s h)
  opening_past Binary = ap (opening Binary i) (drop_of_length-le s h)

-- the separators at place i, after a `d`
pub gap_at : (s : List ℕ) (i : ℕ) → gap_from i (drop i s) ≡ pick (sep (get_or s i 0)) (opens Delete (i + seps (drop i s))) None
unfolding gap_from
gap_at s i = ap (λ (b : ℕ). pick (sep b) (opens Delete (i + seps (drop i s))) None) (get_or-drop i s 0 0 ∙ ap (λ (k : ℕ). get_or s k 0) (omega arith))

-- and after a number that ends at place j
module _ (s : List ℕ) (i j : ℕ) (h : i ≤ j) where
  pub gap_after : (c : ℕ) → then_gap i (drop i s) (Some (Lit c j)) ≡ pick (sep (get_or s j 0)) (Some (Lit c (j + seps (drop j s)))) None
  unfolding then_gap
  gap_after c =
      let e : i + (j - i) ≡ j = omega arith in
      ap₂ (λ (b : ℕ) (l : List ℕ). pick (sep b) (Some (Lit c (j + seps l))) None) (get_or-drop i s (j - i) 0 ∙ ap (λ (k : ℕ). get_or s k 0) e)
      (drop-drop (j - i) i s ∙ ap (λ (k : ℕ). drop k s) e)

pub gap_stop : (i : ℕ) (l : List ℕ) (j : ℕ) → then_gap i l (Some (Stop j)) ≡ None
unfolding then_gap
gap_stop i l j = refl

pub gap_bad : (i : ℕ) (l : List ℕ) → then_gap i l None ≡ None
unfolding then_gap
gap_bad i l = refl

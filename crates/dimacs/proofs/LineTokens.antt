-- What stands at a place of a line: laws of the number with its blank, and of the line's end.
use Prim.Native.Nat.{ℕ, ◌+◌, ◌-◌, ◌≤◌, ◌<◌}
use mathlib.Core.Path.{◌≡◌, refl, sym, ap, ap₂, ◌∙◌}
use mathlib.Core.List.{List, [], ◌∷◌, ◌++◌}
use mathlib.Core.Bool.{Bool, true, false}
use native.Mathlib.Omega.{arith}
use lib.Dec.{eqb}
use lib.ListN.{length, get_or, drop, drop_of_length-le}
use lib.Seq.{get_or-append-add, get_or-drop}
use borrow.Author.Tests.{eqb-true, ne_eqb}
use Rattle.base.specs.Choice.{pick}
use Rattle.drat.specs.Grammar.{Signed}
use Rattle.drat.specs.Reading.{signed_from}
use Rattle.drat.specs.declared.Token.{Token}
use Rattle.drat.specs.declared.Token.TheVariants.{Lit, Stop}
use Rattle.drat.proofs.Steps.{next}
use Rattle.drat.proofs.Complete.{signed_first, signed_read}
use Rattle.drat.proofs.Sound.{lit_bad, stop_bad, lit_stop, lit_parts, stop_part, first_is, signed_sound}
use Rattle.dimacs.specs.Reading.{then_blank, end_from, line_from}
use Rattle.std.specs.Prelude.{Option, Some, None}

-- ---- what the grammar has is read

pub line_number : {bs : List ℕ} {c : ℕ} → Signed bs c → (i : ℕ) (l : List ℕ) → line_from i (bs ++ 32 ∷ l) ≡ Some (Lit c (i + length bs + 1))
unfolding line_from then_blank
line_number {bs} {c} n i l =
    let f = signed_first n in
    let k : i + length bs - i ≡ length bs + 0 = omega arith in
    let b : get_or (bs ++ 32 ∷ l) (i + length bs - i) 0 ≡ 32 = ap (λ (j : ℕ). get_or (bs ++ 32 ∷ l) j 0) k ∙ get_or-append-add bs (32 ∷ l) 0 0 in
    let e : line_from i (bs ++ 32 ∷ l) ≡ then_blank i (bs ++ 32 ∷ l) (signed_from i (bs ++ 32 ∷ l)) = rw f.2 (simp (ne_eqb f.0 48 f.4)) in
    e ∙ ap (then_blank i (bs ++ 32 ∷ l)) (signed_read n i (32 ∷ l) refl) ∙ simp b

pub line_end : (i : ℕ) (l : List ℕ) → line_from i (48 ∷ 10 ∷ l) ≡ Some (Stop (i + 2))
unfolding line_from end_from
line_end i l = ap (λ (x : ℕ). Some (Stop x)) (omega arith)

-- ---- what is read the grammar has

-- a number and the blank after it
blank_read : (i : ℕ) (l : List ℕ) (t : Option Token) (c j : ℕ) → then_blank i l t ≡ Some (Lit c j) → (k : ℕ) × (t ≡ Some (Lit c k)) × (j ≡ k + 1) × (get_or l (k - i) 0 ≡ 32)
unfolding then_blank
blank_read i l (Some (Lit d k)) c j e = go (eqb (get_or l (k - i) 0) 32) refl e
  where
    go : (u : Bool) → eqb (get_or l (k - i) 0) 32 ≡ u → pick u (Some (Lit d (k + 1))) None ≡ Some (Lit c j)
        → (k' : ℕ) × (Some (Lit d k) ≡ Some (Lit c k')) × (j ≡ k' + 1) × (get_or l (k' - i) 0 ≡ 32)
    go true u e = let q = lit_parts d (k + 1) c j e in (k, ap (λ (x : ℕ). Some (Lit x k)) q.0, sym q.1, eqb-true _ 32 u)
    go false u e = absurd (lit_bad c j (sym e))
blank_read i l (Some (Stop k)) c j e = absurd (lit_bad c j (sym e))
blank_read i l None c j e = absurd (lit_bad c j (sym e))

spaced_sound : (i : ℕ) (l : List ℕ) (c j : ℕ) → then_blank i l (signed_from i l) ≡ Some (Lit c j)
    → (bs : List ℕ) × (m : List ℕ) × Signed bs c × (l ≡ bs ++ 32 ∷ m) × (j ≡ i + length bs + 1)
spaced_sound i l c j e =
    let q = blank_read i l (signed_from i l) c j e in
    let k = q.0 in
    let r = signed_sound i l c k q.1 in
    let p : k - i ≡ length r.bytes + 0 = omega (arith, r.place) in
    let b : get_or r.rest 0 0 ≡ 32 =
    sym (get_or-append-add r.bytes r.rest 0 0) ∙ sym (ap₂ (λ (x : List ℕ) (n : ℕ). get_or x n 0) r.split p) ∙ q.3 in
    let f = first_is r.rest 32 (omega arith) b in
    (r.bytes, f.0, r.spelled, r.split ∙ ap (λ (x : List ℕ). r.bytes ++ x) f.1, omega (arith, r.place, q.2))

no_lit_end : (i : ℕ) (l : List ℕ) (c j : ℕ) → end_from i l ≡ Some (Lit c j) → ⊥
unfolding end_from
no_lit_end i [] c j e = lit_bad c j (sym e)
no_lit_end i (b ∷ l) c j e = go (eqb b 10) e
  where
    go : (t : Bool) → pick t (Some (Stop (i + 1))) None ≡ Some (Lit c j) → ⊥
    go true e = lit_stop c j (i + 1) (sym e)
    go false e = lit_bad c j (sym e)

pub line_sound : (i : ℕ) (l : List ℕ) (c j : ℕ) → line_from i l ≡ Some (Lit c j)
    → (bs : List ℕ) × (m : List ℕ) × Signed bs c × (l ≡ bs ++ 32 ∷ m) × (j ≡ i + length bs + 1)
unfolding line_from
line_sound i [] c j e = absurd (lit_bad c j (sym e))
line_sound i (b ∷ l) c j e = go (eqb b 48) e
  where
    go : (t : Bool) → pick t (end_from (i + 1) l) (then_blank i (b ∷ l) (signed_from i (b ∷ l))) ≡ Some (Lit c j)
        → (bs : List ℕ) × (m : List ℕ) × Signed bs c × (b ∷ l ≡ bs ++ 32 ∷ m) × (j ≡ i + length bs + 1)
    go true e = absurd (no_lit_end (i + 1) l c j e)
    go false e = spaced_sound i (b ∷ l) c j e

-- the number alone: it ends at place k, where the blank stands
pub line_signed : (s : List ℕ) (i c j : ℕ) → line_from i (drop i s) ≡ Some (Lit c j)
    → (k : ℕ) × (signed_from i (drop i s) ≡ Some (Lit c k)) × (j ≡ k + 1) × (get_or s k 0 ≡ 32)
line_signed s i c j e =
    let r = line_sound i (drop i s) c j e in
    let bs = r.0 in
    let d : signed_from i (drop i s) ≡ Some (Lit c (i + length bs)) = ap (signed_from i) r.3 ∙ signed_read r.2 i (32 ∷ r.1) refl in
    let n : length bs ≡ length bs + 0 = omega arith in
    let b : get_or (drop i s) (length bs) 0 ≡ 32 = ap₂ (λ (l : List ℕ) (k : ℕ). get_or l k 0) r.3 n ∙ get_or-append-add bs (32 ∷ r.1) 0 0 in
    (i + length bs, d, r.4, sym (get_or-drop i s (length bs) 0) ∙ b)

-- a line's end
blank_no_stop : (i : ℕ) (l : List ℕ) (t : Option Token) (j : ℕ) → then_blank i l t ≡ Some (Stop j) → ⊥
unfolding then_blank
blank_no_stop i l (Some (Lit c k)) j e = go (eqb (get_or l (k - i) 0) 32) e
  where
    go : (u : Bool) → pick u (Some (Lit c (k + 1))) None ≡ Some (Stop j) → ⊥
    go true e = lit_stop c (k + 1) j e
    go false e = stop_bad j (sym e)
blank_no_stop i l (Some (Stop k)) j e = stop_bad j (sym e)
blank_no_stop i l None j e = stop_bad j (sym e)

pub record EndRead (i : ℕ) (l : List ℕ) (j : ℕ) : Type 0 where
  pub rest : List ℕ
  pub split : l ≡ 48 ∷ 10 ∷ rest
  pub place : j ≡ i + 2

end_sound : (i : ℕ) (l : List ℕ) (j : ℕ) → end_from i l ≡ Some (Stop j) → (m : List ℕ) × (l ≡ 10 ∷ m) × (j ≡ i + 1)
unfolding end_from
end_sound i [] j e = absurd (stop_bad j (sym e))
end_sound i (b ∷ l) j e = go (eqb b 10) refl e
  where
    go : (t : Bool) → eqb b 10 ≡ t → pick t (Some (Stop (i + 1))) None ≡ Some (Stop j) → (m : List ℕ) × (b ∷ l ≡ 10 ∷ m) × (j ≡ i + 1)
    go true t e = (l, ap (λ (x : ℕ). x ∷ l) (eqb-true b 10 t), sym (stop_part (i + 1) j e))
    go false t e = absurd (stop_bad j (sym e))

pub line_stop : (i : ℕ) (l : List ℕ) (j : ℕ) → line_from i l ≡ Some (Stop j) → EndRead i l j
unfolding line_from
line_stop i [] j e = absurd (stop_bad j (sym e))
line_stop i (b ∷ l) j e = go (eqb b 48) refl e
  where
    go : (t : Bool) → eqb b 48 ≡ t → pick t (end_from (i + 1) l) (then_blank i (b ∷ l) (signed_from i (b ∷ l))) ≡ Some (Stop j) → EndRead i (b ∷ l) j
    go true h e =
        let r = end_sound (i + 1) l j e in
        record { rest = r.0; split = ap₂ (λ (x : ℕ) (m : List ℕ). x ∷ m) (eqb-true b 48 h) r.1; place = r.2 ∙ omega arith }
    go false h e = absurd (blank_no_stop i (b ∷ l) (signed_from i (b ∷ l)) j e)

-- ---- at a place of the file: one byte, and the rest

module _ (s : List ℕ) (i : ℕ) (h : i < length s) where
  pub end_here : end_from i (drop i s) ≡ pick (eqb (get_or s i 0) 10) (Some (Stop (i + 1))) None
  unfolding end_from
  end_here = ap (end_from i) (next s i h)

  pub line_here : line_from i (drop i s) ≡
      pick (eqb (get_or s i 0) 48) (end_from (i + 1) (drop (i + 1) s)) (then_blank i (drop i s) (signed_from i (drop i s)))
  unfolding line_from
  line_here =
      ap (line_from i) (next s i h)
      ∙ ap (λ (l : List ℕ). pick (eqb (get_or s i 0) 48) (end_from (i + 1) (drop (i + 1) s)) (then_blank i l (signed_from i l))) (sym (next s i h))

  pub line_literal : (get_or s i 0 ≡ 48 → ⊥) → line_from i (drop i s) ≡ then_blank i (drop i s) (signed_from i (drop i s))
  line_literal n = line_here ∙ simp (ne_eqb (get_or s i 0) 48 n)

module _ (s : List ℕ) (i : ℕ) (h : length s ≤ i) where
  pub end_past : end_from i (drop i s) ≡ None
  unfolding end_from
  end_past = ap (end_from i) (drop_of_length-le s h)

  pub line_past : line_from i (drop i s) ≡ None
  unfolding line_from
  line_past = ap (line_from i) (drop_of_length-le s h)

-- the blank after a number that ends at place j
module _ (s : List ℕ) (i j : ℕ) (h : i ≤ j) where
  pub blank_after : (c : ℕ) → then_blank i (drop i s) (Some (Lit c j)) ≡ pick (eqb (get_or s j 0) 32) (Some (Lit c (j + 1))) None
  unfolding then_blank
  blank_after c =
      let e : i + (j - i) ≡ j = omega arith in
      ap (λ (b : ℕ). pick (eqb b 32) (Some (Lit c (j + 1))) None) (get_or-drop i s (j - i) 0 ∙ ap (λ (k : ℕ). get_or s k 0) e)

pub blank_stop : (i : ℕ) (l : List ℕ) (j : ℕ) → then_blank i l (Some (Stop j)) ≡ None
unfolding then_blank
blank_stop i l j = refl

pub blank_bad : (i : ℕ) (l : List ℕ) → then_blank i l None ≡ None
unfolding then_blank
blank_bad i l = refl

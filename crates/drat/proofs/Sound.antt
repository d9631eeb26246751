-- What is read is spelled by the grammar.
use Prim.Native.Nat.{ℕ, zero, suc, ◌+◌, ◌-◌, ◌*◌, ◌≤◌, ◌<◌}
use mathlib.Core.Path.{◌≡◌, refl, sym, ap, ap₂, ◌∙◌, subst, subst₂}
use mathlib.Core.List.{List, [], ◌∷◌, ◌++◌, append_assoc, append-nil}
use mathlib.Core.Bool.{Bool, true, false}
use native.Mathlib.Omega.{arith}
use lib.Dec.{eqb, ltb}
use lib.ListN.{length, get_or, drop, length-append}
use lib.Seq.{drop_at, get_or-append-add, get_or-drop}
use borrow.Author.Tests.{eqb-true, eqb-false, ltb-true, ltb-false}
use Rattle.base.specs.Choice.{pick}
use Rattle.drat.specs.Numeral.{digit, decimal, leb128, Numeral, one, more}
use Rattle.drat.specs.Grammar.{Step, step_of, Free, at_end, at_sep, any_byte, Begins, bare, dee, letter_a, letter_d, stop, Signed, plus, minus, Number}
use Rattle.drat.specs.Grammar.{spaced, code, Body, last, lit, Spells, none, step}
use Rattle.drat.specs.Reading.{numbered, with_digit, digits_from, signed_from, sep, seps, lead, past, then_gap, leb_from, close_from, token, gap_from, opening}
use Rattle.drat.specs.Reading.{Part, whole, broken, cons_part, body, One, got, fault, as_step, one_step, Proof, steps, fault_at, cons_step, steps_from}
use Rattle.drat.specs.Reading.{read_proof}
use Rattle.drat.specs.declared.Kind.{Kind}
use Rattle.drat.specs.declared.Kind.TheVariants.{Add, Delete}
use Rattle.drat.specs.declared.Format.{Format}
use Rattle.drat.specs.declared.Format.TheVariants.{Text, Binary}
use Rattle.drat.specs.declared.Token.{Token}
use Rattle.drat.specs.declared.Token.TheVariants.{Lit, Stop}
use Rattle.drat.proofs.Numerals.{in_range_is}
use Rattle.drat.proofs.Complete.{body_lit, body_stop, body_bad, one_opens, one_wrong, steps_got, steps_not, rest_past}
use Rattle.drat.proofs.Separators.{is_sep, nothing_lead, lead_split, split_rest, some_gap, spells_lead}
use Rattle.std.specs.Prelude.{Option, Some, None}
use Rattle.drat.specs.Reading.{opens}

abbrev pub Bytes : List ℕ → Type 0
Bytes l = (k : ℕ) → get_or l k 0 < 256

-- where the result is no fault, the test for a fault failed
pub not_bad : (t : Bool) (y z : Option Token) → (z ≡ None → ⊥) → pick t None y ≡ z → (t ≡ false) × (y ≡ z)
not_bad true y z h e = absurd (h (sym e))
not_bad false y z h e = (refl, e)

pub lit_bad : (c j : ℕ) → Some (Lit c j) ≡ None → ⊥
lit_bad c j e = let z : ◌≡◌ {A = ℕ} 0 1 = cc in omega arith

pub stop_bad : (j : ℕ) → Some (Stop j) ≡ None → ⊥
stop_bad j e = let z : ◌≡◌ {A = ℕ} 0 1 = cc in omega arith

pub lit_stop : (c i j : ℕ) → Some (Lit c i) ≡ Some (Stop j) → ⊥
lit_stop c i j e = let z : ◌≡◌ {A = ℕ} 0 1 = cc in omega arith

-- a test for a fault failed, where a literal was read
pub passed : (t : Bool) (y : Option Token) (c j : ℕ) → pick t None y ≡ Some (Lit c j) → (t ≡ false) × (y ≡ Some (Lit c j))
passed t y c j e = not_bad t y (Some (Lit c j)) (lit_bad c j) e

-- the digits read so far
data Sofar : List ℕ → ℕ → Type 0 where
  start : Sofar [] 0
  some : {p : List ℕ} {v : ℕ} → Numeral decimal p v → Sofar p v

sofar_digit : {p : List ℕ} {v : ℕ} → Sofar p v → (d : ℕ) → d < 10 → 0 < 10 * v + d → Numeral decimal (p ++ (48 + d) ∷ []) (10 * v + d)
sofar_digit start d h g = subst (λ (x : ℕ). Numeral decimal ((48 + d) ∷ []) x) (omega arith) (one (omega arith) h)
sofar_digit (some {p = p} {v = v} n) d h g = subst (λ (x : ℕ). Numeral decimal (p ++ (48 + d) ∷ []) x) (omega arith) (more h n)

sofar_some : {p : List ℕ} {v : ℕ} → Sofar p v → 0 < v → Numeral decimal p v
sofar_some start h = absurd (omega arith)
sofar_some (some n) h = n

-- digits that were read after p, up to a byte that is none
record DigitsRead (sign i : ℕ) (p l : List ℕ) (c j : ℕ) : Type 0 where
  digits : List ℕ
  rest : List ℕ
  index : ℕ
  split : l ≡ digits ++ rest
  spelled : Numeral decimal (p ++ digits) (index + 1)
  small : index < 4096
  is_code : c ≡ 2 * index + sign
  place : j ≡ i + length digits

pub lit_parts : (a b c d : ℕ) → Some (Lit a b) ≡ Some (Lit c d) → (a ≡ c) × (b ≡ d)
lit_parts a b c d e = (cc, cc)

run_sound : (sign i : ℕ) (p l : List ℕ) (v c j : ℕ) → Sofar p v → v ≤ 4096 → numbered sign v i ≡ Some (Lit c j) → DigitsRead sign i p l c j
run_sound sign i p l v c j s h e =
    let z = passed (eqb v 0) (Some (Lit (2 * (v - 1) + sign) i)) c j e in
    let nz = eqb-false v 0 z.0 in
    let q = lit_parts (2 * (v - 1) + sign) i c j z.1 in
    let n : Numeral decimal (p ++ []) (v - 1 + 1) =
    subst₂ (λ (x : List ℕ) (y : ℕ). Numeral decimal x y) (sym (append-nil p)) (omega arith) (sofar_some s (omega arith)) in
    record { digits = []; rest = l; index = v - 1; split = refl; spelled = n; small = omega arith; is_code = sym q.0; place = omega arith }

digits_sound : (sign : ℕ) (l : List ℕ) (v i c j : ℕ) (p : List ℕ) → Sofar p v → v ≤ 4096 → digits_from sign v i l ≡ Some (Lit c j) → DigitsRead sign i p l c j
unfolding digits_from
digits_sound sign [] v i c j p s h e = run_sound sign i p [] v c j s h e
digits_sound sign (b ∷ l) v i c j p s h e = go (digit b) refl e (digits_sound sign l (with_digit v b) (i + 1) c j)
  where
    go : (t : Bool) → digit b ≡ t
        → pick t (pick (eqb (with_digit v b) 0) None (pick (ltb 4096 (with_digit v b)) None (digits_from sign (with_digit v b) (i + 1) l))) (numbered sign v i) ≡ Some (Lit c j)
        → ((q : List ℕ) → Sofar q (with_digit v b) → with_digit v b ≤ 4096 → digits_from sign (with_digit v b) (i + 1) l ≡ Some (Lit c j)
        → DigitsRead sign (i + 1) q l c j)
        → DigitsRead sign i p (b ∷ l) c j
    go true t e ih =
        let z₁ = passed (eqb (with_digit v b) 0) _ c j e in
        let z₂ = passed (ltb 4096 (with_digit v b)) _ c j z₁.1 in
        let (low, high) = in_range_is 48 57 b t in
        let h₁ = eqb-false (with_digit v b) 0 z₁.0 in
        let h₂ = ltb-false 4096 (with_digit v b) z₂.0 in
        let n = sofar_digit s (b - 48) (omega arith) (omega arith) in
        let eb : 48 + (b - 48) ≡ b = omega arith in
        let r = ih (p ++ (48 + (b - 48)) ∷ []) (some n) h₂ z₂.1 in
        record {
          digits = b ∷ r.digits;
          rest = r.rest;
          index = r.index;
          split = ap (λ (m : List ℕ). b ∷ m) r.split;
          spelled = subst (λ (m : List ℕ). Numeral decimal m (r.index + 1))
              (append_assoc p ((48 + (b - 48)) ∷ []) r.digits ∙ ap (λ (x : ℕ). p ++ x ∷ r.digits) eb) r.spelled;
          small = r.small;
          is_code = r.is_code;
          place = r.place ∙ omega arith;
        }
    go false t e ih = run_sound sign i p (b ∷ l) v c j s h e

-- a number that was read, and the place of the byte after it
pub record SignedRead (i : ℕ) (l : List ℕ) (c j : ℕ) : Type 0 where
  pub bytes : List ℕ
  pub rest : List ℕ
  pub split : l ≡ bytes ++ rest
  pub spelled : Signed bytes c
  pub place : j ≡ i + length bytes

pub signed_sound : (i : ℕ) (l : List ℕ) (c j : ℕ) → signed_from i l ≡ Some (Lit c j) → SignedRead i l c j
unfolding signed_from
signed_sound i [] c j e = absurd (lit_bad c j (sym e))
signed_sound i (b ∷ l) c j e = go (eqb b 45) refl e
  where
    go : (t : Bool) → eqb b 45 ≡ t → pick t (digits_from 1 0 (i + 1) l) (digits_from 0 0 i (b ∷ l)) ≡ Some (Lit c j) → SignedRead i (b ∷ l) c j
    go true t e =
        let r = digits_sound 1 l 0 (i + 1) c j [] start (omega arith) e in
        record {
          bytes = 45 ∷ r.digits;
          rest = r.rest;
          split = ap₂ (λ (x : ℕ) (m : List ℕ). x ∷ m) (eqb-true b 45 t) r.split;
          spelled = subst (Signed (45 ∷ r.digits)) (sym r.is_code) (minus r.small r.spelled);
          place = r.place ∙ omega arith;
        }
    go false t e =
        let r = digits_sound 0 (b ∷ l) 0 i c j [] start (omega arith) e in
        let ec : 2 * r.index ≡ c = omega (arith, r.is_code) in
        record { bytes = r.digits; rest = r.rest; split = r.split; spelled = subst (Signed r.digits) ec (plus r.small r.spelled); place = r.place }

-- with the separators after it
gap_read : (i : ℕ) (l : List ℕ) (t : Option Token) (c j : ℕ) → then_gap i l t ≡ Some (Lit c j)
    → (k : ℕ) × (t ≡ Some (Lit c k)) × (j ≡ past Text i l k) × (sep (get_or l (k - i) 0) ≡ true)
unfolding then_gap
gap_read i l (Some (Lit d k)) c j e = go (sep (get_or l (k - i) 0)) refl e
  where
    go : (u : Bool) → sep (get_or l (k - i) 0) ≡ u → pick u (Some (Lit d (past Text i l k))) None ≡ Some (Lit c j)
        → (k' : ℕ) × (Some (Lit d k) ≡ Some (Lit c k')) × (j ≡ past Text i l k') × (sep (get_or l (k' - i) 0) ≡ true)
    go true u e = let q = lit_parts d (past Text i l k) c j e in (k, ap (λ (x : ℕ). Some (Lit x k)) q.0, sym q.1, u)
    go false u e = absurd (lit_bad c j (sym e))
gap_read i l (Some (Stop k)) c j e = absurd (lit_bad c j (sym e))
gap_read i l None c j e = absurd (lit_bad c j (sym e))

pub first_is : (l : List ℕ) (b : ℕ) → 0 < b → get_or l 0 0 ≡ b → (m : List ℕ) × (l ≡ b ∷ m)
first_is [] b h e = absurd (omega arith)
first_is (x ∷ m) b h e = (m, ap (λ (y : ℕ). y ∷ m) e)

-- the rest of l is what the place says
pub rest_is : (i j : ℕ) (l bs r : List ℕ) → l ≡ bs ++ r → j ≡ i + length bs → drop (j - i) l ≡ r
rest_is i j l bs r e h = ap (drop (j - i)) e ∙ drop_at bs r (j - i) (omega (arith, h))

record LebRead (v w i : ℕ) (l : List ℕ) (c j : ℕ) : Type 0 where
  bytes : List ℕ
  rest : List ℕ
  number : ℕ
  split : l ≡ bytes ++ rest
  spelled : Numeral leb128 bytes number
  is_code : c + 2 ≡ v + w * number
  small : v + w * number ≤ 8193
  place : j ≡ i + length bytes

leb_sound : (l : List ℕ) (v w i c j : ℕ) → Bytes l → leb_from v w i l ≡ Some (Lit c j) → LebRead v w i l c j
unfolding leb_from
leb_sound [] v w i c j hb e = absurd (lit_bad c j (sym e))
leb_sound (b ∷ l) v w i c j hb e = go (ltb b 128) refl e (leb_sound l (v + w * (b - 128)) (w * 128) (i + 1) c j (λ k. hb (suc k)))
  where
    go : (t : Bool) → ltb b 128 ≡ t
        → pick t (pick (eqb b 0) None (pick (ltb (v + w * b) 2) None (pick (ltb 8193 (v + w * b)) None (Some (Lit (v + w * b - 2) (i + 1))))))
        (pick (ltb 64 w) None (leb_from (v + w * (b - 128)) (w * 128) (i + 1) l)) ≡ Some (Lit c j)
        → (leb_from (v + w * (b - 128)) (w * 128) (i + 1) l ≡ Some (Lit c j) → LebRead (v + w * (b - 128)) (w * 128) (i + 1) l c j)
        → LebRead v w i (b ∷ l) c j
    go true t e ih =
        let z₁ = passed (eqb b 0) _ c j e in
        let z₂ = passed (ltb (v + w * b) 2) _ c j z₁.1 in
        let z₃ = passed (ltb 8193 (v + w * b)) _ c j z₂.1 in
        let h₁ = eqb-false b 0 z₁.0 in
        let h₂ = ltb-false (v + w * b) 2 z₂.0 in
        let h₃ = ltb-false 8193 (v + w * b) z₃.0 in
        let q = lit_parts (v + w * b - 2) (i + 1) c j z₃.1 in
        record {
          bytes = b ∷ [];
          rest = l;
          number = b;
          split = refl;
          spelled = one {d = b} (omega arith) (ltb-true b 128 t);
          is_code = omega arith;
          small =
              h₃;
          place = omega arith;
        }
    go false t e ih =
        let z = passed (ltb 64 w) _ c j e in
        let r = ih z.1 in
        let hl = ltb-false b 128 t in
        let d : b - 128 < 128 = omega (arith, hb 0) in
        let eb : 128 + (b - 128) ≡ b = omega arith in
        record {
          bytes = b ∷ r.bytes;
          rest = r.rest;
          number = b - 128 + 128 * r.number;
          split = ap (λ (m : List ℕ). b ∷ m) r.split;
          spelled = subst (λ (x : ℕ). Numeral leb128 (x ∷ r.bytes) (b - 128 + 128 * r.number)) eb (more d r.spelled);
          is_code = r.is_code ∙ omega arith;
          small = omega (arith, r.small);
          place = r.place ∙ omega arith;
        }

-- a literal that was read
pub record LitRead (f : Format) (i : ℕ) (l : List ℕ) (c j : ℕ) : Type 0 where
  pub bytes : List ℕ
  pub rest : List ℕ
  pub split : l ≡ bytes ++ rest
  pub spelled : Number f bytes c
  pub place : j ≡ i + length bytes

pub close_no_lit : (i : ℕ) (l : List ℕ) (c j : ℕ) → close_from i l ≡ Some (Lit c j) → ⊥
unfolding close_from
close_no_lit i [] c j e = lit_stop c j i (sym e)
close_no_lit i (b ∷ l) c j e = go (sep b) e
  where
    go : (t : Bool) → pick t (Some (Stop i)) None ≡ Some (Lit c j) → ⊥
    go true e = lit_stop c j i (sym e)
    go false e = lit_bad c j (sym e)

-- a number and its separators
spaced_sound : (i : ℕ) (l : List ℕ) (c j : ℕ) → then_gap i l (signed_from i l) ≡ Some (Lit c j) → LitRead Text i l c j
spaced_sound i l c j e =
    let q = gap_read i l (signed_from i l) c j e in
    let k = q.0 in
    let r = signed_sound i l c k q.1 in
    let d = rest_is i k l r.bytes r.rest r.split r.place in
    let p : k - i ≡ length r.bytes + 0 = omega (arith, r.place) in
    let b : sep (get_or r.rest 0 0) ≡ true =
    ap sep (sym (get_or-append-add r.bytes r.rest 0 0) ∙ sym (ap₂ (λ (x : List ℕ) (n : ℕ). get_or x n 0) r.split p)) ∙ q.3 in
    let t = lead_split Text r.rest in
    record {
      bytes = r.bytes ++ t.front;
      rest = t.rest;
      split = r.split ∙ ap (λ (x : List ℕ). r.bytes ++ x) t.split ∙ sym (append_assoc r.bytes t.front t.rest);
      spelled = spaced r.spelled (some_gap r.rest t b);
      place = simp length-append (omega (arith, r.place, q.2, ap seps d, t.size));
    }

pub token_sound : (f : Format) (i : ℕ) (l : List ℕ) (c j : ℕ) → Bytes l → token f i l ≡ Some (Lit c j) → LitRead f i l c j
unfolding token
token_sound Text i [] c j hb e = absurd (lit_bad c j (sym e))
token_sound Text i (b ∷ l) c j hb e = go (eqb b 48) e
  where
    go : (t : Bool) → pick t (close_from (i + 1) l) (then_gap i (b ∷ l) (signed_from i (b ∷ l))) ≡ Some (Lit c j) → LitRead Text i (b ∷ l) c j
    go true e = absurd (close_no_lit (i + 1) l c j e)
    go false e = spaced_sound i (b ∷ l) c j e
token_sound Binary i [] c j hb e = absurd (lit_bad c j (sym e))
token_sound Binary i (b ∷ l) c j hb e = go (eqb b 0) e
  where
    go : (t : Bool) → pick t (Some (Stop (i + 1))) (leb_from 0 1 i (b ∷ l)) ≡ Some (Lit c j) → LitRead Binary i (b ∷ l) c j
    go true e = absurd (lit_stop c j (i + 1) (sym e))
    go false e =
        let r = leb_sound (b ∷ l) 0 1 i c j hb e in
        let en : r.number ≡ c + 2 = omega (arith, r.is_code) in
        record {
          bytes = r.bytes;
          rest = r.rest;
          split = r.split;
          spelled =
              code {c = c} (omega (arith, r.is_code, r.small)) (subst (λ (x : ℕ). Numeral leb128 r.bytes x) en r.spelled);
          place = r.place;
        }

-- a step's end that was read
gap_no_stop : (i : ℕ) (l : List ℕ) (t : Option Token) (j : ℕ) → then_gap i l t ≡ Some (Stop j) → ⊥
unfolding then_gap
gap_no_stop i l (Some (Lit c k)) j e = go (sep (get_or l (k - i) 0)) e
  where
    go : (u : Bool) → pick u (Some (Lit c (past Text i l k))) None ≡ Some (Stop j) → ⊥
    go true e = lit_stop c (past Text i l k) j e
    go false e = stop_bad j (sym e)
gap_no_stop i l (Some (Stop k)) j e = stop_bad j (sym e)
gap_no_stop i l None j e = stop_bad j (sym e)

leb_no_stop : (l : List ℕ) (v w i j : ℕ) → leb_from v w i l ≡ Some (Stop j) → ⊥
unfolding leb_from
leb_no_stop [] v w i j e = stop_bad j (sym e)
leb_no_stop (b ∷ l) v w i j e = go (ltb b 128) e (leb_no_stop l (v + w * (b - 128)) (w * 128) (i + 1) j)
  where
    go : (t : Bool)
        → pick t (pick (eqb b 0) None (pick (ltb (v + w * b) 2) None (pick (ltb 8193 (v + w * b)) None (Some (Lit (v + w * b - 2) (i + 1))))))
        (pick (ltb 64 w) None (leb_from (v + w * (b - 128)) (w * 128) (i + 1) l)) ≡ Some (Stop j)
        → (leb_from (v + w * (b - 128)) (w * 128) (i + 1) l ≡ Some (Stop j) → ⊥) → ⊥
    go true e ih =
        let z₁ = not_bad (eqb b 0) _ (Some (Stop j)) (stop_bad j) e in
        let z₂ = not_bad (ltb (v + w * b) 2) _ (Some (Stop j)) (stop_bad j) z₁.1 in
        lit_stop _ _ j (not_bad (ltb 8193 (v + w * b)) _ (Some (Stop j)) (stop_bad j) z₂.1).1
    go false e ih = ih (not_bad (ltb 64 w) _ (Some (Stop j)) (stop_bad j) e).1

pub record EndRead (f : Format) (i : ℕ) (l : List ℕ) (j : ℕ) : Type 0 where
  pub rest : List ℕ
  pub split : l ≡ stop f ++ rest
  pub free : Free f rest
  pub place : j ≡ i + length (stop f)

pub stop_part : (i j : ℕ) → Some (Stop i) ≡ Some (Stop j) → i ≡ j
stop_part i j e = cc

close_sound : (i : ℕ) (l : List ℕ) (j : ℕ) → close_from i l ≡ Some (Stop j) → Free Text l × (j ≡ i)
unfolding close_from
close_sound i [] j e = (at_end, sym (stop_part i j e))
close_sound i (b ∷ l) j e = go (sep b) refl e
  where
    go : (t : Bool) → sep b ≡ t → pick t (Some (Stop i)) None ≡ Some (Stop j) → Free Text (b ∷ l) × (j ≡ i)
    go true t e = (at_sep (is_sep b t), sym (stop_part i j e))
    go false t e = absurd (stop_bad j (sym e))

pub token_stop : (f : Format) (i : ℕ) (l : List ℕ) (j : ℕ) → token f i l ≡ Some (Stop j) → EndRead f i l j
unfolding token
token_stop Text i [] j e = absurd (stop_bad j (sym e))
token_stop Text i (b ∷ l) j e = go (eqb b 48) refl e
  where
    go : (t : Bool) → eqb b 48 ≡ t → pick t (close_from (i + 1) l) (then_gap i (b ∷ l) (signed_from i (b ∷ l))) ≡ Some (Stop j) → EndRead Text i (b ∷ l) j
    go true h e =
        let r = close_sound (i + 1) l j e in
        record { rest = l; split = ap (λ (x : ℕ). x ∷ l) (eqb-true b 48 h); free = r.0; place = r.1 }
    go false h e = absurd (gap_no_stop i (b ∷ l) (signed_from i (b ∷ l)) j e)
token_stop Binary i [] j e = absurd (stop_bad j (sym e))
token_stop Binary i (b ∷ l) j e = go (eqb b 0) refl e
  where
    go : (t : Bool) → eqb b 0 ≡ t → pick t (Some (Stop (i + 1))) (leb_from 0 1 i (b ∷ l)) ≡ Some (Stop j) → EndRead Binary i (b ∷ l) j
    go true h e = record { rest = l; split = ap (λ (x : ℕ). x ∷ l) (eqb-true b 0 h); free = any_byte; place = sym (stop_part (i + 1) j e) }
    go false h e = absurd (leb_no_stop (b ∷ l) 0 1 i j e)

-- an opening that was read
pub record OpenRead (f : Format) (i : ℕ) (l : List ℕ) (k : Kind) (j : ℕ) : Type 0 where
  pub bytes : List ℕ
  pub rest : List ℕ
  pub split : l ≡ bytes ++ rest
  pub begins : Begins f k bytes
  pub place : j ≡ i + length bytes

pub opens_wrong : (k : Kind) (j : ℕ) → opens k j ≡ None → ⊥
opens_wrong k j e = let z : ◌≡◌ {A = ℕ} 0 1 = cc in omega arith

opens_parts : (a b : Kind) (i j : ℕ) → opens a i ≡ opens b j → (a ≡ b) × (i ≡ j)
opens_parts a b i j e =
    let z : ◌≡◌ {A = Kind × ℕ} (a, i) (b, j) = cc in
    (ap (λ (w : Kind × ℕ). w.0) z, ap (λ (w : Kind × ℕ). w.1) z)

open_at : (f : Format) (i : ℕ) (l : List ℕ) (a k : Kind) (i' j : ℕ) (bs rest : List ℕ) → l ≡ bs ++ rest → Begins f a bs → i' ≡ i + length bs
    → opens a i' ≡ opens k j → OpenRead f i l k j
open_at f i l a k i' j bs rest s b p e =
    let q = opens_parts a k i' j e in
    record { bytes = bs; rest = rest; split = s; begins = subst (λ (x : Kind). Begins f x bs) q.0 b; place = sym q.1 ∙ p }

gap_sound : (i : ℕ) (l : List ℕ) (k : Kind) (j : ℕ) → gap_from (i + 1) l ≡ opens k j → OpenRead Text i (100 ∷ l) k j
unfolding gap_from
gap_sound i l k j e = go (sep (get_or l 0 0)) refl e
  where
    go : (t : Bool) → sep (get_or l 0 0) ≡ t → pick t (opens Delete (i + 1 + seps l)) None ≡ opens k j → OpenRead Text i (100 ∷ l) k j
    go true h e =
        let t = lead_split Text l in
        open_at Text i (100 ∷ l) Delete k (i + 1 + seps l) j (100 ∷ t.front) t.rest (ap (λ (m : List ℕ). 100 ∷ m) t.split) (dee (some_gap l t h))
        (omega (arith, t.size)) e
    go false h e = absurd (opens_wrong k j (sym e))

pub opening_sound : (f : Format) (i : ℕ) (l : List ℕ) (k : Kind) (j : ℕ) → opening f i l ≡ opens k j → OpenRead f i l k j
unfolding opening
opening_sound Text i [] k j e = absurd (opens_wrong k j (sym e))
opening_sound Binary i [] k j e = absurd (opens_wrong k j (sym e))
opening_sound Text i (b ∷ l) k j e = go (eqb b 100) refl e
  where
    go : (t : Bool) → eqb b 100 ≡ t → pick t (gap_from (i + 1) l) (opens Add i) ≡ opens k j → OpenRead Text i (b ∷ l) k j
    go true h e = subst (λ (x : ℕ). OpenRead Text i (x ∷ l) k j) (sym (eqb-true b 100 h)) (gap_sound i l k j e)
    go false h e = open_at Text i (b ∷ l) Add k i j [] (b ∷ l) refl bare (omega arith) e
opening_sound Binary i (b ∷ l) k j e = go (eqb b 97) refl (eqb b 100) refl e
  where
    go : (t : Bool) → eqb b 97 ≡ t → (u : Bool) → eqb b 100 ≡ u → pick t (opens Add (i + 1)) (pick u (opens Delete (i + 1)) None) ≡ opens k j
        → OpenRead Binary i (b ∷ l) k j
    go true h u g e = open_at Binary i (b ∷ l) Add k (i + 1) j (97 ∷ []) l (ap (λ (x : ℕ). x ∷ l) (eqb-true b 97 h)) letter_a refl e
    go false h true g e = open_at Binary i (b ∷ l) Delete k (i + 1) j (100 ∷ []) l (ap (λ (x : ℕ). x ∷ l) (eqb-true b 100 g)) letter_d refl e
    go false h false g e = absurd (opens_wrong k j (sym e))

-- what is left of the input
pub bytes_rest : (l bs rest : List ℕ) → Bytes l → l ≡ bs ++ rest → Bytes rest
bytes_rest l bs rest h e k = rw get_or-append-add at (subst (λ (m : List ℕ). get_or m (length bs + k) 0 < 256) e (h (length bs + k)))

-- literals and an end that were read
pub record BodyRead (f : Format) (i : ℕ) (l : List ℕ) (cs : List ℕ) (j : ℕ) : Type 0 where
  pub bytes : List ℕ
  pub rest : List ℕ
  pub split : l ≡ bytes ++ rest
  pub spelled : Body f bytes cs
  pub free : Free f rest
  pub place : j ≡ i + length bytes

pub broken_whole : (cs : List ℕ) (j : ℕ) → broken ≡ whole cs j → ⊥
broken_whole cs j e = let z : ◌≡◌ {A = ℕ} 0 1 = cc in omega arith

whole_parts : (cs ds : List ℕ) (i j : ℕ) → whole cs i ≡ whole ds j → (cs ≡ ds) × (i ≡ j)
whole_parts cs ds i j e = (cc, cc)

pub cons_part_lem : (c : ℕ) (p : Part) (cs : List ℕ) (j : ℕ) → cons_part c p ≡ whole cs j → (ds : List ℕ) × (p ≡ whole ds j) × (c ∷ ds ≡ cs)
unfolding cons_part
cons_part_lem c (whole ds i) cs j e = let q = whole_parts (c ∷ ds) cs i j e in (ds, ap (whole ds) q.1, q.0)
cons_part_lem c broken cs j e = absurd (broken_whole cs j e)

pub body_sound : (f : Format) (n i : ℕ) (l cs : List ℕ) (j : ℕ) → Bytes l → body f n i l ≡ whole cs j → BodyRead f i l cs j
unfolding body
body_sound f zero i l cs j hb e = absurd (broken_whole cs j e)
body_sound f (suc n) i l cs j hb e = go (token f i l) refl (λ m i' ds h. body_sound f n i' m ds j h)
  where
    go : (t : Option Token) → token f i l ≡ t → ((m : List ℕ) (i' : ℕ) (ds : List ℕ) → Bytes m → body f n i' m ≡ whole ds j → BodyRead f i' m ds j)
        → BodyRead f i l cs j
    go (Some (Lit c i')) t ih =
        let r = token_sound f i l c i' hb t in
        let q = cons_part_lem c (body f n i' (drop (i' - i) l)) cs j (sym (body_lit f n i l c i' t) ∙ e) in
        let d = rest_is i i' l r.bytes r.rest r.split r.place in
        let b = ih r.rest i' q.0 (bytes_rest l r.bytes r.rest hb r.split) (ap (body f n i') (sym d) ∙ q.1) in
        record {
          bytes = r.bytes ++ b.bytes;
          rest = b.rest;
          split = r.split ∙ ap (λ (m : List ℕ). r.bytes ++ m) b.split ∙ sym (append_assoc r.bytes b.bytes b.rest);
          spelled = subst (λ (x : List ℕ). Body f (r.bytes ++ b.bytes) x) q.2 (lit r.spelled b.spelled);
          free = b.free;
          place = simp length-append (omega (arith, r.place, b.place));
        }
    go (Some (Stop i')) t ih =
        let r = token_stop f i l i' t in
        let q = whole_parts [] cs i' j (sym (body_stop f n i l i' t) ∙ e) in
        record {
          bytes = stop f;
          rest = r.rest;
          split = r.split;
          spelled = subst (λ (x : List ℕ). Body f (stop f) x) q.0 last;
          free = r.free;
          place =
              sym q.1 ∙ r.place;
        }
    go None t ih = absurd (broken_whole cs j (sym (body_bad f n i l t) ∙ e))

pub record StepRead (f : Format) (i : ℕ) (l : List ℕ) (s : Step) (j : ℕ) : Type 0 where
  pub front : List ℕ
  pub bytes : List ℕ
  pub rest : List ℕ
  pub split : l ≡ (front ++ bytes) ++ rest
  pub begins : Begins f s.kind front
  pub spelled : Body f bytes s.lits
  pub free : Free f rest
  pub place : j ≡ i + length (front ++ bytes)

pub fault_got : (s : Step) (j : ℕ) → fault ≡ got s j → ⊥
fault_got s j e = let z : ◌≡◌ {A = ℕ} 0 1 = cc in omega arith

got_parts : (s t : Step) (i j : ℕ) → got s i ≡ got t j → (s ≡ t) × (i ≡ j)
got_parts s t i j e = (cc, cc)

pub as_step_lem : (k : Kind) (p : Part) (s : Step) (j : ℕ) → as_step k p ≡ got s j → (cs : List ℕ) × (p ≡ whole cs j) × (step_of k cs ≡ s)
unfolding as_step
as_step_lem k (whole cs i) s j e = let q = got_parts (step_of k cs) s i j e in (cs, ap (whole cs) q.1, q.0)
as_step_lem k broken s j e = absurd (fault_got s j e)

pub step_sound : (f : Format) (i : ℕ) (l : List ℕ) (s : Step) (j : ℕ) → Bytes l → one_step f i l ≡ got s j → StepRead f i l s j
unfolding one_step
step_sound f i l s j hb e = go (opening f i l) refl
  where
    go : (o : Option (Kind × ℕ)) → opening f i l ≡ o → StepRead f i l s j
    go (Some (k, i')) o =
        let r = opening_sound f i l k i' o in
        let q = as_step_lem k (body f (length l) i' (drop (i' - i) l)) s j (sym (one_opens f i l k i' o) ∙ e) in
        let d = rest_is i i' l r.bytes r.rest r.split r.place in
        let b = body_sound f (length l) i' r.rest q.0 j (bytes_rest l r.bytes r.rest hb r.split) (ap (body f (length l) i') (sym d) ∙ q.1) in
        subst (λ (x : Step). StepRead f i l x j) q.2
        (record {
          front = r.bytes;
          bytes = b.bytes;
          rest = b.rest;
          split = r.split ∙ ap (λ (m : List ℕ). r.bytes ++ m) b.split
              ∙ sym (append_assoc r.bytes b.bytes b.rest);
          begins = r.begins;
          spelled = b.spelled;
          free = b.free;
          place = simp length-append (omega (arith, r.place, b.place));
        })
    go None o = absurd (fault_got s j (sym (one_wrong f i l o) ∙ e))

pub steps_fault : (ss : List Step) (i : ℕ) → fault_at i ≡ steps ss → ⊥
steps_fault ss i e = let z : ◌≡◌ {A = ℕ} 0 1 = cc in omega arith

pub steps_part : (ss ts : List Step) → steps ss ≡ steps ts → ss ≡ ts
steps_part ss ts e = cc

pub cons_step_lem : (s : Step) (p : Proof) (ss : List Step) → cons_step s p ≡ steps ss → (ts : List Step) × (p ≡ steps ts) × (s ∷ ts ≡ ss)
unfolding cons_step
cons_step_lem s (steps ts) ss e = (ts, refl, steps_part (s ∷ ts) ss e)
cons_step_lem s (fault_at i) ss e = absurd (steps_fault ss i e)

-- the step after one that was read starts where the separators after it end
pub rest_next : (f : Format) (i j : ℕ) (l bs r : List ℕ) → l ≡ bs ++ r → j ≡ i + length bs
    → (past f i l j ≡ j + lead f r) × (drop (past f i l j - i) l ≡ drop (lead f r) r)
rest_next f i j l bs r e h = (
  ap (λ (m : List ℕ). j + lead f m) (rest_is i j l bs r e h),
  ap₂ (λ (m : List ℕ) (k : ℕ). drop (past f i m k - i) m) e h ∙ rest_past f i bs r,
)

-- bytes that may be passed, in front of a spelling
front_spells : (f : Format) (r : List ℕ) (ss : List Step) → Spells f (drop (lead f r) r) ss → Spells f r ss
front_spells f r ss h =
    let t = lead_split f r in
    subst (λ (m : List ℕ). Spells f m ss) (sym t.split) (spells_lead t.fronts (subst (λ (m : List ℕ). Spells f m ss) (split_rest f r t) h))

nothing_spells : (f : Format) → Spells f [] []
nothing_spells f = none (nothing_lead f)

pub bytes_drop : (n : ℕ) (l : List ℕ) → Bytes l → Bytes (drop n l)
bytes_drop n l h k = rw get_or-drop (h (n + k))

pub steps_sound : (f : Format) (n i : ℕ) (l : List ℕ) (ss : List Step) → Bytes l → steps_from f n i l ≡ steps ss → Spells f l ss
unfolding steps_from
steps_sound f zero i [] ss hb e = subst (λ (x : List Step). Spells f [] x) (steps_part [] ss e) (nothing_spells f)
steps_sound f zero i (b ∷ l) ss hb e = absurd (steps_fault ss i e)
steps_sound f (suc n) i [] ss hb e = subst (λ (x : List Step). Spells f [] x) (steps_part [] ss e) (nothing_spells f)
steps_sound f (suc n) i (b ∷ l) ss hb e = go (one_step f i (b ∷ l)) refl (λ i' m ts. steps_sound f n i' m ts)
  where
    go : (o : One) → one_step f i (b ∷ l) ≡ o → ((i' : ℕ) (m : List ℕ) (ts : List Step) → Bytes m → steps_from f n i' m ≡ steps ts → Spells f m ts)
        → Spells f (b ∷ l) ss
    go (got s j) o ih =
        let r = step_sound f i (b ∷ l) s j hb o in
        let k = past f i (b ∷ l) j in
        let q = cons_step_lem s (steps_from f n k (drop (k - i) (b ∷ l))) ss (sym (steps_got f n i (b ∷ l) s j o) ∙ e) in
        let d = rest_next f i j (b ∷ l) (r.front ++ r.bytes) r.rest r.split r.place in
        let t = ih k (drop (k - i) (b ∷ l)) q.0 (bytes_drop (k - i) (b ∷ l) hb) q.1 in
        let u = front_spells f r.rest q.0 (subst (λ (m : List ℕ). Spells f m q.0) d.1 t) in
        subst₂ (λ (x : List ℕ) (y : List Step). Spells f x y) (sym r.split) q.2 (step (nothing_lead f) r.begins r.spelled r.free u)
    go fault o ih = absurd (steps_fault ss i (sym (steps_not f n i b l o) ∙ e))

-- the reader answers with steps exactly where the grammar has them
pub read_spells : (f : Format) (l : List ℕ) (ss : List Step) → Bytes l → read_proof f l ≡ steps ss → Spells f l ss
unfolding read_proof
read_spells f l ss hb e = front_spells f l ss (steps_sound f (length l) (lead f l) (drop (lead f l) l) ss (bytes_drop (lead f l) l hb) e)

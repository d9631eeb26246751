-- The fill inside a step: what stands ahead is known, so that each turn fills one literal more.
use Prim.Native.Nat.{ℕ, ◌+◌, ◌≤◌, ◌<◌}
use mathlib.Core.List.{List, [], ◌∷◌, ◌++◌, append_assoc, append-nil}
use mathlib.Core.Logic.{⊎_elim}
use mathlib.Core.Path.{◌≡◌, refl, sym, ap, ap₂, ◌∙◌, subst}
use lib.ListN.{length, get_or, drop, set, length-append}
use lib.Seq.{sets, get_or-drop}
use native.Mathlib.Omega.{arith}
use borrow.Author.Tests.{eq-eqb}
use Rattle.base.proofs.SetsLaws.{sets_append}
use Rattle.base.proofs.Truth.{split}
use Rattle.drat.proofs.At.{text_here, binary_here, token_past}
use Rattle.drat.proofs.Complete.{signed_first}
use Rattle.drat.proofs.Places.{body_at, lit_at, stop_at, bad_at}
use Rattle.drat.proofs.Sound.{Bytes, lit_bad, lit_stop, stop_bad, broken_whole, cons_part_lem, close_no_lit, token_stop, signed_sound}
use Rattle.drat.specs.Reading.{close_from, signed_from, seps, token, whole}
use Rattle.drat.specs.declared.Format.TheVariants.{Text, Binary}
use Rattle.drat.specs.declared.Format.{Format}
use Rattle.drat.specs.declared.Token.TheVariants.{Lit, Stop}
use Rattle.drat.specs.declared.Token.{Token}
use Rattle.drat_read.specs.Known.{body_from, BodyFits, BodyFilled, IsNumber, IsGap, IsLit}
use Rattle.drat_read.proofs.LitLaws.{text_number, text_read}
use Rattle.std.specs.Prelude.{Option, Some, None}

pub body_is : (f : Format) (s : List ℕ) (i : ℕ) → body_at f s i ≡ body_from f s i
unfolding body_at
body_is f s i = refl

-- the first byte of a step's end
abbrev pub stop_byte : Format → ℕ
stop_byte Text = 48
stop_byte Binary = 0

-- what stands ahead of a place where literals and an end are whole
pub data NextToken (f : Format) (s : List ℕ) (i : ℕ) (cs : List ℕ) (j : ℕ) : Type 0 where
  stops : token f i (drop i s) ≡ Some (Stop j) → cs ≡ [] → j ≤ length s → NextToken f s i cs j
  goes : (c k : ℕ) (ds : List ℕ) → token f i (drop i s) ≡ Some (Lit c k) → cs ≡ c ∷ ds → body_at f s k ≡ whole ds j → i < k → k ≤ length s → NextToken f s i cs j

pub next_token : (f : Format) (s : List ℕ) (i : ℕ) (cs : List ℕ) (j : ℕ) → Bytes s → i ≤ length s → body_at f s i ≡ whole cs j → NextToken f s i cs j
next_token f s i cs j hb h e = go (token f i (drop i s)) refl
  where
    go : (t : Option Token) → token f i (drop i s) ≡ t → NextToken f s i cs j
    go (Some (Lit c k)) t =
        let l = lit_at f s hb i h c k t in
        let r = cons_part_lem c (body_at f s k) cs j (sym l.0 ∙ e) in
        goes c k r.0 t (sym r.2) r.1 l.1 l.2
    go (Some (Stop k)) t =
        let l = stop_at f s hb i h k t in
        let q : whole [] k ≡ whole cs j = sym l.0 ∙ e in
        let z : k ≡ j = cc in
        stops (t ∙ ap (λ (x : ℕ). Some (Stop x)) z) (cc) (omega (arith, l.2))
    go None t = absurd (broken_whole cs j (sym (bad_at f s hb i t) ∙ e))

-- the byte there tells which
head_is : (s : List ℕ) (i x : ℕ) (l : List ℕ) → drop i s ≡ x ∷ l → get_or s i 0 ≡ x
head_is s i x l e = let z : i + 0 ≡ i = omega arith in ap (λ (k : ℕ). get_or s k 0) (sym z) ∙ sym (get_or-drop i s 0 0) ∙ ap (λ (m : List ℕ). get_or m 0 0) e

stop_byte_lem : (f : Format) (s : List ℕ) (i j : ℕ) → token f i (drop i s) ≡ Some (Stop j) → (get_or s i 0 ≡ stop_byte f) × (j ≡ i + 1)
stop_byte_lem Text s i j e = let r = token_stop Text i (drop i s) j e in (head_is s i 48 r.rest r.split, r.place)
stop_byte_lem Binary s i j e = let r = token_stop Binary i (drop i s) j e in (head_is s i 0 r.rest r.split, r.place)

here : (f : Format) (s : List ℕ) (i : ℕ) (t : Option Token) → token f i (drop i s) ≡ t → (t ≡ None → ⊥) → i < length s
here f s i t e n = ⊎_elim (λ (h : i < length s). h) (λ (h : length s ≤ i). absurd (n (sym e ∙ token_past s i h f))) (split i (length s))

lit_byte : (f : Format) (s : List ℕ) (i c j : ℕ) → token f i (drop i s) ≡ Some (Lit c j) → get_or s i 0 ≡ stop_byte f → ⊥
lit_byte Text s i c j e h =
    let l = here Text s i (Some (Lit c j)) e (lit_bad c j) in
    let t : token Text i (drop i s) ≡ close_from (i + 1) (drop (i + 1) s) = text_here s i l ∙ simp (eq-eqb (get_or s i 0) 48 h) in
    close_no_lit (i + 1) (drop (i + 1) s) c j (sym t ∙ e)
lit_byte Binary s i c j e h =
    let l = here Binary s i (Some (Lit c j)) e (lit_bad c j) in
    let t : token Binary i (drop i s) ≡ Some (Stop (i + 1)) = binary_here s i l ∙ simp (eq-eqb (get_or s i 0) 0 h) in
    lit_stop c j (i + 1) (sym e ∙ t)

-- a text step's literals start with a minus or a digit, and end with a digit
pub body_byte : (s : List ℕ) (i : ℕ) (cs : List ℕ) (j : ℕ) → Bytes s → i ≤ length s → body_at Text s i ≡ whole cs j → (i < length s) × (45 ≤ get_or s i 0)
body_byte s i cs j hb h e = go (next_token Text s i cs j hb h e)
  where
    go : NextToken Text s i cs j → (i < length s) × (45 ≤ get_or s i 0)
    go (stops t q k) = (here Text s i (Some (Stop j)) t (stop_bad j), omega (arith, (stop_byte_lem Text s i j t).0))
    go (goes c k ds t q b u v) =
        let l = here Text s i (Some (Lit c k)) t (lit_bad c k) in
        let n = text_number s i c k l (lit_byte Text s i c k t) t in
        let r = signed_sound i (drop i s) n.code n.next n.is in
        let f = signed_first r.spelled in
        (l, omega (arith, f.5, head_is s i f.0 (f.1 ++ r.rest) (r.split ∙ ap (λ (x : List ℕ). x ++ r.rest) f.2)))

-- between two literals: ds were filled, rest is ahead
pub record BodyFilling (f : Format) (s codes₀ : List ℕ) (i n : ℕ) (codes : List ℕ) (at m : ℕ) : Type 0 where
  pub ds : List ℕ
  pub rest : List ℕ
  pub end : ℕ
  pub inside : at ≤ length s
  pub all : body_from f s i ≡ whole (ds ++ rest) end
  pub ahead : body_at f s at ≡ whole rest end
  pub fits : n + length (ds ++ rest) ≤ length codes₀
  pub count : m ≡ n + length ds
  pub held : codes ≡ sets codes₀ n ds

pub filling_start : (f : Format) (s codes : List ℕ) (i n : ℕ) → BodyFits f s i n (length codes) → BodyFilling f s codes i n codes i n
filling_start f s codes i n b =
    record {
      ds = [];
      rest = b.cs;
      end = b.end;
      inside = b.inside;
      all = b.reads;
      ahead = body_is f s i ∙ b.reads;
      fits = b.fits;
      count =
          omega arith;
      held = refl;
    }

module _ (f : Format) (s codes₀ codes : List ℕ) (i n at m : ℕ) (hb : Bytes s) (r : BodyFilling f s codes₀ i n codes at m) where
  known : NextToken f s at r.rest r.end
  known = next_token f s at r.rest r.end hb r.inside r.ahead

  pub filling_inside : at < length s
  filling_inside = go known
    where
      go : NextToken f s at r.rest r.end → at < length s
      go (stops t z k) = here f s at (Some (Stop r.end)) t (stop_bad r.end)
      go (goes c k ds t z b o p) = omega arith

  -- the step's end
  pub filling_stop : get_or s at 0 ≡ stop_byte f → (at + 1 ≤ length s) × BodyFilled f s i n codes₀ codes (at + 1) m
  filling_stop h = go known
    where
      go : NextToken f s at r.rest r.end → (at + 1 ≤ length s) × BodyFilled f s i n codes₀ codes (at + 1) m
      go (stops t z k) =
          let p = (stop_byte_lem f s at r.end t).1 in (
            omega (arith, p),
            record { cs = r.ds; reads = r.all ∙ ap₂ whole (ap (λ (x : List ℕ). r.ds ++ x) z ∙ append-nil r.ds) p; count = r.count; held = r.held },
          )
      go (goes c k ds t z b o p) = absurd (lit_byte f s at c k t h)

  -- a literal
  pub filling_lit : (get_or s at 0 ≡ stop_byte f → ⊥) → IsLit (token f at (drop at s))
  filling_lit h = go known
    where
      go : NextToken f s at r.rest r.end → IsLit (token f at (drop at s))
      go (stops t z k) = absurd (h (stop_byte_lem f s at r.end t).0)
      go (goes c k ds t z b o p) = record { code = c; next = k; is = t }

  -- one literal more
  pub filling_more : (c k : ℕ) → token f at (drop at s) ≡ Some (Lit c k) → (at < k) × (k ≤ length s) × (m < length codes₀)
      × BodyFilling f s codes₀ i n (set codes m c) k (m + 1)
  filling_more c k e = go known
    where
      go : NextToken f s at r.rest r.end → (at < k) × (k ≤ length s) × (m < length codes₀) × BodyFilling f s codes₀ i n (set codes m c) k (m + 1)
      go (stops t z o) = absurd (lit_stop c k r.end (sym e ∙ t))
      go (goes d j ds t z b o p) =
          let q : Some (Lit d j) ≡ Some (Lit c k) = sym t ∙ e in
          let qd : d ≡ c = cc in
          let qj : j ≡ k = cc in
          let a : r.ds ++ r.rest ≡ (r.ds ++ c ∷ []) ++ ds =
          ap (λ (x : List ℕ). r.ds ++ x) (z ∙ ap (λ (x : ℕ). x ∷ ds) qd) ∙ sym (append_assoc r.ds (c ∷ []) ds) in
          let w : length r.ds + 1 + length ds ≡ length (r.ds ++ r.rest) = sym (ap length a ∙ simp length-append) in (
            omega arith,
            omega arith,
            omega (arith, r.count, r.fits),
            record {
              ds = r.ds ++ c ∷ [];
              rest = ds;
              end = r.end;
              inside = omega arith;
              all = r.all ∙ ap (λ (x : List ℕ). whole x r.end) a;
              ahead = subst (λ (x : ℕ). body_at f s x ≡ whole ds r.end) qj b;
              fits = subst (λ (x : List ℕ). n + length x ≤ length codes₀) a r.fits;
              count = omega (arith, r.count, length-append r.ds (c ∷ []));
              held = ap₂ (λ (x : List ℕ) (y : ℕ). set x y c) r.held r.count ∙ sym (sets_append r.ds (c ∷ []) codes₀ n);
            },
          )

module _ (s codes₀ codes : List ℕ) (i n at m : ℕ) (hb : Bytes s) (r : BodyFilling Text s codes₀ i n codes at m) (h : get_or s at 0 ≡ 48 → ⊥) where
  -- a text literal: its number, and the separators after it
  pub filling_number : IsNumber s (signed_from at (drop at s))
  filling_number =
      let l = filling_lit Text s codes₀ codes i n at m hb r h in
      text_number s at l.code l.next (filling_inside Text s codes₀ codes i n at m hb r) h l.is

  module _ (c k : ℕ) (e : signed_from at (drop at s) ≡ Some (Lit c k)) where
    pub filling_read : (k < length s) × (token Text at (drop at s) ≡ Some (Lit c (k + 1 + seps (drop (k + 1) s))))
    filling_read =
        let l = filling_lit Text s codes₀ codes i n at m hb r h in
        text_read s at l.code l.next c k (filling_inside Text s codes₀ codes i n at m hb r) h l.is e

    pub filling_gap : IsGap s (k + 1)
    filling_gap =
        let w = filling_more Text s codes₀ codes i n at m hb r c (k + 1 + seps (drop (k + 1) s)) filling_read.1 in
        let b = body_byte s (k + 1 + seps (drop (k + 1) s)) w.3.rest w.3.end hb w.1 w.3.ahead in
        record { inside = b.0; token = b.1 }

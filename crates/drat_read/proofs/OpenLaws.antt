-- How a step opens that is known to be whole: its first byte tells its kind.
use Prim.Native.Nat.{ℕ, ◌+◌, ◌*◌, ◌≤◌, ◌<◌}
use mathlib.Core.Bool.{Bool, true, false}
use mathlib.Core.List.{List}
use mathlib.Core.Logic.{⊎_elim}
use mathlib.Core.Path.{◌≡◌, refl, sym, ap, ◌∙◌, subst}
use lib.Dec.{eqb}
use lib.ListN.{length, get_or, drop}
use native.Mathlib.Omega.{arith}
use borrow.Author.Tests.{eqb-true}
use Rattle.base.proofs.Truth.{split}
use Rattle.base.specs.Choice.{pick}
use Rattle.drat.proofs.At.{text_opens, binary_opens, opening_past, gap_at}
use Rattle.drat.proofs.Complete.{one_wrong}
use Rattle.drat.proofs.Ends.{step_is}
use Rattle.drat.proofs.Places.{body_at, opens_at}
use Rattle.drat.proofs.Separators.{no_sep}
use Rattle.drat.proofs.Sound.{Bytes, opens_wrong, as_step_lem, fault_got}
use Rattle.drat.specs.Reading.{sep, seps, gap_from, opening, whole, one_step}
use Rattle.drat.specs.declared.Format.TheVariants.{Text, Binary}
use Rattle.drat.specs.declared.Format.{Format}
use Rattle.drat.specs.declared.Kind.TheVariants.{Add, Delete}
use Rattle.drat.specs.declared.Kind.{Kind}
use Rattle.drat_read.specs.Known.{IsStep, IsGap, OpenedAs, first_place}
use Rattle.drat_scan.proofs.PlaceLaws.{seps_none, seps_one}
use Rattle.drat_read.proofs.BodyLaws.{body_byte}
use Rattle.std.specs.Prelude.{Option, Some, None}
use Rattle.drat.specs.Reading.{opens}

-- a whole step opens
record IsOpen (t : Option (Kind × ℕ)) : Type 0 where
  kind : Kind
  first : ℕ
  is : t ≡ opens kind first

step_open : (f : Format) (s : List ℕ) (i : ℕ) → IsStep (one_step f i (drop i s)) → IsOpen (opening f i (drop i s))
step_open f s i o = go (opening f i (drop i s)) refl
  where
    go : (t : Option (Kind × ℕ)) → opening f i (drop i s) ≡ t → IsOpen (opening f i (drop i s))
    go (Some (k, j)) e = record { kind = k; first = j; is = e }
    go None e = absurd (fault_got o.step o.end (sym (one_wrong f i (drop i s) e) ∙ o.is))

open_inside : (f : Format) (s : List ℕ) (i : ℕ) → IsOpen (opening f i (drop i s)) → i < length s
open_inside f s i o = ⊎_elim (λ (h : i < length s). h) (λ (h : length s ≤ i). absurd (opens_wrong o.kind o.first (sym o.is ∙ opening_past s i h f)))
    (split i (length s))

pub step_inside : (f : Format) (s : List ℕ) (i : ℕ) → IsStep (one_step f i (drop i s)) → i < length s
step_inside f s i o = open_inside f s i (step_open f s i o)

-- the literals and the end of a whole step that opens
pub opened_body : (f : Format) (s : List ℕ) (i : ℕ) → Bytes s → i ≤ length s → (o : IsStep (one_step f i (drop i s))) (k : Kind) (j : ℕ)
    → opening f i (drop i s) ≡ opens k j → (j ≤ length s) × (cs : List ℕ) × (body_at f s j ≡ whole cs o.end)
opened_body f s i hb h o k j e =
    let x = opens_at f s hb i h k j e in
    let p = as_step_lem k (body_at f s j) o.step o.end (sym x.0 ∙ step_is f s i ∙ o.is) in
    (x.2, p.0, p.1)

-- after a `d` at least one separator
gap_opens : (s : List ℕ) (i : ℕ) (k : Kind) (j : ℕ) → gap_from (i + 1) (drop (i + 1) s) ≡ opens k j
    → gap_from (i + 1) (drop (i + 1) s) ≡ opens Delete ((i + 2 + seps (drop (i + 2) s)))
gap_opens s i k j e = go (sep (get_or s (i + 1) 0)) refl (gap_at s (i + 1))
  where
    go : (t : Bool) → sep (get_or s (i + 1) 0) ≡ t → gap_from (i + 1) (drop (i + 1) s) ≡ pick t (opens Delete ((i + 1 + seps (drop (i + 1) s)))) None
        → gap_from (i + 1) (drop (i + 1) s) ≡ opens Delete ((i + 2 + seps (drop (i + 2) s)))
    go true t g =
        let z : i + 1 + 1 ≡ i + 2 = omega arith in
        g ∙ ap (λ (x : ℕ). opens Delete x) (seps_one s (i + 1) t ∙ ap (λ (x : ℕ). x + seps (drop x s)) z)
    go false t g = absurd (opens_wrong k j (sym e ∙ g))

module _ (s : List ℕ) (i : ℕ) (hb : Bytes s) where
  text_opened : (o : IsStep (one_step Text i (drop i s))) (n : ℕ) → n ≡ pick (eqb (get_or s i 0) 100) 1 0
      → OpenedAs (opening Text i (drop i s)) n (first_place Text s i n) × IsGap s (i + 2 * n)
  text_opened o n q = go (eqb (get_or s i 0) 100) (text_opens s i (step_inside Text s i o)) q
    where
      there : (k : Kind) (j : ℕ) → opening Text i (drop i s) ≡ opens k j → (j < length s) × (45 ≤ get_or s j 0)
      there k j e =
          let h = step_inside Text s i o in
          let b = opened_body Text s i hb (omega (arith, h)) o k j e in
          body_byte s j b.1 o.end hb b.0 b.2

      go : (t : Bool) → opening Text i (drop i s) ≡ pick t (gap_from (i + 1) (drop (i + 1) s)) (opens Add i) → n ≡ pick t 1 0
          → OpenedAs (opening Text i (drop i s)) n (first_place Text s i n) × IsGap s (i + 2 * n)
      go true e q =
          let w = step_open Text s i o in
          let z : i + 2 ≡ i + 2 * n = omega arith in
          let p : opening Text i (drop i s) ≡ opens Delete (first_place Text s i n) =
          e ∙ gap_opens s i w.kind w.first (sym e ∙ w.is) ∙ ap (λ (x : ℕ). opens Delete (x + seps (drop x s))) z in
          let b = there Delete (first_place Text s i n) p in
          (record { kind = Delete; is = p; numbered = q }, record { inside = b.0; token = b.1 })
      go false e q =
          let b = there Add i e in
          let v = seps_none s i b.0 (no_sep (get_or s i 0) (omega (arith, b.1))) in
          let z : i ≡ i + 2 * n = omega arith in
          let y : i + seps (drop i s) ≡ first_place Text s i n = ap (λ (x : ℕ). x + seps (drop x s)) z in
          let u : i ≡ first_place Text s i n = omega (arith, v, y) in (
            record { kind = Add; is = e ∙ ap (λ (x : ℕ). opens Add x) u; numbered = q },
            record { inside = omega (arith, u, b.0); token = omega (arith, b.1, ap (λ (x : ℕ). get_or s x 0) u) },
          )

  binary_opened : IsOpen (opening Binary i (drop i s)) → (n : ℕ) → n ≡ pick (eqb (get_or s i 0) 100) 1 0 → OpenedAs (opening Binary i (drop i s)) n (i + 1)
  binary_opened o n q = go (eqb (get_or s i 0) 97) refl (eqb (get_or s i 0) 100) refl (binary_opens s i (open_inside Binary s i o)) q
    where
      go : (t : Bool) → eqb (get_or s i 0) 97 ≡ t → (u : Bool) → eqb (get_or s i 0) 100 ≡ u
          → opening Binary i (drop i s) ≡ pick t (opens Add (i + 1)) (pick u (opens Delete (i + 1)) None) → n ≡ pick u 1 0
          → OpenedAs (opening Binary i (drop i s)) n (i + 1)
      go true h true g e q =
          let a = eqb-true (get_or s i 0) 97 h in
          let b = eqb-true (get_or s i 0) 100 g in
          absurd (omega arith)
      go true h false g e q = record { kind = Add; is = e; numbered = q }
      go false h true g e q = record { kind = Delete; is = e; numbered = q }
      go false h false g e q = absurd (opens_wrong o.kind o.first (sym o.is ∙ e))

pub text_gap : (s : List ℕ) (i n : ℕ) → Bytes s → IsStep (one_step Text i (drop i s)) → n ≡ pick (eqb (get_or s i 0) 100) 1 0 → IsGap s (i + 2 * n)
text_gap s i n hb o q = (text_opened s i hb o n q).1

pub opened : (f : Format) (s : List ℕ) (i n j : ℕ) → Bytes s → IsStep (one_step f i (drop i s)) → n ≡ pick (eqb (get_or s i 0) 100) 1 0
    → j ≡ first_place f s i n → OpenedAs (opening f i (drop i s)) n j
opened Text s i n j hb o q e = subst (OpenedAs (opening Text i (drop i s)) n) (sym e) (text_opened s i hb o n q).0
opened Binary s i n j hb o q e = subst (OpenedAs (opening Binary i (drop i s)) n) (sym e) (binary_opened s i hb (step_open Binary s i o) n q)

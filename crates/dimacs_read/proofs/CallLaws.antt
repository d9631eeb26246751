-- What the call answers, from what its parts answer.
use Prim.Native.Nat.{ℕ, ◌*◌, ◌≤◌, ◌<◌}
use mathlib.Core.Path.{◌≡◌, refl, sym, ap, ap₂, ◌∙◌, subst}
use mathlib.Core.List.{List, [], ◌∷◌}
use mathlib.Core.Bool.{Bool, true, false, ◌||◌}
use mathlib.Core.Logic.{◌⊎◌, inl, inr}
use native.Mathlib.Omega.{arith}
use lib.Dec.{ltb}
use lib.ListN.{length, drop, length-append, length-drop}
use lib.Seq.{sets}
use borrow.Author.Tests.{lt-ltb, le-ltb, eq-eqb, ne_eqb}
use Rattle.base.specs.Choice.{pick}
use Rattle.base.specs.Answer.{accepted, refused}
use Rattle.dimacs.specs.Cnf.{header_start, Line, closed, lit, Lines, none, line}
use Rattle.dimacs.specs.Reading.{header_place, value_from, starts_with, Head, head, no_head, head_from, Clauses, clauses, wrong_line, clauses_at, File, file, wrong_at}
use Rattle.dimacs.specs.Reading.{counted_by, file_by, read_file}
use Rattle.dimacs.specs.Calls.{all_codes, CnfFilling, cnf_refusing, cnf_filling, cnf_by, read_cnf_of, cnf_read, tallied, LineScan}
use Rattle.dimacs.specs.declared.CnfError.{CnfError}
use Rattle.dimacs.specs.declared.CnfError.TheVariants.{WrongLine, Room}
use Rattle.dimacs.proofs.Heads.{starts_split, head_sound}
use Rattle.dimacs.proofs.LineLaws.{lines_sound}
use Rattle.dimacs_read.specs.Heading.{Capped, heading, Headed, found, absent}
use Rattle.dimacs_read.specs.declared.heading.Heading.{Heading}
use Rattle.drat.proofs.Ends.{size_parts}
use Rattle.dimacs_read.specs.Known.{LinesFit}
use Rattle.dimacs_read.proofs.HeadingLaws.{capped_is, capped_not}
use Rattle.std.specs.Prelude.{Option, Some, None, Result, Ok, Err}
use Rattle.drat.specs.declared.Size.{Size}
use Rattle.drat.specs.Filled.{size}
use Rattle.dimacs.specs.declared.CnfSize.{CnfSize}
use Rattle.dimacs.specs.Calls.{cnf_size}

-- the header_start takes six bytes
pub starts_length : (l : List ℕ) → starts_with header_start l ≡ true → 6 ≤ length l
starts_length l h = let r = starts_split header_start l h in omega (arith, ap length r.1 ∙ length-append header_start r.0)

-- a clause takes two bytes
line_length : {v : ℕ} {bs cs : List ℕ} → Line v bs cs → 2 ≤ length bs
line_length closed = omega arith
line_length (lit {bs = bs} {rest = rest} s g t) = omega (arith, line_length t, length-append bs (32 ∷ rest))

lines_most : {v : ℕ} {l : List ℕ} {cls : List (List ℕ)} → Lines v l cls → 2 * length cls ≤ length l
lines_most none = omega arith
lines_most (line {bs = bs} {rest = rest} p t) = omega (arith, line_length p, lines_most t, length-append bs rest)

-- what the scan's answer says of the lines
whole_is : (r : Clauses) (n m : ℕ) → Ok (size n m) ≡ tallied r → (cls : List (List ℕ)) × (r ≡ clauses cls) × (n ≡ length (all_codes cls)) × (m ≡ length cls)
unfolding tallied
whole_is (clauses cls) n m e = let z = size_parts n m _ _ e in (cls, refl, z.0, z.1)
whole_is (wrong_line i) n m e = let z : ◌≡◌ {A = ℕ} 0 1 = cc in absurd (omega arith)

fault_is : (r : Clauses) (p : ℕ) → Err p ≡ tallied r → r ≡ wrong_line p
unfolding tallied
fault_is (clauses cls) p e = let z : ◌≡◌ {A = ℕ} 0 1 = cc in absurd (omega arith)
fault_is (wrong_line i) p e = cc

-- the header that was found
pub record IsHead (h : Head) (v k j : ℕ) : Type 0 where
  pub digits : List ℕ
  pub is : h ≡ head v digits j
  pub capped : Capped k (value_from 0 digits)

head_is : {h : Head} (r : Option Heading) → Headed h r → (v k j : ℕ) → r ≡ Some (heading v k j) → IsHead h v k j
head_is r (found {v = a} {k = b} {j = d} ks c) v k j e =
    let z : heading a b d ≡ heading v k j = cc in
    subst (λ (w : Heading). IsHead (head a ks d) w.variables w.clauses w.next) z (record { digits = ks; is = refl; capped = c })
head_is r absent v k j e = let z : ◌≡◌ {A = ℕ} 0 1 = cc in absurd (omega arith)

head_not : {h : Head} (r : Option Heading) → Headed h r → r ≡ None → h ≡ no_head
head_not r (found ks c) e = let z : ◌≡◌ {A = ℕ} 0 1 = cc in absurd (omega arith)
head_not r absent e = refl

-- a call: its answer and the two slices, before (₀) and after
pub record CnfCall (s codes₀ ends₀ codes ends : List ℕ) (r : Result CnfSize CnfError) : Type 0 where
  pub answer : cnf_read r ≡ (read_cnf_of s (length codes₀) (length ends₀)).answer
  pub codes_after : codes ≡ sets codes₀ 0 (read_cnf_of s (length codes₀) (length ends₀)).codes
  pub ends_after : ends ≡ sets ends₀ 0 (read_cnf_of s (length codes₀) (length ends₀)).ends

module _ (s codes₀ ends₀ : List ℕ) where
  -- a refused call leaves the slices as they were
  refuses : (r : Result CnfSize CnfError) (n : ℕ) (vs : List ℕ) → cnf_read r ≡ refused n vs → read_cnf_of s (length codes₀) (length ends₀) ≡ cnf_refusing n vs
      → CnfCall s codes₀ ends₀ codes₀ ends₀ r
  refuses r n vs e h =
      record {
        answer = e ∙ sym (ap (λ (x : CnfFilling). x.answer) h);
        codes_after = sym (ap (λ (x : CnfFilling). sets codes₀ 0 x.codes) h);
        ends_after = sym (ap (λ (x : CnfFilling). sets ends₀ 0 x.ends) h);
      }

  wrong_call : (p : ℕ) → read_file s ≡ wrong_at p → CnfCall s codes₀ ends₀ codes₀ ends₀ (Err (WrongLine p))
  unfolding cnf_by
  wrong_call p e = refuses (Err (WrongLine p)) 17 (p ∷ []) refl (ap (λ (f : File). cnf_by f (length codes₀) (length ends₀)) e)

  module _ (h : ℕ) (eh : h ≡ header_place false 0 s) where
    file_at : read_file s ≡ file_by s h (head_from h (drop h s))
    unfolding read_file
    file_at = ap (λ (i : ℕ). file_by s i (head_from i (drop i s))) (sym eh)

    module _ (r : Option Heading) (hd : Headed (head_from h (drop h s)) r) where
      pub call_headless : r ≡ None → CnfCall s codes₀ ends₀ codes₀ ends₀ (Err (WrongLine h))
      unfolding file_by
      call_headless e = wrong_call h (file_at ∙ ap (file_by s h) (head_not r hd e))

      module _ (v k j : ℕ) (ft : r ≡ Some (heading v k j)) where
        lines_at : read_file s ≡ counted_by h v (head_is r hd v k j ft).digits (clauses_at s v j)
        unfolding file_by
        lines_at = file_at ∙ ap (file_by s h) (head_is r hd v k j ft).is

        -- the lines stand within the file
        pub lines_within : h ≤ length s → j ≤ length s
        lines_within g =
            let r = head_sound h (drop h s) v (head_is r hd v k j ft).digits j (head_is r hd v k j ft).is in
            omega (arith, r.place, ap length r.split ∙ length-append r.bytes r.rest, length-drop h s)

        pub call_wrong : (p : ℕ) → Err p ≡ tallied (clauses_at s v j) → CnfCall s codes₀ ends₀ codes₀ ends₀ (Err (WrongLine p))
        unfolding counted_by
        call_wrong p e = wrong_call p (lines_at ∙ ap (counted_by h v (head_is r hd v k j ft).digits) (fault_is (clauses_at s v j) p e))

        module _ (n m : ℕ) (e : Ok (size n m) ≡ tallied (clauses_at s v j)) (short : length s < 9223372036854775808) where
          got : (cls : List (List ℕ)) × (clauses_at s v j ≡ clauses cls) × (n ≡ length (all_codes cls)) × (m ≡ length cls)
          got = whole_is (clauses_at s v j) n m e

          few : m < 9223372036854775800
          few = omega (arith, got.3, lines_most (lines_sound v (length s) j (drop j s) got.0 got.1), length-drop j s)

          pub call_miscounted : (k ≡ m → ⊥) → CnfCall s codes₀ ends₀ codes₀ ends₀ (Err (WrongLine h))
          unfolding counted_by
          call_miscounted g =
              let w = head_is r hd v k j ft in
              let z = ne_eqb (value_from 0 w.digits) (length got.0) (λ q. capped_not k (value_from 0 w.digits) m few w.capped g (q ∙ sym
              got.3)) in
              wrong_call h (lines_at ∙ ap (counted_by h v w.digits) got.1 ∙ ap (λ (t : Bool). pick t (file v got.0) (wrong_at h)) z)

          pub lines_fit : j ≤ length s → n ≤ length codes₀ → m ≤ length ends₀ → LinesFit s v j (length codes₀) (length ends₀)
          lines_fit i a b =
              record { cls = got.0; inside = i; reads = got.1; codes_fit = omega (arith, a, got.2); ends_fit = omega (arith, b, got.3) }

          module _ (g : k ≡ m) where
            file_is : read_file s ≡ file v got.0
            unfolding counted_by
            file_is =
                let w = head_is r hd v k j ft in
                let z = eq-eqb (value_from 0 w.digits) (length got.0) (capped_is k (value_from 0 w.digits) m few w.capped g ∙ got.3) in
                lines_at ∙ ap (counted_by h v w.digits) got.1 ∙ ap (λ (t : Bool). pick t (file v got.0) (wrong_at h)) z

            answer_is : read_cnf_of s (length codes₀) (length ends₀) ≡
                pick (ltb (length codes₀) (length (all_codes got.0)) || ltb (length ends₀) (length got.0)) (cnf_refusing 2 []) (cnf_filling v got.0)
            unfolding cnf_by
            answer_is = ap (λ (x : File). cnf_by x (length codes₀) (length ends₀)) file_is

            call_short₁ : length codes₀ < n → CnfCall s codes₀ ends₀ codes₀ ends₀ (Err Room)
            call_short₁ l = refuses (Err Room) 2 [] refl
                (answer_is ∙ simp (lt-ltb (length codes₀) (length (all_codes got.0)) (omega (arith, got.2))))

            call_short₂ : n ≤ length codes₀ → length ends₀ < m → CnfCall s codes₀ ends₀ codes₀ ends₀ (Err Room)
            call_short₂ a l = refuses (Err Room) 2 [] refl
                (answer_is ∙ simp (
                  le-ltb (length codes₀) (length (all_codes got.0)) (omega (arith, got.2)),
                  lt-ltb (length ends₀) (length got.0) (omega (arith, got.3)),
                ))

            pub call_short : (length codes₀ < n) ⊎ ((n ≤ length codes₀) × (length ends₀ < m)) → CnfCall s codes₀ ends₀ codes₀ ends₀ (Err Room)
            call_short (inl l) = call_short₁ l
            call_short (inr l) = call_short₂ l.0 l.1

            pub call_filled : n ≤ length codes₀ → m ≤ length ends₀ → (codes' ends' : List ℕ) (r : Result Size ℕ) → LineScan s v j codes₀ ends₀ codes' ends' r
                → CnfCall s codes₀ ends₀ codes' ends' (Ok (cnf_size v n m))
            call_filled a l codes' ends' r q =
                let w = q.filled got.0 got.1 in
                let z : read_cnf_of s (length codes₀) (length ends₀) ≡ cnf_filling v got.0 =
                answer_is ∙ simp (
                  le-ltb (length codes₀) (length (all_codes got.0)) (omega (arith, got.2)),
                  le-ltb (length ends₀) (length got.0) (omega (arith, got.3)),
                ) in
                record {
                  answer = ap₂ (λ (x y : ℕ). accepted (v ∷ x ∷ y ∷ [])) got.2 got.3 ∙ sym (ap (λ (x : CnfFilling). x.answer) z);
                  codes_after = w.0 ∙ ap (λ (y : CnfFilling). sets codes₀ 0 y.codes) (sym z);
                  ends_after = w.1 ∙ ap (λ (y : CnfFilling). sets ends₀ 0 y.ends) (sym z);
                }

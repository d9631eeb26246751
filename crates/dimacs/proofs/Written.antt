-- What is written is spelled by the grammar.
use Prim.Native.Nat.{ℕ, zero, suc, ◌+◌, ◌-◌, ◌≤◌, ◌<◌}
use mathlib.Core.Path.{◌≡◌, refl, sym, ◌∙◌, subst}
use mathlib.Core.List.{List, [], ◌∷◌, ◌++◌, append_assoc}
use mathlib.Core.Bool.{true, false, not}
use native.Mathlib.Omega.{arith}
use lib.ListN.{length, get_or, drop, length-drop, length-take}
use lib.Seq.{get_or-drop, get_or-take}
use borrow.Author.Tests.{not-false}
use Rattle.base.proofs.MemberLaws.{or_left, or_right}
use Rattle.drat.specs.Numeral.{decimal, bytes_of, spell, further}
use Rattle.drat.specs.Grammar.{signed, number, numbers, Codes}
use Rattle.drat.specs.Writing.{part, codes_test}
use Rattle.drat.specs.Listed.{rises_to}
use Rattle.drat.specs.declared.Format.TheVariants.{Text}
use Rattle.drat.proofs.Numerals.{bytes_numeral}
use Rattle.drat.proofs.Written.{signed_spelled}
use Rattle.drat.proofs.CodesLaws.{codes_true, codes_part}
use Rattle.dimacs.specs.Cnf.{magnitude, largest, Line, closed, lit, Lines, none, line, no_comments, Count, nought, some, Header, header, Cnf, cnf}
use Rattle.dimacs.specs.Cnf.{header_line, clause_line, clause_lines, written}
use Rattle.dimacs.specs.Calls.{clauses_by, unwritable}
use Rattle.dimacs.proofs.ClauseLaws.{largest_at, largest_le}

-- ---- the header

pub nought_bytes : bytes_of decimal 0 ≡ 48 ∷ []
unfolding bytes_of spell further
nought_bytes = refl

pub count_spelled : (n : ℕ) → Count (bytes_of decimal n) n
count_spelled zero = subst (λ (bs : List ℕ). Count bs 0) (sym nought_bytes) nought
count_spelled (suc n) = some (bytes_numeral decimal (omega arith) (suc n) (omega arith))

pub header_spelled : (v k : ℕ) → v ≤ 4096 → Header (header_line v k) v k
header_spelled v k h = header (count_spelled v) h (count_spelled k)

-- ---- the lines

-- no magnitude is above v
abbrev pub Within : ℕ → List ℕ → Type 0
Within v cs = (i : ℕ) → i < length cs → magnitude (get_or cs i 0) ≤ v

within_part : (v a b : ℕ) (cs : List ℕ) → Within v cs → Within v (part a b cs)
within_part v a b cs h i l =
    let e = length-take (b - a) (drop a cs) in
    let k : i < b - a = omega arith in
    rw (get_or-take (b - a) (drop a cs) i 0 k, get_or-drop) (h (a + i) (omega (arith, length-drop a cs)))

line_next_lem : (c : ℕ) (cs : List ℕ) → clause_line (c ∷ cs) ≡ signed c ++ 32 ∷ clause_line cs
unfolding numbers number
line_next_lem c cs = append_assoc (number Text c) (numbers Text cs) (48 ∷ 10 ∷ []) ∙ append_assoc (signed c) (32 ∷ []) (clause_line cs)

pub line_spelled : (v : ℕ) (cs : List ℕ) → Codes cs → Within v cs → Line v (clause_line cs) cs
unfolding numbers
line_spelled v [] h w = closed
line_spelled v (c ∷ cs) h w =
    subst (λ (bs : List ℕ). Line v bs (c ∷ cs)) (sym (line_next_lem c cs))
    (lit (signed_spelled c (h 0 (omega arith))) (w 0 (omega arith)) (line_spelled v cs (λ i l. h (suc i) (omega arith)) (λ i l. w (suc i) (omega arith))))

pub lines_spelled : (v : ℕ) (codes : List ℕ) (n : ℕ) (es : List ℕ) → Codes codes → Within v codes
    → Lines v (clause_lines (clauses_by codes n es)) (clauses_by codes n es)
unfolding clause_lines clauses_by
lines_spelled v codes n [] h w = none
lines_spelled v codes n (e ∷ es) h w =
    line (line_spelled v (part n e codes) (codes_part n e codes h) (within_part v n e codes w)) (lines_spelled v codes e es h w)

-- ---- the file

module _ (codes es : List ℕ) where
  -- what is not refused: codes in range, and ends that lead through all of them
  pub record Writable : Type 0 where
    pub coded : Codes codes
    pub rising : rises_to (length codes) 0 es ≡ true

  pub is_writable : unwritable codes es ≡ false → Writable
  is_writable h = record {
    coded = codes_true codes (not-false (codes_test codes) (or_left (not (codes_test codes)) _ h));
    rising = not-false (rises_to (length codes) 0 es) (or_right (not (codes_test codes)) _ h);
  }

  pub written_cnf : unwritable codes es ≡ false → Cnf (written (largest codes) (clauses_by codes 0 es)) (largest codes) (clauses_by codes 0 es)
  written_cnf h =
      let w = is_writable h in
      cnf no_comments (header_spelled (largest codes) (length (clauses_by codes 0 es)) (largest_le codes w.coded))
      (lines_spelled (largest codes) codes 0 es w.coded (largest_at codes))

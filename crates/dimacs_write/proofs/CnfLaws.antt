-- The header's bytes part by part, how many bytes a file takes, and each way out of the call.
use Prim.Native.Nat.{ℕ, ◌+◌, ◌*◌, ◌≤◌, ◌<◌}
use mathlib.Core.Path.{◌≡◌, refl, sym, ap, ◌∙◌, subst}
use mathlib.Core.List.{List, [], ◌∷◌, ◌++◌, append_assoc}
use mathlib.Core.Bool.{true, false, not}
use native.Mathlib.Omega.{arith}
use lib.ListN.{length, set, length-append}
use lib.Seq.{sets}
use borrow.Author.Tests.{le-ltb, lt-ltb}
use Rattle.base.specs.Answer.{accepted, refused}
use Rattle.base.proofs.SetsLaws.{sets_append}
use Rattle.drat.specs.Numeral.{decimal, bytes_of}
use Rattle.drat.specs.Grammar.{numbers}
use Rattle.drat.specs.Writing.{codes_test}
use Rattle.drat.specs.Listed.{rises_to}
use Rattle.drat.specs.declared.Format.TheVariants.{Text}
use Rattle.drat.proofs.Shapes.{numbers_le}
use Rattle.dimacs.specs.Cnf.{largest, header_start, header_line, clause_lines, written}
use Rattle.dimacs.specs.Calls.{clauses_by, unwritable, write_cnf_of}
use Rattle.dimacs.proofs.ClauseLaws.{clauses_count, lines_length}
use Rattle.dimacs.proofs.Written.{Writable}
use Rattle.dimacs_write.proofs.CountLaws.{digits_most}

-- one run of stores after another
run_next : (l m r xs ys : List ℕ) (i n : ℕ) → m ≡ sets l i xs → n ≡ i + length xs → r ≡ sets m n ys → r ≡ sets l i (xs ++ ys)
run_next l m r xs ys i n a b e =
    e ∙ ap (λ (k : List ℕ). sets k n ys) a ∙ ap (λ (k : ℕ). sets (sets l i xs) k ys) b ∙ sym (sets_append xs ys l i)

-- ---- the header

module _ (v k : ℕ) where
  pub header_length : length (header_line v k) ≡ 8 + length (bytes_of decimal v) + length (bytes_of decimal k)
  header_length =
      length-append header_start (bytes_of decimal v ++ 32 ∷ (bytes_of decimal k ++ 10 ∷ []))
      ∙ omega (
        arith,
        length-append (bytes_of decimal v) (32 ∷ (bytes_of decimal k ++ 10 ∷ [])),
        length-append (bytes_of decimal k) (10 ∷ []),
      )

  -- `p cnf ` is o1; then the first number, o2; a blank; the second number, o3; and the line feed
  pub header_sets : (o o1 o2 o3 : List ℕ) (s p q : ℕ) → o1 ≡ sets o 0 header_start → s ≡ 6 → o2 ≡ sets o1 s (bytes_of decimal v) → p ≡ s + length (bytes_of decimal v)
      → o3 ≡ sets (set o2 p 32) (p + 1) (bytes_of decimal k) → q ≡ p + 1 + length (bytes_of decimal k) → set o3 q 10 ≡ sets o 0 (header_line v k)
  header_sets o o1 o2 o3 s p q a f b c d e =
      let vs = bytes_of decimal v in
      let ks = bytes_of decimal k in
      let n2 = length-append header_start vs in
      let n3 = length-append (header_start ++ vs) (32 ∷ []) in
      let n4 = length-append ((header_start ++ vs) ++ 32 ∷ []) ks in
      let w2 = run_next o o1 o2 header_start vs 0 s a f b in
      let w3 = run_next o o2 (set o2 p 32) (header_start ++ vs) (32 ∷ []) 0 p w2 (omega arith) refl in
      let w4 = run_next o (set o2 p 32) o3 ((header_start ++ vs) ++ 32 ∷ []) ks 0 (p + 1) w3 (omega arith) d in
      let w5 = run_next o o3 (set o3 q 10) (((header_start ++ vs) ++ 32 ∷ []) ++ ks) (10 ∷ []) 0 q w4 (omega arith) refl in
      w5 ∙ ap (sets o 0) (append_assoc ((header_start ++ vs) ++ 32 ∷ []) ks (10 ∷ []) ∙ append_assoc (header_start ++ vs) (32 ∷ []) (ks ++ 10 ∷ [])
      ∙ append_assoc header_start vs (32 ∷ (ks ++ 10 ∷ [])))

-- ---- the call

module _ (codes es : List ℕ) where
  abbrev pub clauses : List (List ℕ)
  clauses = clauses_by codes 0 es

  -- the two ways to be refused with 3, in the order in which they are tried
  pub unwritable_codes : codes_test codes ≡ false → unwritable codes es ≡ true
  unwritable_codes h = rw h

  pub unwritable_ends : codes_test codes ≡ true → unwritable codes es ≡ not (rises_to (length codes) 0 es)
  unwritable_ends h = rw h

  -- how many bytes
  module _ (v : ℕ) where
    pub header_count : header_line v (length clauses) ≡ header_line v (length es)
    header_count = ap (header_line v) (clauses_count codes 0 es)

    pub written_length : length (written v clauses) ≡ length (header_line v (length es)) + length (clause_lines clauses)
    written_length = length-append (header_line v (length clauses)) (clause_lines clauses)
        ∙ ap (λ (l : List ℕ). length l + length (clause_lines clauses)) header_count

    pub written_count : Writable codes es
        → length (written v clauses) ≡ length (numbers Text codes) + 2 * length es + length (bytes_of decimal v) + length (bytes_of decimal (length es)) + 8
    written_count w = omega (arith, written_length, header_length v (length es), lines_length codes es w.rising)

    pub written_le : Writable codes es → v ≤ 4096 → length es < 18446744073709551616
        → length (written v clauses) ≤ 6 * length codes + 2 * length es + 48
    written_le w h k =
        omega (arith, written_count w, numbers_le Text codes w.coded, digits_most v (omega arith), digits_most (length es) k)

    -- the header, and then the lines
    pub written_sets : (o o1 o2 : List ℕ) (p : ℕ) → o1 ≡ sets o 0 (header_line v (length es)) → p ≡ length (header_line v (length es))
        → o2 ≡ sets o1 p (clause_lines clauses) → o2 ≡ sets o 0 (written v clauses)
    written_sets o o1 o2 p a b e =
        run_next o o1 o2 (header_line v (length es)) (clause_lines clauses) 0 p a (omega arith) e
        ∙ ap (λ (l : List ℕ). sets o 0 (l ++ clause_lines clauses)) (sym header_count)

  module _ (room : ℕ) where
    pub cnf_outside : unwritable codes es ≡ true → write_cnf_of codes es room ≡ record { answer = refused 3 []; bytes = [] }
    cnf_outside h = rw h

    cnf_written : unwritable codes es ≡ false → length (written (largest codes) clauses) ≤ room
        → write_cnf_of codes es room ≡ record {
          answer = accepted ((0 + length (written (largest codes) clauses)) ∷ []);
          bytes = written (largest codes) clauses;
        }
    cnf_written h l = rw (h, le-ltb room (0 + length (written (largest codes) clauses)) (omega (arith, l)))

    module _ (h : unwritable codes es ≡ false) (v : ℕ) (e : v ≡ largest codes) where
      length_is : length (written v clauses) ≡ length (written (largest codes) clauses)
      length_is = ap (λ (x : ℕ). length (written x clauses)) e

      pub cnf_lacking : room < length (written v clauses) → write_cnf_of codes es room ≡ record { answer = refused 2 []; bytes = [] }
      cnf_lacking l = rw (h, lt-ltb room (0 + length (written (largest codes) clauses)) (omega (arith, l, length_is)))

      pub cnf_done : length (written v clauses) ≤ room
          → write_cnf_of codes es room ≡ record { answer = accepted ((0 + length (written v clauses)) ∷ []); bytes = written v clauses }
      cnf_done l =
          subst (λ (x : ℕ). write_cnf_of codes es room ≡ record { answer = accepted ((0 + length (written x clauses)) ∷ []); bytes = written x clauses }) (sym e)
          (cnf_written h (omega (arith, l, length_is)))

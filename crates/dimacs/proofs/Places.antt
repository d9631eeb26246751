-- A place that is wrong is the one answered: so a file has one such place, and none where the grammar has the file.
use Prim.Native.Nat.{ℕ, ◌+◌, ◌≤◌}
use mathlib.Core.Path.{◌≡◌, refl, sym, ap, ◌∙◌}
use mathlib.Core.List.{List, [], ◌++◌, append_assoc, append-nil}
use mathlib.Core.Bool.{Bool, false}
use native.Mathlib.Omega.{arith}
use lib.ListN.{length, drop, length-append, drop_of_length-le}
use lib.Seq.{drop_at}
use borrow.Author.Tests.{ne_eqb}
use Rattle.base.specs.Choice.{pick}
use Rattle.dimacs.specs.Cnf.{Header, Lines, none, line, Cnf, WrongAt, unclosed, headless, lineless, miscounted}
use Rattle.dimacs.specs.Reading.{header_place, value_from, Head, head, no_head, head_from, Clauses, clauses, wrong_line, cons_clause, clauses_from}
use Rattle.dimacs.specs.Reading.{file, wrong_at, counted_by, file_by, read_file}
use Rattle.dimacs.proofs.Heads.{place_read, end_read, head_read, head_sound}
use Rattle.dimacs.proofs.LineLaws.{line_read, lines_sound}
use Rattle.dimacs.proofs.Faults.{NoLine, first_wrong}
use Rattle.dimacs.proofs.Files.{header_read, all_read, cnf_read_lem, file_wrong, place_part, starts_none}

-- ---- no header

headless_from : (i : ℕ) (l : List ℕ) → ((hs r : List ℕ) (v k : ℕ) → Header hs v k → l ≡ hs ++ r → ⊥) → (r : Head) → head_from i l ≡ r → r ≡ no_head
headless_from i l h no_head e = refl
headless_from i l h (head v ks j) e =
    let q = head_sound i l v ks j e in
    absurd (h q.bytes q.rest v (value_from 0 ks) q.spelled q.split)

-- a file without a header at the place where one is looked for
no_header : (s : List ℕ) (p : ℕ) → header_place false 0 s ≡ p → head_from p (drop p s) ≡ no_head → read_file s ≡ wrong_at p
unfolding read_file file_by
no_header s p e h = ap (λ (i : ℕ). file_by s i (head_from i (drop i s))) e ∙ ap (file_by s p) h

-- ---- a wrong line

-- where no line begins there are no lines
no_lines : {v : ℕ} {l ls : List ℕ} {cls : List (List ℕ)} → Lines v ls cls → (rest : List ℕ) → l ≡ ls ++ rest → NoLine v l → ls ≡ []
no_lines none rest e not_Line = refl
no_lines (line {bs = bs} {rest = r} {cs = cs} p t) rest e not_Line = absurd (not_Line bs (r ++ rest) cs p (e ∙ append_assoc bs r rest))

line_wrong : (v n i : ℕ) (l : List ℕ) → length l ≤ n → (l ≡ [] → ⊥) → NoLine v l → (r : Clauses) → clauses_from v n i [] i l ≡ r → r ≡ wrong_line i
line_wrong v n i l h more not_Line (clauses cls) e = absurd (more (no_lines (lines_sound v n i l cls e) [] (sym (append-nil l)) not_Line))
line_wrong v n i l h more not_Line (wrong_line q) e =
    let f = first_wrong v n i l q h e in
    ap wrong_line (omega (arith, f.place, ap length (no_lines f.lines f.rest f.split not_Line)))

lines_wrong : {v : ℕ} {ls : List ℕ} {cls : List (List ℕ)} → Lines v ls cls → (n i : ℕ) (rest : List ℕ) → length ls + length rest ≤ n
    → (rest ≡ [] → ⊥) → NoLine v rest → clauses_from v n i [] i (ls ++ rest) ≡ wrong_line (i + length ls)
unfolding cons_clause
lines_wrong {v} none n i rest h more not_Line = line_wrong v n i rest (omega arith) more not_Line _ refl ∙ ap wrong_line (omega arith)
lines_wrong {v} (line {bs = bs} {rest = r} {cs = cs} p t) n i rest h more not_Line =
    let w = length-append bs r in
    let q = line_read p n i [] i (r ++ rest) (omega arith) in
    ap (clauses_from v n i [] i) (append_assoc bs r rest)
    ∙ q.2
    ∙ ap (cons_clause cs) (lines_wrong t q.0 (i + length bs) rest (omega (arith, q.1)) more not_Line)
    ∙ ap wrong_line (omega arith)

-- ---- the file

pub wrong_read : (s : List ℕ) (p : ℕ) → WrongAt s p → read_file s ≡ wrong_at p
unfolding counted_by
wrong_read s p (unclosed text c u e q) =
    let n : length s ≤ p = omega arith in
    no_header s p (ap (header_place false 0) e ∙ end_read c text u ∙ ap length (sym e) ∙ sym q)
    (ap (head_from p) (drop_of_length-le s n) ∙ starts_none p)
wrong_read s p (headless {cm = cm} {rest = rest} c e f q not-head) =
    no_header s p (ap (header_place false 0) e ∙ place_read c rest 0 f ∙ omega (arith, q))
    (ap (head_from p) (ap (drop p) e ∙ drop_at cm rest p (sym q)) ∙ headless_from p rest not-head _ refl)
wrong_read s p (lineless {cm = cm} {hs = hs} {ls = ls} {rest = rest} {v = v} c h t e q more not_Line) =
    let l = ls ++ rest in
    ap read_file e
    ∙ header_read c h l
    ∙ ap (counted_by (length cm) v (head_read h).digits) (lines_wrong t (length (cm ++ (hs ++ l))) (length cm + length hs) rest
    (omega (arith, length-append cm (hs ++ l), length-append hs l, length-append ls rest)) more not_Line)
    ∙ ap wrong_at (sym q)
wrong_read s p (miscounted {cm = cm} {v = v} {k = k} {cls = cls} c h t e q differ) =
    ap read_file e ∙ all_read c h t ∙ ap (λ (b : Bool). pick b (file v cls) (wrong_at (length cm))) (ne_eqb k (length cls) differ) ∙ ap wrong_at (sym q)

pub one_place : {s : List ℕ} {p q : ℕ} → WrongAt s p → WrongAt s q → p ≡ q
one_place {s} {p} {q} h g = place_part p q (sym (wrong_read s p h) ∙ wrong_read s q g)

pub wrong_not_cnf : {s : List ℕ} {p v : ℕ} {cls : List (List ℕ)} → WrongAt s p → Cnf s v cls → ⊥
wrong_not_cnf {s} {p} {v} {cls} h g = file_wrong p v cls (sym (wrong_read s p h) ∙ cnf_read_lem g)

-- The whole file: the reader answers with clauses exactly where the grammar has them, so a file has one reading; and with a place where something is wrong.
use Prim.Native.Nat.{ℕ, ◌+◌, ◌≤◌}
use mathlib.Core.Path.{◌≡◌, refl, sym, ap, ◌∙◌, subst}
use mathlib.Core.List.{List, [], ◌∷◌, ◌++◌, append_assoc}
use mathlib.Core.Bool.{Bool, true, false}
use native.Mathlib.Omega.{arith}
use lib.Dec.{eqb}
use lib.ListN.{length, drop, length-append, length-drop, drop_of_length-le}
use lib.Seq.{drop_at}
use borrow.Author.Tests.{eqb-true, eqb-false, eq-eqb}
use Rattle.base.specs.Choice.{pick}
use Rattle.dimacs.specs.Cnf.{Comments, Header, Lines, Cnf, cnf, WrongAt, unclosed, headless, lineless, miscounted}
use Rattle.dimacs.specs.Reading.{header_place, value_from, starts_with, Head, head, no_head, head_from, Clauses, clauses, wrong_line, clauses_from, clauses_at}
use Rattle.dimacs.specs.Reading.{file, wrong_at, counted_by, file_by, read_file}
use Rattle.dimacs.proofs.Digits.{count_value}
use Rattle.dimacs.proofs.Heads.{place_read, Placed, ahead, cut, placed, head_read, HeadSound, head_sound, head_none, head_first, head_absent}
use Rattle.dimacs.proofs.LineLaws.{lines_read, lines_sound}
use Rattle.dimacs.proofs.Faults.{first_wrong}

-- ---- what the grammar has is read

-- `c` lines and a header are read, and then come the lines
pub header_read : {cm hs : List ℕ} {v k : ℕ} → Comments cm → (h : Header hs v k) (l : List ℕ) → read_file (cm ++ (hs ++ l))
    ≡ counted_by (length cm) v (head_read h).digits (clauses_from v (length (cm ++ (hs ++ l))) (length cm + length hs) [] (length cm + length hs) l)
unfolding read_file file_by
header_read {cm} {hs} {v} c h l =
    let s = cm ++ (hs ++ l) in
    let p : header_place false 0 s ≡ length cm = place_read c (hs ++ l) 0 (head_first h l) ∙ omega arith in
    let r = head_read h in
    let d : drop (length cm) s ≡ hs ++ l = drop_at cm (hs ++ l) (length cm) refl in
    let e : head_from (length cm) (drop (length cm) s) ≡ head v r.digits (length cm + length hs) = ap (head_from (length cm)) d ∙ r.reads (length cm) l in
    let q : drop (length cm + length hs) s ≡ l =
    ap (drop (length cm + length hs)) (sym (append_assoc cm hs l)) ∙ drop_at (cm ++ hs) l (length cm + length hs) (length-append cm hs) in
    ap (λ (i : ℕ). file_by s i (head_from i (drop i s))) p
    ∙ ap (file_by s (length cm)) e
    ∙ ap (λ (x : List ℕ). counted_by (length cm) v r.digits (clauses_from v (length s) (length cm + length hs) [] (length cm + length hs) x)) q

-- where every line is right, the count decides
pub all_read : {cm hs ls : List ℕ} {v k : ℕ} {cls : List (List ℕ)} → Comments cm → Header hs v k → Lines v ls cls
    → read_file (cm ++ (hs ++ ls)) ≡ pick (eqb k (length cls)) (file v cls) (wrong_at (length cm))
unfolding counted_by
all_read {cm} {hs} {ls} {v} {k} {cls} c h t =
    header_read c h ls
    ∙ ap (counted_by (length cm) v (head_read h).digits) (lines_read t (length (cm ++ (hs ++ ls))) (length cm + length hs)
    (omega (arith, length-append cm (hs ++ ls), length-append hs ls)))
    ∙ ap (λ (n : ℕ). pick (eqb n (length cls)) (file v cls) (wrong_at (length cm))) (count_value (head_read h).counts)

pub cnf_read_lem : {s : List ℕ} {v : ℕ} {cls : List (List ℕ)} → Cnf s v cls → read_file s ≡ file v cls
cnf_read_lem (cnf {cm = cm} {v = v} {cls = cls} c h t) =
    all_read c h t ∙ ap (λ (b : Bool). pick b (file v cls) (wrong_at (length cm))) (eq-eqb (length cls) (length cls) refl)

-- one reading only
file_parts : (v w : ℕ) (xs ys : List (List ℕ)) → file v xs ≡ file w ys → (v ≡ w) × (xs ≡ ys)
file_parts v w xs ys e = (cc, cc)

pub one_file : {s : List ℕ} {v w : ℕ} {xs ys : List (List ℕ)} → Cnf s v xs → Cnf s w ys → (v ≡ w) × (xs ≡ ys)
one_file {v = v} {w = w} {xs = xs} {ys = ys} h g = file_parts v w xs ys (sym (cnf_read_lem h) ∙ cnf_read_lem g)

-- ---- what is read the grammar has

pub file_wrong : (i v : ℕ) (cls : List (List ℕ)) → wrong_at i ≡ file v cls → ⊥
file_wrong i v cls e = let z : ◌≡◌ {A = ℕ} 0 1 = cc in omega arith

pub place_part : (i j : ℕ) → wrong_at i ≡ wrong_at j → i ≡ j
place_part i j e = cc

-- the file behind its `c` lines, and the header read there
record Behind (s cm rest : List ℕ) (h v : ℕ) (ks : List ℕ) (j : ℕ) : Type 0 where
  comments : Comments cm
  split : s ≡ cm ++ rest
  place : h ≡ length cm
  header : HeadSound h rest v ks j

behind_lines : (s cm rest : List ℕ) (h v : ℕ) (ks : List ℕ) (j : ℕ) (b : Behind s cm rest h v ks j) → drop j s ≡ b.header.rest
behind_lines s cm rest h v ks j b =
    let r = b.header in
    let e : s ≡ (cm ++ r.bytes) ++ r.rest = b.split ∙ ap (λ (x : List ℕ). cm ++ x) r.split ∙ sym (append_assoc cm r.bytes r.rest) in
    ap (drop j) e ∙ drop_at (cm ++ r.bytes) r.rest j (omega (arith, length-append cm r.bytes, r.place, b.place))

module _ (s cm rest : List ℕ) (h v : ℕ) (ks : List ℕ) (j : ℕ) (b : Behind s cm rest h v ks j) where
  whole : (ls : List ℕ) → drop j s ≡ ls → s ≡ cm ++ (b.header.bytes ++ ls)
  whole ls e = b.split ∙ ap (λ (x : List ℕ). cm ++ x) (b.header.split ∙ ap (λ (x : List ℕ). b.header.bytes ++ x) (sym (behind_lines s cm rest h v ks j
      b) ∙ e))

  read_sound : (w : ℕ) (cls : List (List ℕ)) (r : Clauses) → clauses_at s v j ≡ r → counted_by h v ks r ≡ file w cls → Cnf s w cls
  unfolding counted_by
  read_sound w cls (wrong_line i) l e = absurd (file_wrong i w cls e)
  read_sound w cls (clauses ds) l e = go (eqb (value_from 0 ks) (length ds)) refl e
    where
      go : (t : Bool) → eqb (value_from 0 ks) (length ds) ≡ t → pick t (file v ds) (wrong_at h) ≡ file w cls → Cnf s w cls
      go true t e =
          let q = file_parts v w ds cls e in
          let u = lines_sound v (length s) j (drop j s) ds l in
          let k = subst (Header b.header.bytes v) (eqb-true (value_from 0 ks) (length ds) t) b.header.spelled in
          rw (whole (drop j s) refl) (subst (λ (x : ℕ). Cnf (cm ++ (b.header.bytes ++ drop j s)) x cls) q.0
          (subst (λ (x : List (List ℕ)). Cnf (cm ++ (b.header.bytes ++ drop j s)) v x) q.1 (cnf b.comments k u)))
      go false t e = absurd (file_wrong h w cls e)

  read_wrong : (p : ℕ) (r : Clauses) → clauses_at s v j ≡ r → counted_by h v ks r ≡ wrong_at p → WrongAt s p
  unfolding counted_by
  read_wrong p (wrong_line i) l e =
      let f = first_wrong v (length s) j (drop j s) i (omega (arith, length-drop j s)) l in
      lineless b.comments b.header.spelled f.lines (whole (f.before ++ f.rest) f.split)
      (omega (arith, place_part i p e, f.place, b.header.place, b.place)) f.more f.not_line
  read_wrong p (clauses ds) l e = go (eqb (value_from 0 ks) (length ds)) refl e
    where
      go : (t : Bool) → eqb (value_from 0 ks) (length ds) ≡ t → pick t (file v ds) (wrong_at h) ≡ wrong_at p → WrongAt s p
      go true t e = absurd (file_wrong p v ds (sym e))
      go false t e =
          miscounted b.comments b.header.spelled (lines_sound v (length s) j (drop j s) ds l) (whole (drop j s) refl)
          (sym (place_part h p e) ∙ b.place) (eqb-false (value_from 0 ks) (length ds) t)

-- the file from its header on
pub starts_none : (i : ℕ) → head_from i [] ≡ no_head
unfolding head_from starts_with
starts_none i = refl

module _ (s : List ℕ) (h : ℕ) where
  behind : {cm : List ℕ} (rest : List ℕ) → Comments cm → s ≡ cm ++ rest → h ≡ length cm → (v : ℕ) (ks : List ℕ) (j : ℕ)
      → head_from h (drop h s) ≡ head v ks j → Behind s cm rest h v ks j
  behind {cm} rest c e p v ks j t =
      let d : drop h s ≡ rest = ap (drop h) e ∙ drop_at cm rest h (sym p) in
      record { comments = c; split = e; place = p; header = head_sound h rest v ks j (ap (head_from h) (sym d) ∙ t) }

  at_end : (cm text : List ℕ) → s ≡ cm ++ 99 ∷ text → h ≡ 0 + length s → head_from h (drop h s) ≡ no_head
  at_end cm text e p = let n : length s ≤ h = omega arith in ap (head_from h) (drop_of_length-le s n) ∙ starts_none h

  by_place_sound : Placed 0 s h → (w : ℕ) (cls : List (List ℕ)) (r : Head) → head_from h (drop h s) ≡ r → file_by s h r ≡ file w cls → Cnf s w cls
  unfolding file_by
  by_place_sound q w cls no_head t e = absurd (file_wrong h w cls e)
  by_place_sound (ahead {cm = cm} rest c s' n p) w cls (head v ks j) t e =
      read_sound s cm rest h v ks j (behind rest c s' (omega arith) v ks j t) w cls (clauses_at s v j) refl e
  by_place_sound (cut {cm = cm} text c u s' p) w cls (head v ks j) t e = absurd (head_none v ks j (sym (at_end cm text s' p) ∙ t))

  by_place_wrong : Placed 0 s h → (p : ℕ) (r : Head) → head_from h (drop h s) ≡ r → file_by s h r ≡ wrong_at p → WrongAt s p
  unfolding file_by
  by_place_wrong (ahead {cm = cm} rest c s' n p') p no_head t e =
      let d : drop h s ≡ rest = ap (drop h) s' ∙ drop_at cm rest h (omega arith) in
      headless c s' n (omega (arith, place_part h p e)) (head_absent h rest (ap (head_from h) (sym d) ∙ t))
  by_place_wrong (cut text c u s' p') p no_head t e = unclosed text c u s' (omega (arith, place_part h p e))
  by_place_wrong (ahead {cm = cm} rest c s' n p') p (head v ks j) t e =
      read_wrong s cm rest h v ks j (behind rest c s' (omega arith) v ks j t) p (clauses_at s v j) refl e
  by_place_wrong (cut {cm = cm} text c u s' p') p (head v ks j) t e = absurd (head_none v ks j (sym (at_end cm text s' p') ∙ t))

pub read_cnf_sound : (s : List ℕ) (v : ℕ) (cls : List (List ℕ)) → read_file s ≡ file v cls → Cnf s v cls
unfolding read_file
read_cnf_sound s v cls e = by_place_sound s (header_place false 0 s) (placed s) v cls _ refl e

-- ---- where the reader answers with a place, something is wrong there, and nothing before it
pub read_cnf_wrong : (s : List ℕ) (p : ℕ) → read_file s ≡ wrong_at p → WrongAt s p
unfolding read_file
read_cnf_wrong s p e = by_place_wrong s (header_place false 0 s) (placed s) p _ refl e

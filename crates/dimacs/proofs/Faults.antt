-- A place that is answered is that of the first wrong line.
use Prim.Native.Nat.{ℕ, zero, suc, ◌+◌, ◌-◌, ◌≤◌}
use mathlib.Core.Path.{◌≡◌, refl, sym, ap, ◌∙◌}
use mathlib.Core.List.{List, [], ◌∷◌, ◌++◌, append_assoc}
use mathlib.Core.Bool.{Bool, true, false}
use native.Mathlib.Omega.{arith}
use lib.Dec.{eqb}
use lib.ListN.{length, drop, length-append}
use borrow.Author.Tests.{eqb-false}
use Rattle.base.specs.Choice.{pick}
use Rattle.drat.specs.Grammar.{Signed}
use Rattle.drat.specs.declared.Token.{Token}
use Rattle.drat.specs.declared.Token.TheVariants.{Lit, Stop}
use Rattle.drat.proofs.Sound.{lit_bad, stop_bad, lit_stop, lit_parts, rest_is}
use Rattle.dimacs.specs.Cnf.{magnitude, Line, closed, lit, Lines, none, line}
use Rattle.dimacs.specs.Reading.{line_from, within, clauses, wrong_line, clauses_from}
use Rattle.dimacs.proofs.LineTokens.{line_number, line_end, line_sound, line_stop}
use Rattle.dimacs.proofs.LineLaws.{within_lit, within_stop, within_was, within_stops, from_lit, from_stop, from_bad, from_none}
use Rattle.dimacs.proofs.LineLaws.{wrong_clauses, wrong_part}
use Rattle.dimacs.proofs.LineLaws.{cons_wrong}
use Rattle.std.specs.Prelude.{Option, Some, None}

-- l begins with no line; the rest of a line counts as one
abbrev pub NoLine : ℕ → List ℕ → Type 0
NoLine v l = (bs r cs : List ℕ) → Line v bs cs → l ≡ bs ++ r → ⊥

-- from place i on: the line that starts at `start` is wrong; or its rest is right, then some lines, and then comes a wrong one
pub data Amiss (v start i : ℕ) (l : List ℕ) (p : ℕ) : Type 0 where
  here : p ≡ start → NoLine v l → (i ≡ start → l ≡ [] → ⊥) → Amiss v start i l p
  later : {bs ds ls rest : List ℕ} {cls : List (List ℕ)} → Line v bs ds → Lines v ls cls → l ≡ bs ++ (ls ++ rest) → p ≡ i + length bs + length ls
      → (rest ≡ [] → ⊥) → NoLine v rest → Amiss v start i l p

-- the line's rest goes on as the token says
line_token : {v : ℕ} {bs cs : List ℕ} → Line v bs cs → (i : ℕ) (r : List ℕ) → within v (line_from i (bs ++ r)) ≡ None → ⊥
line_token {v} closed i r e = stop_bad (i + 2) (sym (ap (within v) (line_end i r) ∙ within_stop v (i + 2)) ∙ e)
line_token {v} (lit {bs = bs} {rest = rest} {c = c} s g t) i r e =
    let j = i + length bs + 1 in
    lit_bad c j (sym (ap (λ (x : List ℕ). within v (line_from i x)) (append_assoc bs (32 ∷ rest) r) ∙ ap (within v) (line_number s i (rest ++ r))
    ∙ within_lit v c j g) ∙ e)

-- after a number that was read there is no line, so before it there was none
no_line_lit : (v i : ℕ) (l : List ℕ) (c j : ℕ) (m : List ℕ) → within v (line_from i l) ≡ Some (Lit c j) → drop (j - i) l ≡ m → NoLine v m → NoLine v l
no_line_lit v i l c j m t d h bs r cs closed e =
    lit_stop c j (i + 2) (sym t ∙ ap (λ (x : List ℕ). within v (line_from i x)) e ∙ ap (within v) (line_end i r) ∙ within_stop v (i + 2))
no_line_lit v i l c j m t d h bs r cs (lit {bs = sb} {rest = rest} {cs = ds} {c = x} s g u) e =
    let e' : l ≡ sb ++ 32 ∷ (rest ++ r) = e ∙ append_assoc sb (32 ∷ rest) r in
    let k = i + length sb + 1 in
    let q : Some (Lit x k) ≡ Some (Lit c j) =
    sym (ap (λ (y : List ℕ). within v (line_from i y)) e' ∙ ap (within v) (line_number s i (rest ++ r)) ∙ within_lit v x k g) ∙ t in
    let w = lit_parts x k c j q in
    let a : l ≡ (sb ++ 32 ∷ []) ++ (rest ++ r) = e' ∙ sym (append_assoc sb (32 ∷ []) (rest ++ r)) in
    h rest r ds u (sym d ∙ rest_is i j l (sb ++ 32 ∷ []) (rest ++ r) a (omega (arith, w.1, length-append sb (32 ∷ []))))

no_line_none : (v : ℕ) → NoLine v []
no_line_none v bs r cs closed e = let z : ◌≡◌ {A = ℕ} 0 1 = cc in omega arith
no_line_none v bs r cs (lit {bs = sb} {rest = rest} s g u) e =
    omega (arith, ap length e ∙ length-append (sb ++ 32 ∷ rest) r, length-append sb (32 ∷ rest))

-- a number and its blank in front
module _ (v start i j : ℕ) (l m sb : List ℕ) (c p : ℕ) (s : Signed sb c) (g : magnitude c ≤ v) (e : l ≡ sb ++ 32 ∷ m) (q : j ≡ i + length sb + 1) (h :
    start ≤ i)
    (none-now : NoLine v m → NoLine v l) where
  amiss_lit : Amiss v start j m p → Amiss v start i l p
  amiss_lit (here a b d) = here a (none-now b) (λ x y. omega (arith, ap length (sym y ∙ e) ∙ length-append sb (32 ∷ m)))
  amiss_lit (later {bs = bs} {ls = ls} {rest = rest} t u a b d f) =
      later (lit s g t) u (e ∙ ap (λ (x : List ℕ). sb ++ 32 ∷ x) a ∙ sym (append_assoc sb (32 ∷ bs) (ls ++ rest)))
      (omega (arith, b, q, length-append sb (32 ∷ bs))) d f

-- a line's end in front
amiss_stop : (v start i j : ℕ) (l m : List ℕ) (p : ℕ) → l ≡ 48 ∷ 10 ∷ m → j ≡ i + 2 → Amiss v j j m p → Amiss v start i l p
amiss_stop v start i j l m p e q (here a b d) = later closed none e (omega (arith, a, q)) (d refl) b
amiss_stop v start i j l m p e q (later {bs = bs} {ls = ls} {rest = rest} t u a b d f) =
    later closed (line t u) (e ∙ ap (λ (x : List ℕ). 48 ∷ 10 ∷ x) (a ∙ sym (append_assoc bs ls rest))) (omega (arith, b, q, length-append bs ls)) d f

amiss_none : (v n start : ℕ) (cs : List ℕ) (i p : ℕ) → clauses_from v n start cs i [] ≡ wrong_line p → Amiss v start i [] p
amiss_none v n start cs i p e = go (eqb i start) refl (sym (from_none v n start cs i) ∙ e)
  where
    go : (t : Bool) → eqb i start ≡ t → pick t (clauses []) (wrong_line start) ≡ wrong_line p → Amiss v start i [] p
    go true t e = absurd (wrong_clauses p [] (sym e))
    go false t e = here (sym (wrong_part start p e)) (no_line_none v) (λ x y. eqb-false i start t x)

pub clauses_amiss : (v n start : ℕ) (cs : List ℕ) (i : ℕ) (l : List ℕ) (p : ℕ) → start ≤ i → length l ≤ n → clauses_from v n start cs i l ≡ wrong_line p
    → Amiss v start i l p
clauses_amiss v zero start cs i [] p h k e = amiss_none v zero start cs i p e
clauses_amiss v zero start cs i (b ∷ l) p h k e = absurd (omega arith)
clauses_amiss v (suc n) start cs i [] p h k e = amiss_none v (suc n) start cs i p e
clauses_amiss v (suc n) start cs i (b ∷ l) p h k e = go (within v (line_from i (b ∷ l))) refl (λ start' cs' j m. clauses_amiss v n start' cs' j m p)
  where
    go : (t : Option Token) → within v (line_from i (b ∷ l)) ≡ t
        → ((start' : ℕ) (cs' : List ℕ) (j : ℕ) (m : List ℕ) → start' ≤ j → length m ≤ n → clauses_from v n start' cs' j m ≡ wrong_line p → Amiss v start' j m p)
        → Amiss v start i (b ∷ l) p
    go (Some (Lit c j)) t ih =
        let w = within_was v (line_from i (b ∷ l)) c j t in
        let r = line_sound i (b ∷ l) c j w.0 in
        let sb = r.0 in
        let m = r.1 in
        let d = rest_is i j (b ∷ l) (sb ++ 32 ∷ []) m (r.3 ∙ sym (append_assoc sb (32 ∷ []) m)) (omega (arith, r.4, length-append sb (32 ∷ []))) in
        let q = ap (clauses_from v n start (cs ++ c ∷ []) j) (sym d) ∙ sym (from_lit v n start cs i b l c j t) ∙ e in
        amiss_lit v start i j (b ∷ l) m sb c p r.2 w.1 r.3 r.4 h (no_line_lit v i (b ∷ l) c j m t d)
        (ih start (cs ++ c ∷ []) j m (omega (arith, r.4)) (omega (arith, ap length r.3 ∙ length-append sb (32 ∷ m))) q)
    go (Some (Stop j)) t ih =
        let r = line_stop i (b ∷ l) j (within_stops v (line_from i (b ∷ l)) j t) in
        let m = r.rest in
        let d = rest_is i j (b ∷ l) (48 ∷ 10 ∷ []) m r.split r.place in
        let q = cons_wrong cs (clauses_from v n j [] j (drop (j - i) (b ∷ l))) p (sym (from_stop v n start cs i b l j t) ∙ e) in
        amiss_stop v start i j (b ∷ l) m p r.split r.place
        (ih j [] j m (omega arith) (omega (arith, ap length r.split)) (ap (clauses_from v n j [] j) (sym d) ∙ q))
    go None t ih =
        here (sym (wrong_part start p (sym (from_bad v n start cs i b l t) ∙ e)))
        (λ bs r cs' u s. line_token u i r (ap (λ (x : List ℕ). within v (line_from i x)) (sym s) ∙ t))
        (λ x y. let z : ◌≡◌ {A = ℕ} 0 1 = cc in omega arith)

-- ---- lines that start at place i: the right ones before the wrong one
pub record FirstWrong (v i : ℕ) (l : List ℕ) (p : ℕ) : Type 0 where
  pub before : List ℕ
  pub rest : List ℕ
  pub right : List (List ℕ)
  pub lines : Lines v before right
  pub split : l ≡ before ++ rest
  pub place : p ≡ i + length before
  pub more : rest ≡ [] → ⊥
  pub not_line : NoLine v rest

pub first_wrong : (v n i : ℕ) (l : List ℕ) (p : ℕ) → length l ≤ n → clauses_from v n i [] i l ≡ wrong_line p → FirstWrong v i l p
first_wrong v n i l p h e = go (clauses_amiss v n i [] i l p (omega arith) h e)
  where
    go : Amiss v i i l p → FirstWrong v i l p
    go (here a b d) = record { before = []; rest = l; right = []; lines = none; split = refl; place = omega (arith, a); more = d refl; not_line = b }
    go (later {bs = bs} {ls = ls} {rest = rest} t u a b d f) =
        record {
          before = bs ++ ls;
          rest = rest;
          right = _;
          lines = line t u;
          split = a ∙ sym (append_assoc bs ls rest);
          place = omega (arith, b, length-append bs ls);
          more = d;
          not_line = f;
        }

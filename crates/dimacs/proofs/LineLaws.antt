-- The lines: what the grammar has is read, and what is read the grammar has.
use Prim.Native.Nat.{ℕ, zero, suc, ◌+◌, ◌-◌, ◌≤◌, ◌<◌}
use mathlib.Core.Path.{◌≡◌, refl, sym, ap, ap₂, ◌∙◌, subst}
use mathlib.Core.List.{List, [], ◌∷◌, ◌++◌, append_assoc, append-nil}
use mathlib.Core.Bool.{Bool, true, false}
use native.Mathlib.Omega.{arith}
use lib.Dec.{eqb, leb}
use lib.ListN.{length, drop, length-append}
use borrow.Author.Tests.{eqb-true, eq-eqb, leb-true, le-leb, lt-leb}
use Rattle.base.specs.Choice.{pick}
use Rattle.drat.specs.Grammar.{Signed}
use Rattle.drat.specs.declared.Token.{Token}
use Rattle.drat.specs.declared.Token.TheVariants.{Lit, Stop}
use Rattle.drat.proofs.Complete.{signed_first, skip}
use Rattle.drat.proofs.Sound.{lit_bad, stop_bad, lit_stop, rest_is}
use Rattle.dimacs.specs.Cnf.{magnitude, Line, closed, lit, Lines, none, line}
use Rattle.dimacs.specs.Reading.{line_from, within, Clauses, clauses, wrong_line, cons_clause, clauses_from}
use Rattle.dimacs.proofs.LineTokens.{line_number, line_end, line_sound, line_stop}
use Rattle.std.specs.Prelude.{Option, Some, None}

-- ---- one token

pub within_lit : (v c j : ℕ) → magnitude c ≤ v → within v (Some (Lit c j)) ≡ Some (Lit c j)
unfolding within
within_lit v c j h = rw (le-leb (magnitude c) v h)

pub within_stop : (v j : ℕ) → within v (Some (Stop j)) ≡ Some (Stop j)
unfolding within
within_stop v j = refl

pub within_past : (v c j : ℕ) → v < magnitude c → within v (Some (Lit c j)) ≡ None
unfolding within
within_past v c j h = rw (lt-leb (magnitude c) v h)

pub within_bad : (v : ℕ) → within v None ≡ None
unfolding within
within_bad v = refl

-- what was read within v is that token, and small enough
pub within_was : (v : ℕ) (t : Option Token) (c j : ℕ) → within v t ≡ Some (Lit c j) → (t ≡ Some (Lit c j)) × (magnitude c ≤ v)
unfolding within
within_was v (Some (Lit d k)) c j e = go (leb (magnitude d) v) refl e
  where
    go : (u : Bool) → leb (magnitude d) v ≡ u → pick u (Some (Lit d k)) None ≡ Some (Lit c j) → (Some (Lit d k) ≡ Some (Lit c j)) × (magnitude c ≤ v)
    go true u e = let q : d ≡ c = cc in (e, subst (λ (x : ℕ). magnitude x ≤ v) q (leb-true (magnitude d) v u))
    go false u e = absurd (lit_bad c j (sym e))
within_was v (Some (Stop k)) c j e = absurd (lit_stop c j k (sym e))
within_was v None c j e = absurd (lit_bad c j (sym e))

pub within_stops : (v : ℕ) (t : Option Token) (j : ℕ) → within v t ≡ Some (Stop j) → t ≡ Some (Stop j)
unfolding within
within_stops v (Some (Lit d k)) j e = go (leb (magnitude d) v) e
  where
    go : (u : Bool) → pick u (Some (Lit d k)) None ≡ Some (Stop j) → Some (Lit d k) ≡ Some (Stop j)
    go true e = e
    go false e = absurd (stop_bad j (sym e))
within_stops v (Some (Stop k)) j e = e
within_stops v None j e = absurd (stop_bad j (sym e))

-- ---- the reader's equations, case by case

module _ (v n start : ℕ) (cs : List ℕ) (i b : ℕ) (l : List ℕ) where
  pub from_lit : (c j : ℕ) → within v (line_from i (b ∷ l)) ≡ Some (Lit c j)
      → clauses_from v (suc n) start cs i (b ∷ l) ≡ clauses_from v n start (cs ++ c ∷ []) j (drop (j - i) (b ∷ l))
  unfolding clauses_from
  from_lit c j e = rw (e, clauses_from)

  pub from_stop : (j : ℕ) → within v (line_from i (b ∷ l)) ≡ Some (Stop j)
      → clauses_from v (suc n) start cs i (b ∷ l) ≡ cons_clause cs (clauses_from v n j [] j (drop (j - i) (b ∷ l)))
  unfolding clauses_from
  from_stop j e = rw (e, clauses_from)

  pub from_bad : within v (line_from i (b ∷ l)) ≡ None → clauses_from v (suc n) start cs i (b ∷ l) ≡ wrong_line start
  unfolding clauses_from
  from_bad e = rw (e, clauses_from)

pub from_none : (v n start : ℕ) (cs : List ℕ) (i : ℕ) → clauses_from v n start cs i [] ≡ pick (eqb i start) (clauses []) (wrong_line start)
unfolding clauses_from
from_none v zero start cs i = refl
from_none v (suc n) start cs i = refl

-- ---- what the grammar has is read

-- a line, with the depth that is left
pub line_read : {v : ℕ} {bs ds : List ℕ} → Line v bs ds → (n start : ℕ) (cs : List ℕ) (i : ℕ) (r : List ℕ) → length bs ≤ n
    → (m : ℕ) × (n ≤ m + length bs)
    × (clauses_from v n start cs i (bs ++ r) ≡ cons_clause (cs ++ ds) (clauses_from v m (i + length bs) [] (i + length bs) r))
line_read closed zero start cs i r h = absurd (omega arith)
line_read {v} closed (suc n) start cs i r h = (
  n,
  omega arith,
  from_stop v n start cs i 48 (10 ∷ r) (i + 2) (ap (within v) (line_end i r) ∙ within_stop v (i + 2))
      ∙ ap₂ (λ (x y : List ℕ). cons_clause x (clauses_from v n (i + 2) [] (i + 2) y)) (sym (append-nil cs)) (skip i (48 ∷ 10 ∷ []) r),
)
line_read (lit {bs = bs} {rest = rest} s g t) zero start cs i r h = absurd (omega (arith, h, length-append bs (32 ∷ rest)))
line_read {v} (lit {bs = bs} {rest = rest} {cs = ds} {c = c} s g t) (suc n) start cs i r h =
    let f = signed_first s in
    let w : bs ++ 32 ∷ rest ≡ (bs ++ 32 ∷ []) ++ rest = sym (append_assoc bs (32 ∷ []) rest) in
    let e₁ : (bs ++ 32 ∷ rest) ++ r ≡ (bs ++ 32 ∷ []) ++ (rest ++ r) = ap (λ (x : List ℕ). x ++ r) w ∙ append_assoc (bs ++ 32 ∷ []) rest r in
    let e₂ : (bs ++ 32 ∷ rest) ++ r ≡ bs ++ 32 ∷ (rest ++ r) = append_assoc bs (32 ∷ rest) r in
    let e₃ : (bs ++ 32 ∷ rest) ++ r ≡ f.0 ∷ (f.1 ++ 32 ∷ (rest ++ r)) = e₂ ∙ ap (λ (x : List ℕ). x ++ 32 ∷ (rest ++ r)) f.2 in
    let j = i + length bs + 1 in
    let k = i + length (bs ++ 32 ∷ []) in
    let jk : j ≡ k = omega (arith, length-append bs (32 ∷ [])) in
    let tk : within v (line_from i (f.0 ∷ (f.1 ++ 32 ∷ (rest ++ r)))) ≡ Some (Lit c j) =
    ap (λ (x : List ℕ). within v (line_from i x)) (sym e₃ ∙ e₂) ∙ ap (within v) (line_number s i (rest ++ r)) ∙ within_lit v c j g in
    let d : drop (j - i) (f.0 ∷ (f.1 ++ 32 ∷ (rest ++ r))) ≡ rest ++ r =
    ap₂ (λ (x : ℕ) (y : List ℕ). drop (x - i) y) jk (sym e₃ ∙ e₁) ∙ skip i (bs ++ 32 ∷ []) (rest ++ r) in
    let ih = line_read t n start (cs ++ c ∷ []) j r (omega (arith, h, length-append bs (32 ∷ rest), ap length f.2)) in
    let p : j + length rest ≡ i + length (bs ++ 32 ∷ rest) = omega (arith, length-append bs (32 ∷ rest)) in (
      ih.0,
      omega (arith, ih.1, length-append bs (32 ∷ rest)),
      ap (clauses_from v (suc n) start cs i) e₃
          ∙ from_lit v n start cs i f.0 (f.1 ++ 32 ∷ (rest ++ r)) c j tk
          ∙ ap (clauses_from v n start (cs ++ c ∷ []) j) d
          ∙ ih.2
          ∙ ap₂ (λ (x : List ℕ) (y : ℕ). cons_clause x (clauses_from v ih.0 y [] y r)) (append_assoc cs (c ∷ []) ds) p,
    )

pub lines_read : {v : ℕ} {l : List ℕ} {cls : List (List ℕ)} → Lines v l cls → (n i : ℕ) → length l ≤ n → clauses_from v n i [] i l ≡ clauses cls
unfolding cons_clause
lines_read {v} none n i h = from_none v n i [] i ∙ rw (eq-eqb i i refl)
lines_read {v} (line {bs = bs} {rest = rest} {cs = cs} {cls = cls} p t) n i h =
    let w = length-append bs rest in
    let q = line_read p n i [] i rest (omega arith) in
    q.2 ∙ ap (cons_clause cs) (lines_read t q.0 (i + length bs) (omega (arith, q.1)))

-- ---- what is read the grammar has

pub wrong_clauses : (i : ℕ) (cls : List (List ℕ)) → wrong_line i ≡ clauses cls → ⊥
wrong_clauses i cls e = let z : ◌≡◌ {A = ℕ} 0 1 = cc in omega arith

pub clauses_part : (xs ys : List (List ℕ)) → clauses xs ≡ clauses ys → xs ≡ ys
clauses_part xs ys e = cc

pub wrong_part : (i j : ℕ) → wrong_line i ≡ wrong_line j → i ≡ j
wrong_part i j e = cc

cons_clauses : (cs : List ℕ) (r : Clauses) (cls : List (List ℕ)) → cons_clause cs r ≡ clauses cls → (rest : List (List ℕ)) × (r ≡ clauses rest) × (cs ∷ rest
    ≡ cls)
unfolding cons_clause
cons_clauses cs (clauses rest) cls e = (rest, refl, clauses_part (cs ∷ rest) cls e)
cons_clauses cs (wrong_line i) cls e = absurd (wrong_clauses i cls e)

pub cons_wrong : (cs : List ℕ) (r : Clauses) (p : ℕ) → cons_clause cs r ≡ wrong_line p → r ≡ wrong_line p
unfolding cons_clause
cons_wrong cs (clauses rest) p e = absurd (wrong_clauses p (cs ∷ rest) (sym e))
cons_wrong cs (wrong_line i) p e = e

-- the rest of a file: it ends where a line would start; or the rest of a line is ahead, and then lines
pub data Ahead (v start i : ℕ) (cs l : List ℕ) (cls : List (List ℕ)) : Type 0 where
  over : i ≡ start → l ≡ [] → cls ≡ [] → Ahead v start i cs l cls
  on : {bs ds rest : List ℕ} {more : List (List ℕ)} → Line v bs ds → Lines v rest more → l ≡ bs ++ rest → cls ≡ (cs ++ ds) ∷ more → Ahead v start i cs l cls

-- a number and its blank in front
module _ (v start i j : ℕ) (cs l m sb : List ℕ) (c : ℕ) (s : Signed sb c) (g : magnitude c ≤ v) (e : l ≡ sb ++ 32 ∷ m) (before : start < j) where
  ahead_lit : (cls : List (List ℕ)) → Ahead v start j (cs ++ c ∷ []) m cls → Ahead v start i cs l cls
  ahead_lit cls (over p q r) = absurd (omega arith)
  ahead_lit cls (on {bs = bs} {ds = ds} {rest = rest} {more = more} t u p q) =
      on (lit s g t) u (e ∙ ap (λ (x : List ℕ). sb ++ 32 ∷ x) p ∙ sym (append_assoc sb (32 ∷ bs) rest))
      (q ∙ ap (λ (x : List ℕ). x ∷ more) (append_assoc cs (c ∷ []) ds))

-- a line's end in front
ahead_stop : (v start i j : ℕ) (cs l m : List ℕ) (cls rest : List (List ℕ)) → l ≡ 48 ∷ 10 ∷ m → cs ∷ rest ≡ cls → Ahead v j j [] m rest
    → Ahead v start i cs l cls
ahead_stop v start i j cs l m cls rest e h (over p q r) =
    on closed none (e ∙ ap (λ (x : List ℕ). 48 ∷ 10 ∷ x) q) (sym h ∙ ap₂ (λ (x : List ℕ) (y : List (List ℕ)). x ∷ y) (sym (append-nil cs)) r)
ahead_stop v start i j cs l m cls rest e h (on {bs = bs} {ds = ds} {rest = r} {more = more} t u p q) =
    on closed (line t u) (e ∙ ap (λ (x : List ℕ). 48 ∷ 10 ∷ x) p) (sym h ∙ ap₂ (λ (x : List ℕ) (y : List (List ℕ)). x ∷ y) (sym (append-nil cs)) q)

ahead_none : (v n start : ℕ) (cs : List ℕ) (i : ℕ) (cls : List (List ℕ)) → clauses_from v n start cs i [] ≡ clauses cls → Ahead v start i cs [] cls
ahead_none v n start cs i cls e = go (eqb i start) refl (sym (from_none v n start cs i) ∙ e)
  where
    go : (t : Bool) → eqb i start ≡ t → pick t (clauses []) (wrong_line start) ≡ clauses cls → Ahead v start i cs [] cls
    go true t e = over (eqb-true i start t) refl (sym (clauses_part [] cls e))
    go false t e = absurd (wrong_clauses start cls e)

pub clauses_sound : (v n start : ℕ) (cs : List ℕ) (i : ℕ) (l : List ℕ) (cls : List (List ℕ)) → start ≤ i → clauses_from v n start cs i l ≡ clauses cls
    → Ahead v start i cs l cls
unfolding clauses_from
clauses_sound v zero start cs i [] cls h e = ahead_none v zero start cs i cls e
clauses_sound v zero start cs i (b ∷ l) cls h e = absurd (wrong_clauses start cls e)
clauses_sound v (suc n) start cs i [] cls h e = ahead_none v (suc n) start cs i cls e
clauses_sound v (suc n) start cs i (b ∷ l) cls h e = go (within v (line_from i (b ∷ l))) refl (λ start' cs' j m. clauses_sound v n start' cs' j m)
  where
    go : (t : Option Token) → within v (line_from i (b ∷ l)) ≡ t
        → ((start' : ℕ) (cs' : List ℕ) (j : ℕ) (m : List ℕ) (cls : List (List ℕ)) → start' ≤ j → clauses_from v n start' cs' j m ≡ clauses cls
        → Ahead v start' j cs' m cls)
        → Ahead v start i cs (b ∷ l) cls
    go (Some (Lit c j)) t ih =
        let w = within_was v (line_from i (b ∷ l)) c j t in
        let r = line_sound i (b ∷ l) c j w.0 in
        let sb = r.0 in
        let m = r.1 in
        let d = rest_is i j (b ∷ l) (sb ++ 32 ∷ []) m (r.3 ∙ sym (append_assoc sb (32 ∷ []) m)) (omega (arith, r.4, length-append sb (32 ∷ []))) in
        let q = ap (clauses_from v n start (cs ++ c ∷ []) j) (sym d) ∙ sym (from_lit v n start cs i b l c j t) ∙ e in
        ahead_lit v start i j cs (b ∷ l) m sb c r.2 w.1 r.3 (omega (arith, r.4)) cls (ih start (cs ++ c ∷ []) j m cls (omega (arith, r.4)) q)
    go (Some (Stop j)) t ih =
        let r = line_stop i (b ∷ l) j (within_stops v (line_from i (b ∷ l)) j t) in
        let m = r.rest in
        let d = rest_is i j (b ∷ l) (48 ∷ 10 ∷ []) m r.split r.place in
        let q = cons_clauses cs (clauses_from v n j [] j (drop (j - i) (b ∷ l))) cls (sym (from_stop v n start cs i b l j t) ∙ e) in
        ahead_stop v start i j cs (b ∷ l) m cls q.0 r.split q.2
        (ih j [] j m q.0 (omega arith) (ap (clauses_from v n j [] j) (sym d) ∙ q.1))
    go None t ih = absurd (wrong_clauses start cls (sym (from_bad v n start cs i b l t) ∙ e))

pub lines_sound : (v n i : ℕ) (l : List ℕ) (cls : List (List ℕ)) → clauses_from v n i [] i l ≡ clauses cls → Lines v l cls
lines_sound v n i l cls e = go (clauses_sound v n i [] i l cls (omega arith) e)
  where
    go : Ahead v i i [] l cls → Lines v l cls
    go (over p q r) = rw (q, r) none
    go (on t u p q) = rw (p, q) (line t u)

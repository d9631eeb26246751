-- The fill, turn by turn: where all lines are right, each token is a literal or a line's end, and there is room for it.
use Prim.Native.Nat.{ℕ, ◌+◌, ◌≤◌, ◌<◌}
use mathlib.Core.Path.{◌≡◌, refl, sym, ap, ap₂, ◌∙◌, subst}
use mathlib.Core.List.{List, [], ◌∷◌, ◌++◌}
use mathlib.Core.Bool.{Bool, true, false}
use mathlib.Core.Logic.{⊎_elim}
use native.Mathlib.Omega.{arith}
use lib.Dec.{eqb}
use lib.ListN.{length, get_or, drop, set, length-append}
use lib.Seq.{get_or-drop}
use borrow.Author.Tests.{eqb-true, eqb-false}
use Rattle.base.proofs.MemberLaws.{word_inside}
use Rattle.base.proofs.Truth.{split}
use Rattle.drat.specs.Filled.{codes_of}
use Rattle.drat.specs.Reading.{signed_from}
use Rattle.drat.specs.declared.Token.{Token}
use Rattle.drat.specs.declared.Token.TheVariants.{Lit, Stop}
use Rattle.drat.proofs.Complete.{signed_first}
use Rattle.drat.proofs.Sound.{lit_parts}
use Rattle.drat_read.specs.Known.{IsNumber}
use Rattle.dimacs.specs.Reading.{line_from, within, Clauses, clauses, wrong_line, clauses_from, clauses_at}
use Rattle.dimacs.specs.Calls.{adds, all_codes, tallied, LineScan}
use Rattle.dimacs.proofs.LineTokens.{line_sound, line_signed, line_stop}
use Rattle.dimacs.proofs.LineLaws.{within_was, within_stops, wrong_clauses, clauses_part, Ahead, over, on, clauses_sound}
use Rattle.dimacs.proofs.Turns.{prepend, Turn, turn_lit, turn_stop, turn_bad, turn_end, turn_cut, lit_moves, stop_moves, codes_kept, ends_kept}
use Rattle.dimacs_read.specs.Known.{LinesFit}
use Rattle.std.specs.Prelude.{Option, Some, None, Result, Ok, Err}
use Rattle.drat.specs.declared.Size.{Size}
use Rattle.drat.specs.Filled.{size}

-- ---- how many words the clauses take

codes_append : (xs ys : List (List ℕ)) → length (all_codes (xs ++ ys)) ≡ length (all_codes xs) + length (all_codes ys)
unfolding adds codes_of
codes_append [] ys = omega arith
codes_append (c ∷ xs) ys = omega (arith, codes_append xs ys, length-append c (all_codes (xs ++ ys)), length-append c (all_codes xs))

front : (cs ds : List ℕ) (more : List (List ℕ)) → length cs ≤ length (all_codes ((cs ++ ds) ∷ more))
unfolding adds codes_of
front cs ds more = omega (arith, length-append (cs ++ ds) (all_codes more), length-append cs ds)

prepend_part : (ds : List (List ℕ)) (r : Clauses) (cls : List (List ℕ)) → prepend ds r ≡ clauses cls → (rest : List (List ℕ)) × (r ≡ clauses rest) ×
    (ds ++ rest ≡ cls)
unfolding prepend
prepend_part ds (clauses rest) cls e = (rest, refl, clauses_part (ds ++ rest) cls e)
prepend_part ds (wrong_line i) cls e = absurd (wrong_clauses i cls e)

fault_whole : (p n m : ℕ) → Err p ≡ Ok (size n m) → ⊥
fault_whole p n m e = let z : ◌≡◌ {A = ℕ} 0 1 = cc in omega arith

-- what stands at a place of a line that is right
pub data TokenHere (s : List ℕ) (v at : ℕ) : Type 0 where
  lit_here : (c j : ℕ) → (get_or s at 0 ≡ 48 → ⊥) → within v (line_from at (drop at s)) ≡ Some (Lit c j) → TokenHere s v at
  stop_here : get_or s at 0 ≡ 48 → within v (line_from at (drop at s)) ≡ Some (Stop (at + 2)) → TokenHere s v at

module _ (s : List ℕ) (v from : ℕ) (codes₀ ends₀ : List ℕ) (f : LinesFit s v from (length codes₀) (length ends₀)) where
  -- a wrong line is none of these
  not_wrong : (codes ends : List ℕ) (p : ℕ) → LineScan s v from codes₀ ends₀ codes ends (Err p) → ⊥
  unfolding tallied
  not_wrong codes ends p l = fault_whole p (length (all_codes f.cls)) (length f.cls) (l.answer ∙ ap tallied f.reads)

  module _ (codes ends : List ℕ) (start at n m : ℕ) (t : Turn s v from codes₀ ends₀ codes ends start at n m) where
    -- the words that were filled have room
    pub turn_fits : (n ≤ length codes₀) × (m ≤ length ends₀)
    turn_fits = go (clauses_sound v t.depth start t.now at (drop at s) rest t.within_s.0 q.1)
      where
        q : (rest : List (List ℕ)) × (clauses_from v t.depth start t.now at (drop at s) ≡ clauses rest) × (t.done ++ rest ≡ f.cls)
        q = prepend_part t.done (clauses_from v t.depth start t.now at (drop at s)) f.cls (sym t.read ∙ f.reads)

        rest : List (List ℕ)
        rest = q.0

        codes_are : length (all_codes t.done) + length (all_codes rest) ≤ length codes₀
        codes_are = omega (arith, f.codes_fit, codes_append t.done rest, ap (λ (x : List (List ℕ)). length (all_codes x)) q.2)

        ends_are : length t.done + length rest ≤ length ends₀
        ends_are = omega (arith, f.ends_fit, length-append t.done rest, ap length q.2)

        go : Ahead v start at t.now (drop at s) rest → (n ≤ length codes₀) × (m ≤ length ends₀)
        go (over a b c) = (omega (arith, t.count, codes_are, ap length (t.fresh (sym a))), omega (arith, t.count, ends_are))
        go (on {ds = ds} {more = more} a b c d) =
            (omega (arith, t.count, codes_are, front t.now ds more, ap (λ (x : List (List ℕ)). length (all_codes x)) d), omega (arith, t.count, ends_are))

    pub token_here : at < length s → TokenHere s v at
    token_here h = go (within v (line_from at (drop at s))) refl
      where
        first : (l : List ℕ) → drop at s ≡ l → get_or s at 0 ≡ get_or l 0 0
        first l e = let z : at ≡ at + 0 = omega arith in ap (λ (x : ℕ). get_or s x 0) z ∙ sym (get_or-drop at s 0 0) ∙ ap (λ (x : List ℕ). get_or x 0 0) e

        go : (u : Option Token) → within v (line_from at (drop at s)) ≡ u → TokenHere s v at
        go (Some (Lit c j)) e =
            let r = line_sound at (drop at s) c j (within_was v (line_from at (drop at s)) c j e).0 in
            let w = signed_first r.2 in
            let z : get_or s at 0 ≡ w.0 = first _ (r.3 ∙ ap (λ (x : List ℕ). x ++ 32 ∷ r.1) w.2) in
            lit_here c j (λ x. w.4 (sym z ∙ x)) e
        go (Some (Stop j)) e =
            let r = line_stop at (drop at s) j (within_stops v (line_from at (drop at s)) j e) in
            stop_here (first _ r.split) (e ∙ ap (λ (x : ℕ). Some (Stop x)) (omega (arith, r.place)))
        go None e = absurd (not_wrong codes ends start (turn_bad s v from codes₀ ends₀ codes ends start at n m t h e codes ends))

    -- all is filled
    pub turn_done : length s ≤ at → LineScan s v from codes₀ ends₀ codes ends (tallied (clauses_at s v from))
    turn_done h = go (eqb start at) refl
      where
        go : (u : Bool) → eqb start at ≡ u → LineScan s v from codes₀ ends₀ codes ends (tallied (clauses_at s v from))
        go true e =
            let l = turn_end s v from codes₀ ends₀ codes ends start at n m t h (eqb-true start at e) in
            subst (λ (r : Result Size ℕ). LineScan s v from codes₀ ends₀ codes ends r) l.answer l
        go false e = absurd (not_wrong codes ends start (turn_cut s v from codes₀ ends₀ codes ends start at n m t h (eqb-false start at e) codes ends))

    -- a line that is not at its start goes on
    pub goes_on : start < at → at < length s
    goes_on h = ⊎_elim (λ (k : at < length s). k)
        (λ (k : length s ≤ at). absurd (not_wrong codes ends start
        (turn_cut s v from codes₀ ends₀ codes ends start at n m t k (λ e. omega (arith, e, h)) codes ends))) (split at (length s))

    -- where no 0 stands there is a literal, and where one stands a line's end
    is_lit : at < length s → (get_or s at 0 ≡ 48 → ⊥) → (c : ℕ) × (j : ℕ) × (within v (line_from at (drop at s)) ≡ Some (Lit c j))
    is_lit h k = go (token_here h)
      where
        go : TokenHere s v at → (c : ℕ) × (j : ℕ) × (within v (line_from at (drop at s)) ≡ Some (Lit c j))
        go (lit_here c j a e) = (c, j, e)
        go (stop_here a e) = absurd (k a)

    is_stop : at < length s → get_or s at 0 ≡ 48 → within v (line_from at (drop at s)) ≡ Some (Stop (at + 2))
    is_stop h k = go (token_here h)
      where
        go : TokenHere s v at → within v (line_from at (drop at s)) ≡ Some (Stop (at + 2))
        go (lit_here c j a e) = absurd (a k)
        go (stop_here a e) = e

    pub lit_known : at < length s → (get_or s at 0 ≡ 48 → ⊥) → IsNumber s (signed_from at (drop at s))
    lit_known h k =
        let q = is_lit h k in
        let w = line_signed s at q.0 q.1 (within_was v (line_from at (drop at s)) q.0 q.1 q.2).0 in
        record { code = q.0; next = w.0; is = w.1; inside = word_inside s w.0 (λ z. omega (arith, z, w.3)); below = omega (arith, w.3) }

    lit_within : at < length s → (get_or s at 0 ≡ 48 → ⊥) → (c k : ℕ) → signed_from at (drop at s) ≡ Some (Lit c k) → within v (line_from at (drop at s)) ≡ Some (Lit c (k + 1))
    lit_within h n c k e =
        let q = is_lit h n in
        let w = line_signed s at q.0 q.1 (within_was v (line_from at (drop at s)) q.0 q.1 q.2).0 in
        let z = lit_parts q.0 w.0 c k (sym w.1 ∙ e) in
        q.2 ∙ ap₂ (λ (x y : ℕ). Some (Lit x y)) z.0 (omega (arith, z.1, w.2))

    -- a literal is stored
    pub lit_step : at < length s → (get_or s at 0 ≡ 48 → ⊥) → (c k : ℕ) → signed_from at (drop at s) ≡ Some (Lit c k)
        → (start < k + 1) × (at < k + 1) × (k + 1 ≤ length s) × Turn s v from codes₀ ends₀ (set codes n c) ends start (k + 1) (n + 1) m
    lit_step h z c k e =
        let w = lit_within h z c k e in
        let mv = lit_moves s v from codes₀ ends₀ codes ends start at n m t c (k + 1) w in
        (omega (arith, t.within_s, mv), mv.0, mv.1, turn_lit s v from codes₀ ends₀ codes ends start at n m t h c (k + 1) w)

    -- an end is stored
    pub stop_step : at < length s → get_or s at 0 ≡ 48 → (at + 2 ≤ length s) × Turn s v from codes₀ ends₀ codes (set ends m n) (at + 2) (at + 2) n (m + 1)
    stop_step h k =
        let w = is_stop h k in
        ((stop_moves s v from codes₀ ends₀ codes ends start at n m t (at + 2) w).1, turn_stop s v from codes₀ ends₀ codes ends start at n m t h (at + 2) w)

  module _ (codes ends : List ℕ) (start at n m : ℕ) (t : Turn s v from codes₀ ends₀ codes ends start at n m) where
    -- after a literal the line goes on
    pub lit_turn : at < length s → (get_or s at 0 ≡ 48 → ⊥) → (c k : ℕ) → signed_from at (drop at s) ≡ Some (Lit c k)
        → (k + 1 < length s) × Turn s v from codes₀ ends₀ (set codes n c) ends start (k + 1) (n + 1) m
    lit_turn h z c k e =
        let w = lit_step codes ends start at n m t h z c k e in (goes_on (set codes n c) ends start (k + 1) (n + 1) m w.3 w.0, w.3)

    -- there is room for it
    pub lit_room : at < length s → (get_or s at 0 ≡ 48 → ⊥) → n < length codes
    lit_room h k =
        let q = lit_known codes ends start at n m t h k in
        let w = lit_step codes ends start at n m t h k q.code q.next q.is in
        let z = turn_fits (set codes n q.code) ends start (q.next + 1) (n + 1) m w.3 in
        omega (arith, z.0, codes_kept s v from codes₀ ends₀ codes ends start at n m t)

    pub stop_room : at < length s → get_or s at 0 ≡ 48 → m < length ends
    stop_room h k =
        let w = stop_step codes ends start at n m t h k in
        let z = turn_fits codes (set ends m n) (at + 2) (at + 2) n (m + 1) w.1 in
        omega (arith, z.1, ends_kept s v from codes₀ ends₀ codes ends start at n m t)

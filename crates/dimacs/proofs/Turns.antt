-- The loop over the tokens of the lines, turn by turn: what holds before a turn holds after it, and what the ways out answer.
use Prim.Native.Nat.{ℕ, zero, suc, ◌+◌, ◌-◌, ◌≤◌, ◌<◌}
use mathlib.Core.Path.{◌≡◌, refl, sym, ap, ap₂, ◌∙◌}
use mathlib.Core.List.{List, [], ◌∷◌, ◌++◌, append_assoc, append-nil}
use native.Mathlib.Omega.{arith}
use lib.Dec.{eqb}
use lib.ListN.{length, get_or, drop, set, length-append, length-drop, drop_of_length-le}
use lib.Seq.{sets, length-sets, drop-drop}
use borrow.Author.Tests.{eq-eqb, ne_eqb}
use Rattle.base.specs.Choice.{pick}
use Rattle.base.proofs.SetsLaws.{store_next}
use Rattle.drat.specs.Grammar.{step_of}
use Rattle.drat.specs.Filled.{codes_of, ends_from}
use Rattle.drat.specs.declared.Kind.TheVariants.{Add}
use Rattle.drat.specs.declared.Token.TheVariants.{Lit, Stop}
use Rattle.drat.proofs.Steps.{next}
use Rattle.drat.proofs.Scanning.{codes_snoc, ends_snoc, ends_length}
use Rattle.dimacs.specs.Reading.{line_from, within, Clauses, clauses, wrong_line, cons_clause, clauses_from, clauses_at}
use Rattle.dimacs.specs.Calls.{adds, all_codes, all_ends, tallied, LineScan}
use Rattle.dimacs.proofs.LineTokens.{line_sound, line_stop}
use Rattle.dimacs.proofs.LineLaws.{within_was, within_stops, from_lit, from_stop, from_bad, from_none, wrong_clauses, clauses_part}
use Rattle.std.specs.Prelude.{Some, None, Ok, Err}
use Rattle.drat.specs.Filled.{size}

-- ---- clauses as the steps that add them

adds_length : (cls : List (List ℕ)) → length (adds cls) ≡ length cls
unfolding adds
adds_length [] = refl
adds_length (cs ∷ cls) = ap suc (adds_length cls)

adds_snoc : (cls : List (List ℕ)) (cs : List ℕ) → adds (cls ++ cs ∷ []) ≡ adds cls ++ step_of Add cs ∷ []
unfolding adds
adds_snoc [] cs = refl
adds_snoc (ds ∷ cls) cs = ap (λ l. step_of Add ds ∷ l) (adds_snoc cls cs)

-- what was read before, in front of the rest
unfoldable pub prepend : List (List ℕ) → Clauses → Clauses
prepend ds (clauses cls) = clauses (ds ++ cls)
prepend ds (wrong_line i) = wrong_line i

prepend_nil : (r : Clauses) → r ≡ prepend [] r
unfolding prepend
prepend_nil (clauses cls) = refl
prepend_nil (wrong_line i) = refl

prepend_snoc : (ds : List (List ℕ)) (cs : List ℕ) (r : Clauses) → prepend ds (cons_clause cs r) ≡ prepend (ds ++ cs ∷ []) r
unfolding prepend cons_clause
prepend_snoc ds cs (clauses cls) = ap clauses (sym (append_assoc ds (cs ∷ []) cls))
prepend_snoc ds cs (wrong_line i) = refl

-- ---- the turns

-- in the line that starts at `start`, before the token at place `at`: the clauses `done` and this line's literals `now` were read
pub record Turn (s : List ℕ) (v from : ℕ) (codes₀ ends₀ codes ends : List ℕ) (start at n m : ℕ) : Type 0 where
  pub done : List (List ℕ)
  pub now : List ℕ
  pub depth : ℕ
  pub enough : length (drop at s) ≤ depth
  pub fresh : start ≡ at → now ≡ []
  pub within_s : (start ≤ at) × (at ≤ length s)
  pub small : (n ≤ at) × (m ≤ at)
  pub read : clauses_at s v from ≡ prepend done (clauses_from v depth start now at (drop at s))
  pub count : (n ≡ length (all_codes done) + length now) × (m ≡ length done)
  pub codes_held : codes ≡ sets codes₀ 0 (all_codes done ++ now)
  pub ends_held : ends ≡ sets ends₀ 0 (all_ends done)

pub turn_start : (s : List ℕ) (v from : ℕ) (codes ends : List ℕ) → from ≤ length s → Turn s v from codes ends codes ends from from 0 0
unfolding adds codes_of ends_from
turn_start s v from codes ends h = record {
  done = [];
  now = [];
  depth = length s;
  enough = omega (arith, length-drop from s);
  fresh = λ e. refl;
  within_s = (omega arith, h);
  small = (omega arith, omega arith);
  read = prepend_nil (clauses_at s v from);
  count = (refl, refl);
  codes_held = refl;
  ends_held = refl;
}

module _ (s : List ℕ) (v from : ℕ) (codes₀ ends₀ codes ends : List ℕ) (start at n m : ℕ) (t : Turn s v from codes₀ ends₀ codes ends start at n m) where
  -- the slices keep their lengths
  pub codes_kept : length codes ≡ length codes₀
  codes_kept = ap length t.codes_held ∙ length-sets codes₀ 0 (all_codes t.done ++ t.now)

  pub ends_kept : length ends ≡ length ends₀
  ends_kept = ap length t.ends_held ∙ length-sets ends₀ 0 (all_ends t.done)

  -- a byte is left, so there is depth for it
  record Deep : Type 0 where
    depth : ℕ
    less : length (drop at s) ≤ suc depth
    read : clauses_at s v from ≡ prepend t.done (clauses_from v (suc depth) start t.now at (get_or s at 0 ∷ drop (at + 1) s))

  deeper : at < length s → (d : ℕ) → d ≡ t.depth → Deep
  deeper h zero e = absurd (omega (arith, e, t.enough, length-drop at s))
  deeper h (suc d) e = record {
    depth = d;
    less = omega (arith, e, t.enough);
    read = t.read ∙ ap₂ (λ (x : ℕ) (y : List ℕ). prepend t.done (clauses_from v x start t.now at y)) (sym e) (next s at h);
  }

  -- past what was read
  behind : (j : ℕ) → at ≤ j → at < length s → drop (j - at) (get_or s at 0 ∷ drop (at + 1) s) ≡ drop j s
  behind j h l =
      let e : at + (j - at) ≡ j = omega arith in
      ap (drop (j - at)) (sym (next s at l)) ∙ drop-drop (j - at) at s ∙ ap (λ (k : ℕ). drop k s) e

  pub lit_moves : (c j : ℕ) → within v (line_from at (drop at s)) ≡ Some (Lit c j) → (at < j) × (j ≤ length s)
  lit_moves c j e =
      let r = line_sound at (drop at s) c j (within_was v (line_from at (drop at s)) c j e).0 in
      (omega (arith, r.4), omega (arith, r.4, ap length r.3 ∙ length-append r.0 (32 ∷ r.1), length-drop at s, t.within_s))

  pub stop_moves : (j : ℕ) → within v (line_from at (drop at s)) ≡ Some (Stop j) → (at + 1 < j) × (j ≤ length s)
  stop_moves j e =
      let r = line_stop at (drop at s) j (within_stops v (line_from at (drop at s)) j e) in
      (omega (arith, r.place), omega (arith, r.place, ap length r.split, length-drop at s, t.within_s))

  pub turn_lit : at < length s → (c j : ℕ) → within v (line_from at (drop at s)) ≡ Some (Lit c j)
      → Turn s v from codes₀ ends₀ (set codes n c) ends start j (n + 1) m
  turn_lit h c j e =
      let d = deeper h t.depth refl in
      let mv = lit_moves c j e in
      let e' = ap (λ (l : List ℕ). within v (line_from at l)) (sym (next s at h)) ∙ e in
      record {
        done = t.done;
        now = t.now ++ c ∷ [];
        depth = d.depth;
        enough = omega (arith, d.less, length-drop at s, length-drop j s, mv);
        fresh = λ q. absurd (omega (arith, t.within_s, mv));
        within_s = (omega (arith, t.within_s, mv), mv.1);
        small = (omega (arith, t.small, mv), omega (arith, t.small, mv));
        read = d.read
            ∙ ap (prepend t.done) (from_lit v d.depth start t.now at (get_or s at 0) (drop (at + 1) s) c j e'
            ∙ ap (clauses_from v d.depth start (t.now ++ c ∷ []) j) (behind j (omega (arith, mv)) h));
        count = (omega (arith, t.count, length-append t.now (c ∷ [])), t.count.1);
        codes_held = store_next codes₀ _ (all_codes t.done ++ t.now) 0 n c t.codes_held
            (omega (arith, t.count, length-append (all_codes t.done) t.now))
            ∙ ap (sets codes₀ 0) (append_assoc (all_codes t.done) t.now (c ∷ []));
        ends_held = t.ends_held;
      }

  pub turn_stop : at < length s → (j : ℕ) → within v (line_from at (drop at s)) ≡ Some (Stop j) → Turn s v from codes₀ ends₀ codes (set ends m n) j j n (m + 1)
  turn_stop h j e =
      let d = deeper h t.depth refl in
      let mv = stop_moves j e in
      let e' = ap (λ (l : List ℕ). within v (line_from at l)) (sym (next s at h)) ∙ e in
      let a = adds_snoc t.done t.now in
      let c : all_codes (t.done ++ t.now ∷ []) ≡ all_codes t.done ++ t.now = ap codes_of a ∙ codes_snoc (adds t.done) (step_of Add t.now) in
      let k : n ≡ 0 + length (all_codes t.done) + length t.now = omega (arith, t.count) in
      record {
        done = t.done ++ t.now ∷ [];
        now = [];
        depth = d.depth;
        enough = omega (arith, d.less, length-drop at s, length-drop j s, mv);
        fresh = λ q. refl;
        within_s = (omega arith, mv.1);
        small = (omega (arith, t.small, mv), omega (arith, t.small, mv));
        read = d.read
            ∙ ap (prepend t.done) (from_stop v d.depth start t.now at (get_or s at 0) (drop (at + 1) s) j e'
            ∙ ap (λ (l : List ℕ). cons_clause t.now (clauses_from v d.depth j [] j l)) (behind j (omega (arith, mv)) h))
            ∙ prepend_snoc t.done t.now (clauses_from v d.depth j [] j (drop j s));
        count = (
          omega (arith, t.count, ap length c ∙ length-append (all_codes t.done) t.now),
          omega (arith, t.count, length-append t.done (t.now ∷ [])),
        );
        codes_held = t.codes_held ∙ ap (sets codes₀ 0) (sym c ∙ sym (append-nil (all_codes (t.done ++ t.now ∷ []))));
        ends_held = ap (set ends m) k
            ∙ store_next ends₀ _ (all_ends t.done) 0 m (0 + length (all_codes t.done) + length t.now) t.ends_held
            (omega (arith, t.count, ends_length 0 (adds t.done), adds_length t.done))
            ∙ ap (sets ends₀ 0) (sym (ap (ends_from 0) a ∙ ends_snoc 0 (adds t.done) (step_of Add t.now)));
      }

  -- a wrong line
  stopped : clauses_at s v from ≡ wrong_line start → (codes' ends' : List ℕ) → LineScan s v from codes₀ ends₀ codes' ends' (Err start)
  unfolding tallied
  stopped e codes' ends' = record { answer = sym (ap tallied e); filled = λ cls q. absurd (wrong_clauses start cls (sym e ∙ q)) }

  pub turn_bad : at < length s → within v (line_from at (drop at s)) ≡ None → (codes' ends' : List ℕ) → LineScan s v from codes₀ ends₀ codes' ends' (Err start)
  unfolding prepend
  turn_bad h e =
      let d = deeper h t.depth refl in
      let e' = ap (λ (l : List ℕ). within v (line_from at l)) (sym (next s at h)) ∙ e in
      stopped (d.read ∙ ap (prepend t.done) (from_bad v d.depth start t.now at (get_or s at 0) (drop (at + 1) s) e'))

  -- the file's end
  none_left : length s ≤ at → clauses_at s v from ≡ prepend t.done (pick (eqb at start) (clauses []) (wrong_line start))
  none_left h = t.read ∙ ap (prepend t.done) (ap (clauses_from v t.depth start t.now at) (drop_of_length-le s h) ∙ from_none v t.depth start
      t.now at)

  pub turn_cut : length s ≤ at → (start ≡ at → ⊥) → (codes' ends' : List ℕ) → LineScan s v from codes₀ ends₀ codes' ends' (Err start)
  unfolding prepend
  turn_cut h g = stopped (none_left h ∙ rw (ne_eqb at start (λ q. g (sym q))))

  -- where a line would start
  pub turn_end : length s ≤ at → start ≡ at → LineScan s v from codes₀ ends₀ codes ends (Ok (size n m))
  unfolding prepend tallied
  turn_end h g =
      let z = t.fresh g in
      let p : clauses_at s v from ≡ clauses t.done = none_left h ∙ rw (eq-eqb at start (sym g)) (ap clauses (append-nil t.done)) in
      let w : n ≡ length (all_codes t.done) = omega (arith, t.count, ap length z) in
      record {
        answer = ap₂ (λ (x y : ℕ). Ok (size x y)) w t.count.1 ∙ sym (ap tallied p);
        filled = λ cls q.
            let e = clauses_part t.done cls (sym p ∙ q) in (
              t.codes_held ∙ ap (λ (x : List ℕ). sets codes₀ 0 (all_codes t.done ++ x)) z
                  ∙ ap (sets codes₀ 0) (append-nil (all_codes t.done) ∙ ap (λ x. all_codes x) e),
              t.ends_held ∙ ap (λ x. sets ends₀ 0 (all_ends x)) e,
            );
      }

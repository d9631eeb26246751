-- What is counted in bytes that spell steps: their literals and their steps.
use Prim.Native.Nat.{ℕ, ◌+◌, ◌*◌, ◌≤◌, ◌<◌}
use mathlib.Core.Bool.{Bool, true, false, ◌&&◌}
use mathlib.Core.List.{List, [], ◌∷◌, ◌++◌, append_assoc, append-nil}
use mathlib.Core.Logic.{◌⊎◌, inl, inr, ⊎_elim}
use mathlib.Core.Path.{◌≡◌, refl, sym, ap, ap₂, ◌∙◌}
use lib.Dec.{ltb}
use lib.ListN.{length, length-append}
use native.Mathlib.Omega.{arith}
use borrow.Author.Tests.{lt-ltb, le-ltb}
use Rattle.base.proofs.BelowLaws.{and_not_left, and_not_right}
use Rattle.base.specs.Choice.{pick}
use Rattle.drat.proofs.Numerals.{is_in_range, below_range, above_range}
use Rattle.drat.specs.Filled.{codes_of}
use Rattle.drat.specs.Grammar.{Step, Seps, no_seps, sep_then, Gap, gap, text_lead, no_lead, Free, at_end, at_sep, Begins, bare, dee, letter_a, letter_d}
use Rattle.drat.specs.Grammar.{Signed, plus, minus, Number, spaced, code, Body, last, lit, Spells, none, step}
use Rattle.drat.specs.Numeral.{in_range, decimal, leb128, Numeral, one, more}
use Rattle.drat.specs.declared.Format.TheVariants.{Text, Binary}
use Rattle.drat.specs.declared.Format.{Format}
use Rattle.drat.specs.declared.Kind.TheVariants.{Add, Delete}
use Rattle.drat.specs.declared.Kind.{Kind}
use Rattle.drat_judge.specs.Local.{tally, starts, steps_by, lits_by}
use Rattle.drat_judge.proofs.NextLaws.{sep_low}

-- ---- bytes from lo to hi
pub tally_append : (lo hi : ℕ) (a b : List ℕ) → tally lo hi (a ++ b) ≡ tally lo hi a + tally lo hi b
unfolding tally
tally_append lo hi [] b = omega arith
tally_append lo hi (x ∷ a) b = let h = tally_append lo hi a b in omega arith

-- one byte that counts, or not
tally_in : (lo hi x : ℕ) (l : List ℕ) → lo ≤ x → x ≤ hi → tally lo hi (x ∷ l) ≡ 1 + tally lo hi l
unfolding tally
tally_in lo hi x l h k = ap (λ (t : Bool). pick t 1 0 + tally lo hi l) (is_in_range lo hi x h k)

tally_out : (lo hi x : ℕ) (l : List ℕ) → (x < lo) ⊎ (hi < x) → tally lo hi (x ∷ l) ≡ tally lo hi l
unfolding tally
tally_out lo hi x l (inl h) = ap (λ (t : Bool). pick t 1 0 + tally lo hi l) (below_range lo hi x h) ∙ omega arith
tally_out lo hi x l (inr h) = ap (λ (t : Bool). pick t 1 0 + tally lo hi l) (above_range lo hi x h) ∙ omega arith

tally_none : (lo hi : ℕ) → tally lo hi [] ≡ 0
unfolding tally
tally_none lo hi = refl

far : (d lo hi : ℕ) → d < 10 → (hi < 48) ⊎ (57 < lo) → (48 + d < lo) ⊎ (hi < 48 + d)
far d lo hi q (inl h) = inr (omega arith)
far d lo hi q (inr h) = inl (omega arith)

-- a decimal number has digits only
decimal_none : {bs : List ℕ} {v : ℕ} → Numeral decimal bs v → (lo hi : ℕ) → (hi < 48) ⊎ (57 < lo) → tally lo hi bs ≡ 0
decimal_none (one {d = d} p q) lo hi h = tally_out lo hi (48 + d) [] (far d lo hi q h) ∙ tally_none lo hi
decimal_none (more {d = d} {bs = bs} q n) lo hi h =
    tally_append lo hi bs ((48 + d) ∷ []) ∙ ap₂ (λ (x y : ℕ). x + y) (decimal_none n lo hi h) (tally_out lo hi (48 + d) [] (far d lo hi q h) ∙ tally_none lo hi)

-- LEB128 has one byte below 128, its last, and that is no 0
leb_last : {bs : List ℕ} {v : ℕ} → Numeral leb128 bs v → (tally 0 0 bs ≡ 0) × (tally 0 127 bs ≡ 1)
leb_last (one {d = d} p q) = (
  tally_out 0 0 d [] (inr p) ∙ tally_none 0 0,
  tally_in 0 127 d [] (omega arith) (omega arith)
      ∙ ap (λ (x : ℕ). 1 + x) (tally_none 0 127),
)
leb_last (more {d = d} {bs = bs} q n) =
    let h = leb_last n in
    (tally_out 0 0 (128 + d) bs (inr (omega arith)) ∙ h.0, tally_out 0 127 (128 + d) bs (inr (omega arith)) ∙ h.1)

-- a signed number beside its digits has a minus only
pub signed_none : {bs : List ℕ} {c : ℕ} → Signed bs c → (lo hi : ℕ) → (hi < 45) ⊎ (57 < lo) → tally lo hi bs ≡ 0
signed_none (plus h n) lo hi k = decimal_none n lo hi (⊎_elim (λ (g : hi < 45). inl (omega arith)) (λ (g : 57 < lo). inr g) k)
signed_none (minus {bs = bs} h n) lo hi k =
    tally_out lo hi 45 bs (⊎_elim (λ (g : hi < 45). inr g) (λ (g : 57 < lo). inl (omega arith)) k)
    ∙ decimal_none n lo hi (⊎_elim (λ (g : hi < 45). inl (omega arith)) (λ (g : 57 < lo). inr g) k)

-- ---- binary: what is counted in a step's literals and end, and in steps
number_lows : {bs : List ℕ} {c : ℕ} → Number Binary bs c → (tally 0 0 bs ≡ 0) × (tally 0 127 bs ≡ 1)
number_lows (code h n) = leb_last n

body_lows : {bs cs : List ℕ} → Body Binary bs cs → (tally 0 0 bs ≡ 1) × (tally 0 127 bs ≡ length cs + 1)
unfolding tally
body_lows last = (refl, refl)
body_lows (lit {bs = bs} {rest = r} n b) =
    let h = number_lows n in
    let k = body_lows b in
    (omega (arith, tally_append 0 0 bs r, h.0, k.0), omega (arith, tally_append 0 127 bs r, h.1, k.1))

steps_lows : {bs : List ℕ} {ss : List Step} → Spells Binary bs ss → (tally 0 0 bs ≡ length ss) × (tally 0 127 bs ≡ length (codes_of ss) + 2 * length ss)
unfolding tally codes_of
steps_lows (none no_lead) = (refl, refl)
steps_lows (step {bs = bs} {rest = r} {cs = cs} {ss = ss} no_lead letter_a b h t) =
    let k = body_lows b in
    let g = steps_lows t in
    (omega (arith, tally_append 0 0 bs r, k.0, g.0), omega (arith, tally_append 0 127 bs r, k.1, g.1, length-append cs (codes_of ss)))
steps_lows (step {bs = bs} {rest = r} {cs = cs} {ss = ss} no_lead letter_d b h t) =
    let k = body_lows b in
    let g = steps_lows t in
    (omega (arith, tally_append 0 0 bs r, k.0, g.0), omega (arith, tally_append 0 127 bs r, k.1, g.1, length-append cs (codes_of ss)))

-- ---- text: bytes from lo to hi that stand after a separator
-- one byte that counts, or not
starts_low : (lo hi p x : ℕ) (l : List ℕ) → p < 45 → starts lo hi p (x ∷ l) ≡ pick (in_range lo hi x) 1 0 + starts lo hi x l
unfolding starts
starts_low lo hi p x l h = ap (λ (t : Bool). pick (t && in_range lo hi x) 1 0 + starts lo hi x l) (lt-ltb p 45 h)

starts_high : (lo hi p x : ℕ) (l : List ℕ) → 45 ≤ p → starts lo hi p (x ∷ l) ≡ starts lo hi x l
unfolding starts
starts_high lo hi p x l h = ap (λ (t : Bool). pick t 1 0 + starts lo hi x l) (and_not_left (ltb p 45) (in_range lo hi x) (le-ltb p 45 h)) ∙ omega arith

starts_out : (lo hi p x : ℕ) (l : List ℕ) → (x < lo) ⊎ (hi < x) → starts lo hi p (x ∷ l) ≡ starts lo hi x l
unfolding starts
starts_out lo hi p x l (inl h) =
    ap (λ (t : Bool). pick t 1 0 + starts lo hi x l) (and_not_right (ltb p 45) (in_range lo hi x) (below_range lo hi x h)) ∙ omega arith
starts_out lo hi p x l (inr h) =
    ap (λ (t : Bool). pick t 1 0 + starts lo hi x l) (and_not_right (ltb p 45) (in_range lo hi x) (above_range lo hi x h)) ∙ omega arith

pick_none : (t : Bool) → pick {A = ℕ} t 0 0 ≡ 0
pick_none true = refl
pick_none false = refl

pick_sum : (t : Bool) (k m : ℕ) → pick t (k + m) 0 ≡ pick t k 0 + pick t m 0
pick_sum true k m = refl
pick_sum false k m = refl

pick_cons : (t : Bool) (c : ℕ) (cs : List ℕ) → pick t (length (c ∷ cs)) 0 ≡ pick t 1 0 + pick t (length cs) 0
pick_cons true c cs = omega arith
pick_cons false c cs = refl

-- n bytes of r count, where a separator is before r; where another byte is
abbrev AfterSep : ℕ → ℕ → List ℕ → ℕ → Type 0
AfterSep lo hi r n = (p : ℕ) → p < 45 → starts lo hi p r ≡ n

abbrev AfterOther : ℕ → ℕ → List ℕ → ℕ → Type 0
AfterOther lo hi r n = (p : ℕ) → 45 ≤ p → starts lo hi p r ≡ n

module _ (lo hi : ℕ) (hl : 45 ≤ lo) where
  -- separators do not count
  seps_starts : {ws : List ℕ} (r : List ℕ) (n : ℕ) → Seps ws → AfterSep lo hi r n → AfterSep lo hi (ws ++ r) n
  seps_starts r n no_seps h p k = h p k
  seps_starts r n (sep_then {b = b} {bs = bs} s w) h p k =
      starts_out lo hi p b (bs ++ r) (inl (omega (arith, sep_low s))) ∙ seps_starts r n w h b (sep_low s)

  gap_starts : {gs : List ℕ} (r : List ℕ) (n : ℕ) → Gap gs → AfterSep lo hi r n → AfterOther lo hi (gs ++ r) n
  gap_starts r n (gap {b = b} {bs = bs} s w) h p k =
      starts_out lo hi p b (bs ++ r) (inl (omega (arith, sep_low s))) ∙ seps_starts r n w h b (sep_low s)

  -- after a step's end
  free_starts : {r : List ℕ} (n : ℕ) → Free Text r → AfterSep lo hi r n → AfterOther lo hi r n
  unfolding starts
  free_starts n at_end h p k = h 10 (omega arith)
  free_starts n (at_sep {b = b} {bs = bs} s) h p k =
      starts_high lo hi p b bs k ∙ sym (starts_out lo hi 10 b bs (inl (omega (arith, sep_low s)))) ∙ h 10 (omega arith)

  -- a number counts by its first digit, which is no 0
  digits_starts : {bs : List ℕ} {v : ℕ} → Numeral decimal bs v → (r : List ℕ) (n : ℕ) → AfterOther lo hi r n → AfterOther lo hi (bs ++ r) n
  digits_starts (one {d = d} i j) r n h p k = starts_high lo hi p (48 + d) r k ∙ h (48 + d) (omega arith)
  digits_starts (more {d = d} {bs = bs} j m) r n h p k =
      ap (starts lo hi p) (append_assoc bs ((48 + d) ∷ []) r)
      ∙ digits_starts m ((48 + d) ∷ r) n (λ q o. starts_high lo hi q (48 + d) r o ∙ h (48 + d) (omega arith)) p k

  -- t: whether literals count. Closing 0s do.
  module _ (t : Bool) (he : (x : ℕ) → 49 ≤ x → x ≤ 57 → in_range lo hi x ≡ t) (hm : in_range lo hi 45 ≡ t) (hz : in_range lo hi 48 ≡ true) where
    first_starts : {bs : List ℕ} {v : ℕ} → Numeral decimal bs v → (r : List ℕ) (n : ℕ) → AfterOther lo hi r n → AfterSep lo hi (bs ++ r) (pick t 1 0 + n)
    first_starts (one {d = d} i j) r n h p k =
        starts_low lo hi p (48 + d) r k
        ∙ ap₂ (λ (u : Bool) (y : ℕ). pick u 1 0 + y) (he (48 + d) (omega arith) (omega arith)) (h (48 + d) (omega arith))
    first_starts (more {d = d} {bs = bs} j m) r n h p k =
        ap (starts lo hi p) (append_assoc bs ((48 + d) ∷ []) r)
        ∙ first_starts m ((48 + d) ∷ r) n (λ q o. starts_high lo hi q (48 + d) r o ∙ h (48 + d) (omega arith)) p k

    -- a signed number by its minus or its first digit
    signed_starts : {bs : List ℕ} {c : ℕ} → Signed bs c → (r : List ℕ) (n : ℕ) → AfterOther lo hi r n → AfterSep lo hi (bs ++ r) (pick t 1 0 + n)
    signed_starts (plus i m) r n h p k = first_starts m r n h p k
    signed_starts (minus {bs = bs} i m) r n h p k =
        starts_low lo hi p 45 (bs ++ r) k ∙ ap₂ (λ (u : Bool) (y : ℕ). pick u 1 0 + y) hm (digits_starts m r n h 45 (omega arith))

    body_starts : {bs cs : List ℕ} → Body Text bs cs → (r : List ℕ) (n : ℕ) → AfterOther lo hi r n → AfterSep lo hi (bs ++ r) (pick t (length cs) 0 + 1 + n)
    body_starts last r n h p k =
        starts_low lo hi p 48 r k ∙ ap₂ (λ (u : Bool) (y : ℕ). pick u 1 0 + y) hz (h 48 (omega arith)) ∙ omega (arith, pick_none t)
    body_starts (lit {rest = rest} {cs = cs} {c = c} (spaced {bs = bs} {gs = gs} s g) b) r n h p k =
        let m = pick t (length cs) 0 + 1 + n in
        let w = signed_starts s (gs ++ (rest ++ r)) m (gap_starts (rest ++ r) m g (λ o i. body_starts b r n h o i)) p k in
        ap (starts lo hi p) (append_assoc (bs ++ gs) rest r ∙ append_assoc bs gs (rest ++ r)) ∙ w ∙ omega (arith, pick_cons t c cs)

    -- nothing or a `d` before the literals, and separators before that
    begins_starts : (k : Kind) {os : List ℕ} (r : List ℕ) (n : ℕ) → hi < 100 → Begins Text k os → AfterSep lo hi r n → AfterSep lo hi (os ++ r) n
    begins_starts Add r n hh bare h p k = h p k
    begins_starts Delete r n hh (dee {gs = gs} g) h p k =
        starts_out lo hi p 100 (gs ++ r) (inr hh) ∙ gap_starts r n g h 100 (omega arith)

    steps_starts : {bs : List ℕ} {ss : List Step} → hi < 100 → Spells Text bs ss → AfterSep lo hi bs (pick t (length (codes_of ss)) 0 + length ss)
    unfolding starts codes_of
    steps_starts hh (none {ws = ws} (text_lead w)) p k =
        ap (starts lo hi p) (sym (append-nil ws)) ∙ seps_starts [] 0 w (λ q o. refl) p k ∙ omega (arith, pick_none t)
    steps_starts hh (step {os = os} {bs = bs} {rest = r} {cs = cs} {ss = ss} {k = kind} (text_lead w) o b f s) p k =
        let n = pick t (length (codes_of ss)) 0 + length ss in
        let m = pick t (length cs) 0 + 1 + n in
        let after : AfterOther lo hi r n = free_starts n f (λ q i. steps_starts hh s q i) in
        let whole : AfterSep lo hi (os ++ (bs ++ r)) m = begins_starts kind (bs ++ r) m hh o (body_starts b r n after) in
        let e = append_assoc os bs r in
        seps_starts ((os ++ bs) ++ r) m w (λ q i. ap (starts lo hi q) e ∙ whole q i) p k
        ∙ omega (arith, length-append cs (codes_of ss), pick_sum t (length cs) (length (codes_of ss)), ap (λ (y : ℕ). pick t y 0) (length-append cs (codes_of ss)))

-- so the counts are the numbers of literals and of steps
zeros : {bs : List ℕ} {ss : List Step} → Spells Text bs ss → starts 48 48 10 bs ≡ length ss
zeros s = steps_starts 48 48 (omega arith) false (λ x h k. above_range 48 48 x (omega arith)) refl refl (omega arith) s 10 (omega arith) ∙ omega arith

tokens : {bs : List ℕ} {ss : List Step} → Spells Text bs ss → starts 45 99 10 bs ≡ length (codes_of ss) + length ss
tokens s = steps_starts 45 99 (omega arith) true (λ x h k. is_in_range 45 99 x (omega arith) (omega arith)) refl refl (omega arith) s 10 (omega arith)

pub steps_by_lem : {f : Format} {bs : List ℕ} {ss : List Step} → Spells f bs ss → steps_by f bs ≡ length ss
steps_by_lem {f = Text} s = zeros s
steps_by_lem {f = Binary} s = (steps_lows s).0

pub lits_by_lem : {f : Format} {bs : List ℕ} {ss : List Step} → Spells f bs ss → lits_by f bs ≡ length (codes_of ss)
lits_by_lem {f = Text} s = omega (arith, zeros s, tokens s)
lits_by_lem {f = Binary} s = let h = steps_lows s in omega (arith, h.0, h.1)

-- and what is taken away is there
pub tokens_enough : {bs : List ℕ} {ss : List Step} → Spells Text bs ss → starts 48 48 10 bs ≤ starts 45 99 10 bs
tokens_enough s = omega (arith, zeros s, tokens s)

pub lows_enough : {bs : List ℕ} {ss : List Step} → Spells Binary bs ss → 2 * tally 0 0 bs ≤ tally 0 127 bs
lows_enough s = let h = steps_lows s in omega (arith, h.0, h.1)

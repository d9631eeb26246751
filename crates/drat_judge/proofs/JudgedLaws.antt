-- Bytes that are judged whole are spelled by the grammar: an induction over the bytes, with a claim for each state
-- that the last four bytes can be in.
use Prim.Native.Nat.{ℕ, suc, ◌+◌, ◌-◌, ◌*◌, ◌≤◌, ◌<◌}
use mathlib.Core.Bool.{Bool, true, false, true≢false}
use mathlib.Core.List.{List, [], ◌∷◌, ◌++◌, append_assoc}
use mathlib.Core.Logic.{⊎_elim}
use mathlib.Core.Path.{◌≡◌, refl, sym, ap, ◌∙◌, subst, subst₂}
use lib.Dec.{eqb, ltb}
use native.Mathlib.Omega.{arith}
use borrow.Author.Tests.{eqb-true, eqb-false, ltb-true, ltb-false}
use Rattle.drat.proofs.Sound.{Bytes}
use Rattle.drat.specs.Grammar.{Step, step_of, Sep, Seps, no_seps, sep_then, Gap, gap, Lead, text_lead, no_lead, Free, at_end, at_sep, any_byte, Begins}
use Rattle.drat.specs.Grammar.{bare, dee, letter_a, letter_d, stop, Signed, plus, minus, Number, spaced, code, Body, last, lit, Spells, none, step}
use Rattle.drat.specs.Numeral.{decimal, leb128, Numeral, one, more}
use Rattle.drat.specs.declared.Format.TheVariants.{Text, Binary}
use Rattle.drat.specs.declared.Format.{Format}
use Rattle.drat.specs.declared.Kind.TheVariants.{Add, Delete}
use Rattle.drat.specs.declared.Kind.{Kind}
use Rattle.drat_judge.specs.Local.{near, may_follow, runs, judged}
use Rattle.drat_judge.proofs.NumberLaws.{within_four, no_fifth, digit_one, digit_more, NumberHere, with_digit_lem, with_rest}
use Rattle.drat_judge.proofs.NextLaws.{runs_cons, text_end, binary_end, sep_low, Digit, Next, digits, seps, signs, dees, next_is, closing_is}
use Rattle.drat_judge.proofs.NextLaws.{Low, Closed, once, not_near, not_closing, not_closed, start_next, inside_next, second_next}

-- l spells steps
pub record StepsHere (f : Format) (l : List ℕ) : Type 0 where
  pub ss : List Step
  pub spelled : Spells f l ss

-- l spells literals and a step's end, and then steps
record BodyHere (f : Format) (l : List ℕ) : Type 0 where
  bytes : List ℕ
  rest : List ℕ
  cs : List ℕ
  split : l ≡ bytes ++ rest
  spelled : Body f bytes cs
  free : Free f rest
  then : StepsHere f rest

-- l is separators, and then the rest of a step and steps
record ItemHere (l : List ℕ) : Type 0 where
  ws : List ℕ
  rest : List ℕ
  split : l ≡ ws ++ rest
  lead : Seps ws
  then : BodyHere Text rest

-- the same, with at least one separator
record GapHere (l : List ℕ) : Type 0 where
  gs : List ℕ
  rest : List ℕ
  split : l ≡ gs ++ rest
  gaps : Gap gs
  then : BodyHere Text rest

-- ---- putting bytes in front
lead_none : (f : Format) → Lead f []
lead_none Text = text_lead no_seps
lead_none Binary = no_lead

with_kind : (f : Format) (k : Kind) (os l : List ℕ) → Begins f k os → BodyHere f l → StepsHere f (os ++ l)
with_kind f k os l o b =
    record {
      ss = step_of k b.cs ∷ b.then.ss;
      spelled = subst (λ (m : List ℕ). Spells f m (step_of k b.cs ∷ b.then.ss))
          (append_assoc os b.bytes b.rest ∙ ap (λ (m : List ℕ). os ++ m) (sym b.split))
          (step (lead_none f) o b.spelled b.free b.then.spelled);
    }

with_end : (f : Format) (l : List ℕ) → Free f l → StepsHere f l → BodyHere f (stop f ++ l)
with_end f l h s = record { bytes = stop f; rest = l; cs = []; split = refl; spelled = last; free = h; then = s }

with_number : (f : Format) (bs l : List ℕ) (c : ℕ) → Number f bs c → BodyHere f l → BodyHere f (bs ++ l)
with_number f bs l c n b =
    record {
      bytes = bs ++ b.bytes;
      rest = b.rest;
      cs = c ∷ b.cs;
      split = ap (λ (m : List ℕ). bs ++ m) b.split ∙ sym (append_assoc bs b.bytes b.rest);
      spelled = lit n b.spelled;
      free = b.free;
      then = b.then;
    }

-- a separator in front of steps spells the same steps
sep_spells : {x : ℕ} {l : List ℕ} {ss : List Step} → Sep x → Spells Text l ss → Spells Text (x ∷ l) ss
sep_spells h (none (text_lead w)) = none (text_lead (sep_then h w))
sep_spells h (step (text_lead w) o b r t) = step (text_lead (sep_then h w)) o b r t

with_sep : (x : ℕ) (l : List ℕ) → Sep x → StepsHere Text l → StepsHere Text (x ∷ l)
with_sep x l h s = record { ss = s.ss; spelled = sep_spells h s.spelled }

item_sep : (x : ℕ) (l : List ℕ) → Sep x → ItemHere l → ItemHere (x ∷ l)
item_sep x l h i =
    record {
      ws = x ∷ i.ws;
      rest = i.rest;
      split = ap (λ (m : List ℕ). x ∷ m) i.split;
      lead = sep_then h i.lead;
      then = i.then;
    }

gap_sep : (x : ℕ) (l : List ℕ) → Sep x → ItemHere l → GapHere (x ∷ l)
gap_sep x l h i =
    record {
      gs = x ∷ i.ws;
      rest = i.rest;
      split = ap (λ (m : List ℕ). x ∷ m) i.split;
      gaps = gap h i.lead;
      then = i.then;
    }

item_body : (l : List ℕ) → BodyHere Text l → ItemHere l
item_body l b = record { ws = []; rest = l; split = refl; lead = no_seps; then = b }

with_dee : (l : List ℕ) → GapHere l → StepsHere Text (100 ∷ l)
with_dee l g =
    subst (λ (m : List ℕ). StepsHere Text (100 ∷ m)) (sym g.split) (with_kind Text Delete (100 ∷ g.gs) g.rest (dee g.gaps) g.then)

with_signed : (bs l : List ℕ) (c : ℕ) → Signed bs c → GapHere l → BodyHere Text (bs ++ l)
with_signed bs l c n g =
    subst (BodyHere Text) (append_assoc bs g.gs g.rest ∙ ap (λ (m : List ℕ). bs ++ m) (sym g.split))
    (with_number Text (bs ++ g.gs) g.rest c (spaced n g.gaps) g.then)

positive : (l : List ℕ) → NumberHere 4096 GapHere [] l → BodyHere Text l
positive l n = subst (BodyHere Text) (sym n.split) (with_signed n.digits n.rest (2 * n.index) (plus n.small n.spelled) n.then)

negated : (l : List ℕ) → NumberHere 4096 GapHere [] l → BodyHere Text (45 ∷ l)
negated l n =
    subst (BodyHere Text) (ap (λ (m : List ℕ). 45 ∷ m) (sym n.split))
    (with_signed (45 ∷ n.digits) n.rest (2 * n.index + 1) (minus n.small n.spelled) n.then)

-- ---- text: what l must be where the bytes before it end so
-- the rest of a number after its digits ds, and then a step's rest and steps
abbrev Digits : List ℕ → List ℕ → Type 0
Digits ds l = NumberHere 4096 GapHere ds l

record TextHere (l : List ℕ) : Type 0 where
  start : (a b c p : ℕ) → p < 45 → runs Text a b c p l ≡ true → StepsHere Text l
  item : (a b c p : ℕ) → p < 45 → (Closed a b c → ⊥) → runs Text a b c p l ≡ true → ItemHere l
  zero : (a b c p : ℕ) → p ≡ 48 → c < 45 → runs Text a b c p l ≡ true → Free Text l × StepsHere Text l
  sign : (a b c p : ℕ) → p ≡ 45 → runs Text a b c p l ≡ true → Digits [] l
  deletes : (a b c p : ℕ) → p ≡ 100 → runs Text a b c p l ≡ true → GapHere l
  first : (a b c p : ℕ) → c < 48 → 49 ≤ p → p ≤ 57 → runs Text a b c p l ≡ true → (ds : List ℕ) → Numeral decimal ds (p - 48) → Digits ds l
  second : (a b c p : ℕ) → b < 48 → 48 ≤ c → c ≤ 57 → 48 ≤ p → p ≤ 57 → runs Text a b c p l ≡ true → (ds : List ℕ)
      → Numeral decimal ds (10 * (c - 48) + (p - 48)) → Digits ds l
  third : (a b c p : ℕ) → 48 ≤ b → b ≤ 57 → 48 ≤ c → c ≤ 57 → 48 ≤ p → p ≤ 57 → runs Text a b c p l ≡ true → (ds : List ℕ)
      → Numeral decimal ds (10 * (10 * (b - 48) + (c - 48)) + (p - 48)) → Digits ds l
  fourth : (a b c p : ℕ) → 48 ≤ a → a ≤ 57 → 48 ≤ b → b ≤ 57 → 48 ≤ c → c ≤ 57 → 48 ≤ p → p ≤ 57 → runs Text a b c p l ≡ true → (ds : List ℕ) (n : ℕ)
      → Numeral decimal ds n → n ≤ 4096 → Digits ds l

-- the bytes end
not_end : (a b c p : ℕ) → (p ≡ 48 → near c ≡ false → ⊥) → (Low p → Closed a b c → ⊥) → runs Text a b c p [] ≡ true → ⊥
not_end a b c p h k e = ⊎_elim (not_closing c p h) (λ (z : Low p × Closed a b c). k z.0 z.1) (text_end a b c p e)

text_none : TextHere []
text_none =
    record {
      start = λ a b c p h e. ended;
      item = λ a b c p h k e. absurd (not_end a b c p (λ z y. omega arith) (λ z y. k y) e);
      zero = λ a b c p h k e. (at_end, ended);
      sign = λ a b c p h e. absurd (not_end a b c p (λ z y. omega arith) (λ z y. z (omega arith) (omega arith)) e);
      deletes = λ a b c p h e. absurd (not_end a b c p (λ z y. omega arith) (λ z y. z (omega arith) (omega arith)) e);
      first = λ a b c p h k i e ds n. absurd (not_end a b c p (λ z y. omega arith) (λ z y. z (omega arith) (omega arith)) e);
      second = λ a b c p h k i j o e ds n. absurd (not_end a b c p (λ z y. not_near c k (omega arith) y) (λ z y. z (omega arith) (omega arith)) e);
      third = λ a b c p h k i j o q e ds n. absurd (not_end a b c p (λ z y. not_near c i (omega arith) y) (λ z y. z (omega arith) (omega arith)) e);
      fourth = λ a b c p h k i j o q r s e ds n d m. absurd (not_end a b c p (λ z y. not_near c o (omega arith) y) (λ z y. z (omega arith) (omega arith)) e);
    }
  where
    ended : StepsHere Text []
    ended = record { ss = []; spelled = none (text_lead no_seps) }

module _ (x : ℕ) (l : List ℕ) (h : TextHere l) where
  -- a number begins with x
  numbered : (b c p : ℕ) → p < 48 → 49 ≤ x → x ≤ 57 → runs Text b c p x l ≡ true → Digits [] (x ∷ l)
  numbered b c p k i j e = with_digit_lem [] x l (h.first b c p x k i j e (x ∷ []) (digit_one x i j))

  -- x is a digit where a literal or the closing 0 may begin
  begun : (b c p : ℕ) → p < 45 → 48 ≤ x → x ≤ 57 → runs Text b c p x l ≡ true → BodyHere Text (x ∷ l)
  begun b c p k i j e = go (eqb x 48) refl
    where
      go : (t : Bool) → eqb x 48 ≡ t → BodyHere Text (x ∷ l)
      go true z =
          let y = eqb-true x 48 z in
          let r = h.zero b c p x y k e in
          subst (λ (w : ℕ). BodyHere Text (w ∷ l)) (sym y) (with_end Text l r.0 r.1)
      go false z = let y = eqb-false x 48 z in positive (x ∷ l) (numbered b c p (omega arith) (omega arith) j e)

  signed_here : (b c p : ℕ) → x ≡ 45 → runs Text b c p x l ≡ true → BodyHere Text (x ∷ l)
  signed_here b c p z e = subst (λ (y : ℕ). BodyHere Text (y ∷ l)) (sym z) (negated l (h.sign b c p x z e))

  -- a separator stands after a number, or after another token that is no closing 0
  gap_here : (b c p : ℕ) → Sep x → 48 ≤ p → p ≤ 127 → (p ≡ 48 → near c ≡ false → ⊥) → runs Text b c p x l ≡ true → GapHere (x ∷ l)
  gap_here b c p s i j o e = gap_sep x l s (h.item b c p x (sep_low s) (not_closed b c p (not_closing c p o) (λ u w. not_near p i j u)) e)

  text_start : (a b c p : ℕ) → p < 45 → runs Text a b c p (x ∷ l) ≡ true → StepsHere Text (x ∷ l)
  text_start a b c p k e = go (next_is a b c p x r.0)
    where
      r : (may_follow Text a b c p x ≡ true) × (runs Text b c p x l ≡ true)
      r = runs_cons Text a b c p x l e

      go : Next a b c p x → StepsHere Text (x ∷ l)
      go (digits d) = with_kind Text Add [] (x ∷ l) bare (begun b c p k d.low d.high r.1)
      go (seps s n) = with_sep x l s (h.start b c p x (sep_low s) r.1)
      go (signs i z) = with_kind Text Add [] (x ∷ l) bare (signed_here b c p z r.1)
      go (dees i z u) = subst (λ (y : ℕ). StepsHere Text (y ∷ l)) (sym z) (with_dee l (h.deletes b c p x z r.1))

  text_item : (a b c p : ℕ) → p < 45 → (Closed a b c → ⊥) → runs Text a b c p (x ∷ l) ≡ true → ItemHere (x ∷ l)
  text_item a b c p k o e = go (next_is a b c p x r.0)
    where
      r : (may_follow Text a b c p x ≡ true) × (runs Text b c p x l ≡ true)
      r = runs_cons Text a b c p x l e

      go : Next a b c p x → ItemHere (x ∷ l)
      go (digits d) = item_body (x ∷ l) (begun b c p k d.low d.high r.1)
      go (seps s n) = item_sep x l s (h.item b c p x (sep_low s) (not_closed b c p (not_closing c p (λ u w. omega arith)) (λ u w. o (once w))) r.1)
      go (signs i z) = item_body (x ∷ l) (signed_here b c p z r.1)
      go (dees i z u) = absurd (o u)

  text_zero : (a b c p : ℕ) → p ≡ 48 → c < 45 → runs Text a b c p (x ∷ l) ≡ true → Free Text (x ∷ l) × StepsHere Text (x ∷ l)
  text_zero a b c p z k e = go (next_is a b c p x r.0)
    where
      r : (may_follow Text a b c p x ≡ true) × (runs Text b c p x l ≡ true)
      r = runs_cons Text a b c p x l e

      go : Next a b c p x → Free Text (x ∷ l) × StepsHere Text (x ∷ l)
      go (digits d) = absurd (true≢false (sym (closing_is c p z (omega arith)) ∙ d.inside))
      go (seps s n) = (at_sep s, with_sep x l s (h.start b c p x (sep_low s) r.1))
      go (signs i y) = absurd (i (omega arith) (omega arith))
      go (dees i y u) = absurd (i (omega arith) (omega arith))

  text_sign : (a b c p : ℕ) → p ≡ 45 → runs Text a b c p (x ∷ l) ≡ true → Digits [] (x ∷ l)
  text_sign a b c p z e = go (next_is a b c p x r.0)
    where
      r : (may_follow Text a b c p x ≡ true) × (runs Text b c p x l ≡ true)
      r = runs_cons Text a b c p x l e

      go : Next a b c p x → Digits [] (x ∷ l)
      go (digits d) = numbered b c p (omega arith) (d.proper z) d.high r.1
      go (seps s n) = absurd (n z)
      go (signs i y) = absurd (i (omega arith) (omega arith))
      go (dees i y u) = absurd (i (omega arith) (omega arith))

  text_deletes : (a b c p : ℕ) → p ≡ 100 → runs Text a b c p (x ∷ l) ≡ true → GapHere (x ∷ l)
  text_deletes a b c p z e = go (next_is a b c p x r.0)
    where
      r : (may_follow Text a b c p x ≡ true) × (runs Text b c p x l ≡ true)
      r = runs_cons Text a b c p x l e

      go : Next a b c p x → GapHere (x ∷ l)
      go (digits d) = absurd (d.no_dee z)
      go (seps s n) = gap_here b c p s (omega arith) (omega arith) (λ u w. omega arith) r.1
      go (signs i y) = absurd (i (omega arith) (omega arith))
      go (dees i y u) = absurd (i (omega arith) (omega arith))

  -- after a digit: a separator, or another digit
  after_digit : (a b c p n : ℕ) (ds : List ℕ) → 48 ≤ p → p ≤ 57 → (p ≡ 48 → near c ≡ false → ⊥) → runs Text a b c p (x ∷ l) ≡ true
      → Numeral decimal ds n → n ≤ 4096 → (Digit a b c p x → runs Text b c p x l ≡ true → Digits (ds ++ x ∷ []) l) → Digits ds (x ∷ l)
  after_digit a b c p n ds k q o e d m f = go (next_is a b c p x r.0)
    where
      r : (may_follow Text a b c p x ≡ true) × (runs Text b c p x l ≡ true)
      r = runs_cons Text a b c p x l e

      go : Next a b c p x → Digits ds (x ∷ l)
      go (digits y) = with_digit_lem ds x l (f y r.1)
      go (seps s y) = with_rest ds (x ∷ l) n d m (gap_here b c p s k (omega arith) o r.1)
      go (signs i y) = absurd (i (omega arith) (omega arith))
      go (dees i y u) = absurd (i (omega arith) (omega arith))

  text_first : (a b c p : ℕ) → c < 48 → 49 ≤ p → p ≤ 57 → runs Text a b c p (x ∷ l) ≡ true → (ds : List ℕ) → Numeral decimal ds (p - 48) → Digits ds (x ∷ l)
  text_first a b c p k i j e ds d = after_digit a b c p (p - 48) ds (omega arith) j (λ u w. omega arith) e d (omega arith)
      (λ y r. h.second b c p x k (omega arith) j y.low y.high r (ds ++ x ∷ []) (digit_more ds (p - 48) x y.low y.high d))

  text_second : (a b c p : ℕ) → b < 48 → 48 ≤ c → c ≤ 57 → 48 ≤ p → p ≤ 57 → runs Text a b c p (x ∷ l) ≡ true → (ds : List ℕ)
      → Numeral decimal ds (10 * (c - 48) + (p - 48)) → Digits ds (x ∷ l)
  text_second a b c p o kc lc kp lp e ds d =
      let n = 10 * (c - 48) + (p - 48) in
      after_digit a b c p n ds kp lp (λ u w. not_near c kc (omega arith) w) e d (omega arith)
      (λ y r. h.third b c p x kc lc kp lp y.low y.high r (ds ++ x ∷ []) (digit_more ds n x y.low y.high d))

  text_third : (a b c p : ℕ) → 48 ≤ b → b ≤ 57 → 48 ≤ c → c ≤ 57 → 48 ≤ p → p ≤ 57 → runs Text a b c p (x ∷ l) ≡ true → (ds : List ℕ)
      → Numeral decimal ds (10 * (10 * (b - 48) + (c - 48)) + (p - 48)) → Digits ds (x ∷ l)
  text_third a b c p kb lb kc lc kp lp e ds d =
      let n = 10 * (10 * (b - 48) + (c - 48)) + (p - 48) in
      after_digit a b c p n ds kp lp (λ u w. not_near c kc (omega arith) w) e d (omega arith)
      (λ y r.
      h.fourth b c p x kb lb kc lc kp lp y.low y.high r (ds ++ x ∷ []) (10 * n + (x - 48)) (digit_more ds n x y.low y.high d)
      (within_four a b c p x y.within y.low y.high kp lp kc lc kb lb))

  text_fourth : (a b c p : ℕ) → 48 ≤ a → a ≤ 57 → 48 ≤ b → b ≤ 57 → 48 ≤ c → c ≤ 57 → 48 ≤ p → p ≤ 57 → runs Text a b c p (x ∷ l) ≡ true → (ds : List ℕ)
      (n : ℕ) → Numeral decimal ds n → n ≤ 4096 → Digits ds (x ∷ l)
  text_fourth a b c p ka la kb lb kc lc kp lp e ds n d m = after_digit a b c p n ds kp lp (λ u w. not_near c kc (omega arith) w) e d m
      (λ y r. absurd (no_fifth a b c p x y.within y.low y.high kp lp kc lc kb lb ka la))

text_judged : (l : List ℕ) → TextHere l
text_judged [] = text_none
text_judged (x ∷ l) = text_more (text_judged l)
  where
    text_more : TextHere l → TextHere (x ∷ l)
    text_more h =
        record {
          start = text_start x l h;
          item = text_item x l h;
          zero = text_zero x l h;
          sign = text_sign x l h;
          deletes = text_deletes x l h;
          first = text_first x l h;
          second = text_second x l h;
          third = text_third x l h;
          fourth = text_fourth x l h;
        }

-- ---- binary
record BinaryHere (l : List ℕ) : Type 0 where
  start : (a b c : ℕ) → runs Binary a b c 0 l ≡ true → StepsHere Binary l
  item : (a b c p : ℕ) → 0 < p → p < 128 → runs Binary a b c p l ≡ true → BodyHere Binary l
  second : (a b c p : ℕ) → 128 ≤ p → p < 256 → runs Binary a b c p l ≡ true → BodyHere Binary (p ∷ l)

binary_none : BinaryHere []
binary_none =
    record {
      start = λ a b c e. record { ss = []; spelled = none no_lead };
      item = λ a b c p h k e. absurd (omega (arith, binary_end a b c p e));
      second = λ a b c p h k e. absurd (omega (arith, binary_end a b c p e));
    }

module _ (x : ℕ) (l : List ℕ) (hx : x < 256) (h : BinaryHere l) where
  binary_start : (a b c : ℕ) → runs Binary a b c 0 (x ∷ l) ≡ true → StepsHere Binary (x ∷ l)
  binary_start a b c e =
      let r = runs_cons Binary a b c 0 x l e in
      ⊎_elim
      (λ (z : x ≡ 97).
      subst (λ (y : ℕ). StepsHere Binary (y ∷ l)) (sym z) (with_kind Binary Add (97 ∷ []) l letter_a (h.item b c 0 x (omega arith) (omega arith) r.1)))
      (λ (z : x ≡ 100).
      subst (λ (y : ℕ). StepsHere Binary (y ∷ l)) (sym z) (with_kind Binary Delete (100 ∷ []) l letter_d (h.item b c 0 x (omega arith) (omega arith) r.1)))
      (start_next x r.0)

  binary_item : (a b c p : ℕ) → 0 < p → p < 128 → runs Binary a b c p (x ∷ l) ≡ true → BodyHere Binary (x ∷ l)
  binary_item a b c p i j e = go (eqb x 0) refl (ltb x 128) refl
    where
      r : (may_follow Binary a b c p x ≡ true) × (runs Binary b c p x l ≡ true)
      r = runs_cons Binary a b c p x l e

      go : (t : Bool) → eqb x 0 ≡ t → (u : Bool) → ltb x 128 ≡ u → BodyHere Binary (x ∷ l)
      go true z u k =
          let w = eqb-true x 0 z in
          subst (λ (y : ℕ). BodyHere Binary (y ∷ l)) (sym w)
          (with_end Binary l any_byte (h.start b c p (subst (λ (y : ℕ). runs Binary b c p y l ≡ true) w r.1)))
      go false z true k =
          let w = eqb-false x 0 z in
          let m = ltb-true x 128 k in
          let o = inside_next p x i j r.0 in
          let v : x ≡ x - 2 + 2 = omega arith in
          with_number Binary (x ∷ []) l (x - 2) (code (omega arith) (subst (λ (y : ℕ). Numeral leb128 (x ∷ []) y) v (one {d = x} (omega arith) m)))
          (h.item b c p x (omega arith) m r.1)
      go false z false k = h.second b c p x (ltb-false x 128 k) hx r.1

  binary_second : (a b c p : ℕ) → 128 ≤ p → p < 256 → runs Binary a b c p (x ∷ l) ≡ true → BodyHere Binary (p ∷ x ∷ l)
  binary_second a b c p i j e =
      let r = runs_cons Binary a b c p x l e in
      let z = second_next p x i j r.0 in
      let w : 128 + (p - 128) ≡ p = omega arith in
      let v : p - 128 + 128 * x ≡ p - 128 + 128 * x - 2 + 2 = omega arith in
      let n : Numeral leb128 ((128 + (p - 128)) ∷ x ∷ []) (p - 128 + 128 * x) = more {d = p - 128} (omega arith) (one {d = x} (omega arith) (omega arith)) in
      with_number Binary (p ∷ x ∷ []) l (p - 128 + 128 * x - 2) (code (omega arith) (subst₂ (λ (y m : ℕ). Numeral leb128 (y ∷ x ∷ []) m) w v n))
      (h.item b c p x (omega arith) (omega arith) r.1)

binary_judged : (l : List ℕ) → Bytes l → BinaryHere l
binary_judged [] hb = binary_none
binary_judged (x ∷ l) hb = binary_more (binary_judged l (λ k. hb (suc k)))
  where
    binary_more : BinaryHere l → BinaryHere (x ∷ l)
    binary_more h = record { start = binary_start x l (hb 0) h; item = binary_item x l (hb 0) h; second = binary_second x l (hb 0) h }

-- bytes that are judged whole spell steps
pub judged_spells : (f : Format) (l : List ℕ) → Bytes l → judged f l ≡ true → StepsHere f l
judged_spells Text l hb e = (text_judged l).start 10 10 48 10 (omega arith) e
judged_spells Binary l hb e = (binary_judged l hb).start 0 0 0 e

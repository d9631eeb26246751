-- The laws of separators: what the grammar has is what is counted, and the other way.
use Prim.Native.Nat.{ℕ, suc, ◌≤◌, ◌<◌}
use mathlib.Core.Path.{◌≡◌, refl, sym, ap, ap₂, ◌∙◌, subst}
use mathlib.Core.List.{List, [], ◌∷◌, ◌++◌, append_assoc, append-nil}
use mathlib.Core.Bool.{Bool, true, false, ◌||◌}
use native.Mathlib.Omega.{arith}
use lib.Dec.{eqb}
use lib.ListN.{length, get_or, drop}
use lib.Seq.{drop_at}
use borrow.Author.Tests.{eqb-true, ne_eqb}
use Rattle.base.specs.Choice.{pick}
use Rattle.drat.specs.Numeral.{digit}
use Rattle.drat.specs.Grammar.{Step, step_of, Sep, blank, feed, Seps, no_seps, sep_then, Gap, gap, Lead, text_lead, no_lead}
use Rattle.drat.specs.Grammar.{Spells, none, step}
use Rattle.drat.specs.Reading.{sep, seps, lead}
use Rattle.drat.specs.declared.Format.{Format}
use Rattle.drat.specs.declared.Format.TheVariants.{Text, Binary}

-- ---- one byte

pub sep_is : {b : ℕ} → Sep b → sep b ≡ true
sep_is blank = refl
sep_is feed = refl

pub is_sep : (b : ℕ) → sep b ≡ true → Sep b
is_sep b h = go (eqb b 32) refl h
  where
    go : (t : Bool) → eqb b 32 ≡ t → t || eqb b 10 ≡ true → Sep b
    go true e h = subst Sep (sym (eqb-true b 32 e)) blank
    go false e h = subst Sep (sym (eqb-true b 10 h)) feed

pub sep_no_digit : {b : ℕ} → Sep b → digit b ≡ false
sep_no_digit blank = refl
sep_no_digit feed = refl

-- a byte that is neither 32 nor 10
pub no_sep : (b : ℕ) → 33 ≤ b → sep b ≡ false
no_sep b h = simp (ne_eqb b 32 (omega arith), ne_eqb b 10 (omega arith))

-- ---- several

-- no separator stands first in text
abbrev pub Clear : Format → List ℕ → Type 0
Clear Text l = sep (get_or l 0 0) ≡ false
Clear Binary l = Unit {0}

pub gap_seps : {gs : List ℕ} → Gap gs → Seps gs
gap_seps (gap b bs) = sep_then b bs

seps_clear : (l : List ℕ) → Clear Text l → seps l ≡ 0
unfolding seps
seps_clear [] h = refl
seps_clear (b ∷ l) h = simp h

pub seps_read : {ws : List ℕ} → Seps ws → (l : List ℕ) → Clear Text l → seps (ws ++ l) ≡ length ws
unfolding seps
seps_read no_seps l h = seps_clear l h
seps_read (sep_then b bs) l h = simp (sep_is b) (ap suc (seps_read bs l h))

pub seps_le : (l : List ℕ) → seps l ≤ length l
unfolding seps
seps_le [] = omega arith
seps_le (b ∷ l) = go (sep b) (seps_le l)
  where
    go : (t : Bool) → seps l ≤ length l → pick t (suc (seps l)) 0 ≤ suc (length l)
    go true h = omega arith
    go false h = omega arith

pub seps_append : {a b : List ℕ} → Seps a → Seps b → Seps (a ++ b)
seps_append no_seps s = s
seps_append (sep_then b bs) s = sep_then b (seps_append bs s)

-- the separators in front, and the rest
pub record Split (f : Format) (l : List ℕ) : Type 0 where
  pub front : List ℕ
  pub rest : List ℕ
  pub split : l ≡ front ++ rest
  pub fronts : Lead f front
  pub size : length front ≡ lead f l
  pub clear : Clear f rest

seps_of : {ws : List ℕ} → Lead Text ws → Seps ws
seps_of (text_lead s) = s

text_split : (l : List ℕ) → Split Text l
unfolding seps
text_split [] = record { front = []; rest = []; split = refl; fronts = text_lead no_seps; size = refl; clear = refl }
text_split (b ∷ l) = go (sep b) refl (text_split l)
  where
    go : (t : Bool) → sep b ≡ t → Split Text l → Split Text (b ∷ l)
    go true e r = record {
      front = b ∷ r.front;
      rest = r.rest;
      split = ap (λ (m : List ℕ). b ∷ m) r.split;
      fronts = text_lead (sep_then (is_sep b e) (seps_of r.fronts));
      size = simp e (ap suc r.size);
      clear = r.clear;
    }
    go false e r = record { front = []; rest = b ∷ l; split = refl; fronts = text_lead no_seps; size = simp e; clear = e }

pub nothing_lead : (f : Format) → Lead f []
nothing_lead Text = text_lead no_seps
nothing_lead Binary = no_lead

pub lead_split : (f : Format) (l : List ℕ) → Split f l
lead_split Text l = text_split l
lead_split Binary l = record { front = []; rest = l; split = refl; fronts = no_lead; size = refl; clear = tt }

pub split_rest : (f : Format) (l : List ℕ) (t : Split f l) → drop (lead f l) l ≡ t.rest
split_rest f l t = ap₂ drop (sym t.size) t.split ∙ drop_at t.front t.rest (length t.front) refl

pub lead_le : (f : Format) (l : List ℕ) → lead f l ≤ length l
lead_le Text l = seps_le l
lead_le Binary l = omega arith

pub lead_read : {f : Format} {ws : List ℕ} → Lead f ws → (l : List ℕ) → Clear f l → lead f (ws ++ l) ≡ length ws
lead_read (text_lead s) l h = seps_read s l h
lead_read no_lead l h = refl

clear_none : (f : Format) → Clear f []
clear_none Text = refl
clear_none Binary = tt

pub lead_all : {f : Format} {ws : List ℕ} → Lead f ws → lead f ws ≡ length ws
lead_all {f} {ws} w = ap (lead f) (sym (append-nil ws)) ∙ lead_read w [] (clear_none f)

-- where the first is a separator there is a gap in front
pub some_gap : (l : List ℕ) (r : Split Text l) → sep (get_or l 0 0) ≡ true → Gap r.front
some_gap l r h = go r.front (seps_of r.fronts) r.split
  where
    go : (ws : List ℕ) → Seps ws → l ≡ ws ++ r.rest → Gap ws
    go [] s e = absurd (clash (sym h ∙ ap (λ (m : List ℕ). sep (get_or m 0 0)) e ∙ r.clear))
      where
        clash : true ≡ false → ⊥
        clash z = let w : ◌≡◌ {A = ℕ} 0 1 = cc in omega arith
    go (b ∷ ws) (sep_then x xs) e = gap x xs

pub gap_first : {gs : List ℕ} → Gap gs → (l : List ℕ) → sep (get_or (gs ++ l) 0 0) ≡ true
gap_first (gap b bs) l = sep_is b

pub gap_apart : {gs : List ℕ} → Gap gs → (l : List ℕ) → digit (get_or (gs ++ l) 0 0) ≡ false
gap_apart (gap b bs) l = sep_no_digit b

pub gap_length : {gs : List ℕ} → Gap gs → 0 < length gs
gap_length (gap b bs) = omega arith

-- ---- separators in front of what spells steps change nothing
lead_append : {f : Format} {a b : List ℕ} → Lead f a → Lead f b → Lead f (a ++ b)
lead_append (text_lead s) (text_lead t) = text_lead (seps_append s t)
lead_append no_lead no_lead = no_lead

pub spells_lead : {f : Format} {ws bs : List ℕ} {ss : List Step} → Lead f ws → Spells f bs ss → Spells f (ws ++ bs) ss
spells_lead {f} {ws} w (none v) = none (lead_append w v)
spells_lead {f} {ws} w (step {ws = vs} {os = os} {bs = bs} {rest = r} {cs = cs} {ss = ss} {k = k} v o b h t) =
    subst (λ (m : List ℕ). Spells f m (step_of k cs ∷ ss)) (append_assoc ws vs ((os ++ bs) ++ r)) (step (lead_append w v) o b h t)

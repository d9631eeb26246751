-- What is written is spelled by the grammar.
use Prim.Native.Nat.{ℕ, suc, ◌+◌, ◌/◌, ◌%◌, ◌<◌}
use mathlib.Core.Path.{◌≡◌, refl, sym, ap, ◌∙◌, subst}
use mathlib.Core.List.{List, [], ◌∷◌, ◌++◌, append_assoc}
use mathlib.Core.Bool.{Bool, true, false}
use native.Mathlib.Omega.{arith}
use lib.Dec.{eqb}
use borrow.Author.Tests.{eqb-true, eqb-false}
use Rattle.base.specs.Choice.{pick}
use Rattle.drat.specs.Numeral.{decimal, leb128, Numeral, bytes_of}
use Rattle.drat.specs.Grammar.{Step, blank, feed, no_seps, sep_then, gap, Lead, text_lead, no_lead, Free, at_sep, any_byte, Begins, bare, dee}
use Rattle.drat.specs.Grammar.{letter_a, letter_d, stop, Signed, plus, minus, Number, spaced, code, Body, last, lit, Spells, none, step, opens, ends}
use Rattle.drat.specs.Grammar.{signed, number, numbers, encode_step, encode, Codes, Valid}
use Rattle.drat.specs.declared.Kind.{Kind}
use Rattle.drat.specs.declared.Kind.TheVariants.{Add, Delete}
use Rattle.drat.specs.declared.Format.{Format}
use Rattle.drat.specs.declared.Format.TheVariants.{Text, Binary}
use Rattle.drat.proofs.Numerals.{bytes_numeral}
use Rattle.drat.proofs.Separators.{nothing_lead, spells_lead}

pub signed_spelled : (c : ℕ) → c < 8192 → Signed (signed c) c
signed_spelled c h = go (eqb (c % 2) 0) refl
  where
    small : c / 2 < 4096
    small = omega arith

    digits : Numeral decimal (bytes_of decimal (c / 2 + 1)) (c / 2 + 1)
    digits = bytes_numeral decimal (omega arith) (c / 2 + 1) (omega arith)

    go : (t : Bool) → eqb (c % 2) 0 ≡ t → Signed (pick t [] (45 ∷ []) ++ bytes_of decimal (c / 2 + 1)) c
    go true e = subst (Signed (bytes_of decimal (c / 2 + 1))) (omega (arith, eqb-true (c % 2) 0 e)) (plus small digits)
    go false e = subst (Signed (45 ∷ bytes_of decimal (c / 2 + 1))) (omega (arith, eqb-false (c % 2) 0 e)) (minus small digits)

pub number_spelled : (f : Format) (c : ℕ) → c < 8192 → Number f (number f c) c
unfolding number
number_spelled Text c h = spaced (signed_spelled c h) (gap blank no_seps)
number_spelled Binary c h = code h (bytes_numeral leb128 (omega arith) (c + 2) (omega arith))

pub body_spelled : (f : Format) (cs : List ℕ) → Codes cs → Body f (numbers f cs ++ stop f) cs
unfolding numbers
body_spelled f [] h = last
body_spelled f (c ∷ cs) h = rw append_assoc (lit (number_spelled f c (h 0 (omega arith))) (body_spelled f cs (λ i l. h (suc i) (omega arith))))

pub opens_begins : (f : Format) (k : Kind) → Begins f k (opens f k)
opens_begins Text Add = bare
opens_begins Text Delete = dee (gap blank no_seps)
opens_begins Binary Add = letter_a
opens_begins Binary Delete = letter_d

-- after the byte that ends a step a text has a line feed, which may stand before what follows
unfoldable feeds : Format → List ℕ
feeds Text = 10 ∷ []
feeds Binary = []

ends_parts : (f : Format) → ends f ≡ stop f ++ feeds f
unfolding feeds
ends_parts Text = refl
ends_parts Binary = refl

feeds_lead : (f : Format) → Lead f (feeds f)
unfolding feeds
feeds_lead Text = text_lead (sep_then feed no_seps)
feeds_lead Binary = no_lead

feeds_free : (f : Format) (l : List ℕ) → Free f (feeds f ++ l)
unfolding feeds
feeds_free Text l = at_sep feed
feeds_free Binary l = any_byte

-- a step's bytes, split after the one that ends it
step_parts : (o n e g r : List ℕ) → (o ++ (n ++ e)) ++ (g ++ r) ≡ (o ++ (n ++ (e ++ g))) ++ r
step_parts o n e g r =
    sym (append_assoc (o ++ (n ++ e)) g r)
    ∙ ap (λ (m : List ℕ). m ++ r) (append_assoc o (n ++ e) g ∙ ap (λ (m : List ℕ). o ++ m) (append_assoc n e g))

pub encode_spells : (f : Format) (ss : List Step) → Valid ss → Spells f (encode f ss) ss
unfolding encode encode_step Valid
encode_spells f [] h = none (nothing_lead f)
encode_spells f (s ∷ ss) h =
    let o = opens f s.kind in
    let n = numbers f s.lits in
    subst (λ (m : List ℕ). Spells f m (s ∷ ss))
    (step_parts o n (stop f) (feeds f) (encode f ss) ∙ ap (λ (m : List ℕ). (o ++ (n ++ m)) ++ encode f ss) (sym (ends_parts f)))
    (step (nothing_lead f) (opens_begins f s.kind) (body_spelled f s.lits h.0) (feeds_free f (encode f ss))
    (spells_lead (feeds_lead f) (encode_spells f ss h.1)))

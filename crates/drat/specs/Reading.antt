-- The reader, as a definition: what stands at a place, one step, all steps.
use Rattle.std.specs.Prelude.{ℕ, zero, suc, ◌+◌, ◌-◌, ◌*◌, Bool, ◌||◌, List, [], ◌∷◌, eqb, ltb, length, get_or, drop}
use Rattle.base.specs.Choice.{pick}
use Rattle.drat.specs.Numeral.{digit}
use Rattle.drat.specs.Grammar.{Step, step_of}
use Rattle.drat.specs.declared.Kind.{Kind}
use Rattle.drat.specs.declared.Kind.TheVariants.{Add, Delete}
use Rattle.drat.specs.declared.Format.{Format}
use Rattle.drat.specs.declared.Format.TheVariants.{Text, Binary}
use Rattle.drat.specs.declared.Token.{Token}
use Rattle.drat.specs.declared.Token.TheVariants.{Lit, Stop}
use Rattle.std.specs.Prelude.{Option, Some, None}

-- In each of these i is a place of the input and l the input from there on.
-- The literal whose number is v; 0 is no number.
abbrev pub numbered : ℕ → ℕ → ℕ → Option Token
numbered sign v i = pick (eqb v 0) None (Some (Lit (2 * (v - 1) + sign) i))

-- A digit b after the digits of v.
abbrev pub with_digit : ℕ → ℕ → ℕ
with_digit v b = 10 * v + (b - 48)

-- The longest run of decimal digits, with the value v of those before and the sign: a literal, and the place of the byte after the run.
unfoldable pub digits_from : ℕ → ℕ → ℕ → List ℕ → Option Token
digits_from sign v i [] = numbered sign v i
digits_from sign v i (b ∷ l) =
    pick (digit b)
    (pick (eqb (with_digit v b) 0) None (pick (ltb 4096 (with_digit v b)) None (digits_from sign (with_digit v b) (i + 1) l)))
    (numbered sign v i)

-- A literal's number: an optional minus, and such a run.
unfoldable pub signed_from : ℕ → List ℕ → Option Token
signed_from i [] = None
signed_from i (b ∷ l) = pick (eqb b 45) (digits_from 1 0 (i + 1) l) (digits_from 0 0 i (b ∷ l))

-- A separator of text is a blank or a line feed. How many of them l starts with.
abbrev pub sep : ℕ → Bool
sep b = eqb b 32 || eqb b 10

unfoldable pub seps : List ℕ → ℕ
seps [] = 0
seps (b ∷ l) = pick (sep b) (suc (seps l)) 0

-- How many bytes may be passed before a step; in binary none.
abbrev pub lead : Format → List ℕ → ℕ
lead Text l = seps l
lead Binary l = 0

-- The place after the bytes that may be passed at place j.
abbrev pub past : Format → ℕ → List ℕ → ℕ → ℕ
past f i l j = j + lead f (drop (j - i) l)

-- A text number's separators, at least one.
unfoldable pub then_gap : ℕ → List ℕ → Option Token → Option Token
then_gap i l (Some (Lit c j)) = pick (sep (get_or l (j - i) 0)) (Some (Lit c (past Text i l j))) None
then_gap i l (Some (Stop j)) = None
then_gap i l None = None

-- LEB128 bytes, with the value v of those before, and the weight w of the next.
unfoldable pub leb_from : ℕ → ℕ → ℕ → List ℕ → Option Token
leb_from v w i [] = None
leb_from v w i (b ∷ l) =
    pick (ltb b 128)
    (pick (eqb b 0) None (pick (ltb (v + w * b) 2) None (pick (ltb 8193 (v + w * b)) None (Some (Lit (v + w * b - 2) (i + 1))))))
    (pick (ltb 64 w) None (leb_from (v + w * (b - 128)) (w * 128) (i + 1) l))

-- The end of a text step, place i being the one after its 0: a token goes on up to a separator or the end of the input.
unfoldable pub close_from : ℕ → List ℕ → Option Token
close_from i [] = Some (Stop i)
close_from i (b ∷ l) = pick (sep b) (Some (Stop i)) None

-- What stands at place i of a step: a literal, with the separators after it in text, or the step's end, a `0` or byte 0.
unfoldable pub token : Format → ℕ → List ℕ → Option Token
token f i [] = None
token Text i (b ∷ l) = pick (eqb b 48) (close_from (i + 1) l) (then_gap i (b ∷ l) (signed_from i (b ∷ l)))
token Binary i (b ∷ l) = pick (eqb b 0) (Some (Stop (i + 1))) (leb_from 0 1 i (b ∷ l))

-- How a step opens: its kind, and the place of its first literal.
abbrev pub opens : Kind → ℕ → Option (Kind × ℕ)
opens k j = Some (k, j)

-- The separators after a text step's `d`, at least one.
unfoldable pub gap_from : ℕ → List ℕ → Option (Kind × ℕ)
gap_from i l = pick (sep (get_or l 0 0)) (opens Delete (i + seps l)) None

-- How the step at place i opens.
unfoldable pub opening : Format → ℕ → List ℕ → Option (Kind × ℕ)
opening f i [] = None
opening Text i (b ∷ l) = pick (eqb b 100) (gap_from (i + 1) l) (opens Add i)
opening Binary i (b ∷ l) = pick (eqb b 97) (opens Add (i + 1)) (pick (eqb b 100) (opens Delete (i + 1)) None)

-- A step's literals and the place after it, or none.
pub data Part : Type 0 where
  whole : List ℕ → ℕ → Part
  broken : Part

unfoldable pub cons_part : ℕ → Part → Part
cons_part c (whole cs j) = whole (c ∷ cs) j
cons_part c broken = broken

-- Literals up to a step's end, at most n tokens.
unfoldable pub body : Format → ℕ → ℕ → List ℕ → Part
body f zero i l = broken
body f (suc n) i l = elim (token f i l) [ Some (Lit c j) ↦ cons_part c (body f n j (drop (j - i) l)) | Some (Stop j) ↦ whole [] j | None ↦ broken ]

-- One step: its kind, its literals and the place after it.
pub data One : Type 0 where
  got : Step → ℕ → One
  fault : One

unfoldable pub as_step : Kind → Part → One
as_step k (whole cs j) = got (step_of k cs) j
as_step k broken = fault

unfoldable pub one_step : Format → ℕ → List ℕ → One
one_step f i l =
    elim (opening f i l) [ Some (k, j) ↦ as_step k (body f (length l) j (drop (j - i) l)) | None ↦ fault ]

-- All steps, or the start of the first that is not whole.
pub data Proof : Type 0 where
  steps : List Step → Proof
  fault_at : ℕ → Proof

unfoldable pub cons_step : Step → Proof → Proof
cons_step s (steps ss) = steps (s ∷ ss)
cons_step s (fault_at i) = fault_at i

-- Steps up to the end of the input, at most n of them; i is the place of a step's first token, or the end.
unfoldable pub steps_from : Format → ℕ → ℕ → List ℕ → Proof
steps_from f zero i [] = steps []
steps_from f zero i (b ∷ l) = fault_at i
steps_from f (suc n) i [] = steps []
steps_from f (suc n) i (b ∷ l) = elim (one_step f i (b ∷ l)) [
  | got s j ↦ cons_step s (steps_from f n (past f i (b ∷ l) j) (drop (past f i (b ∷ l) j - i) (b ∷ l)))
  | fault ↦ fault_at i
]

-- The reading of a whole input.
unfoldable pub read_proof : Format → List ℕ → Proof
read_proof f l = steps_from f (length l) (lead f l) (drop (lead f l) l)

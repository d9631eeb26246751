-- What the fill is told of bytes that were judged whole, and what it says of a step's literals.
use Rattle.std.specs.Prelude.{ℕ, ◌+◌, ◌-◌, ◌*◌, ◌≤◌, ◌<◌, ◌≡◌, ◌||◌, List, [], ◌∷◌, eqb, ltb, length, get_or, drop}
use Rattle.std.proofs.lemmas.List.Edits.{sets}
use Rattle.base.specs.Choice.{pick}
use Rattle.drat.specs.Grammar.{Step}
use Rattle.drat.specs.Reading.{seps, Part, whole, body, One, got, steps, read_proof}
use Rattle.drat.specs.Filled.{kind_number, codes_of, refusing, read_of}
use Rattle.drat.specs.declared.Format.{Format}
use Rattle.drat.specs.declared.Format.TheVariants.{Text, Binary}
use Rattle.drat.specs.declared.Kind.{Kind}
use Rattle.drat.specs.declared.Token.{Token}
use Rattle.drat.specs.declared.Token.TheVariants.{Lit}
use Rattle.drat.specs.declared.ReadError.{ReadError}
use Rattle.drat.specs.declared.ReadError.TheVariants.{NotWhole, Room}
use Rattle.drat.specs.declared.Size.{Size}
use Rattle.std.specs.Prelude.{Option, Some, Result, Ok, Err}
use Rattle.drat.specs.Reading.{opens}

-- All steps are whole, and slices of a, b and c words hold them.
pub record StepsFit (f : Format) (s : List ℕ) (a b c : ℕ) : Type 0 where
  pub ss : List Step
  pub reads : read_proof f s ≡ steps ss
  pub codes_fit : length (codes_of ss) ≤ a
  pub ends_fit : length ss ≤ b
  pub kinds_fit : length ss ≤ c

-- What is found before anything is filled: that all steps are whole and held, or the refusal.
abbrev pub Found : Format → List ℕ → ℕ → ℕ → ℕ → Result (Unit {0}) ReadError → Type 0
Found f s a b c (Ok _) = StepsFit f s a b c
Found f s a b c (Err Room) = read_of f s a b c ≡ refusing 2 []
Found f s a b c (Err (NotWhole p)) = read_of f s a b c ≡ refusing 13 (p ∷ [])

-- Whether so many literals and steps are held.
abbrev pub room_for : Size → ℕ → ℕ → ℕ → Result (Unit {0}) ReadError
room_for w a b c = pick (ltb a w.lits || ltb b w.steps || ltb c w.steps) (Err Room) (Ok tt)

-- The literals and the end of a step from place i on.
abbrev pub body_from : Format → List ℕ → ℕ → Part
body_from f s i = body f (length s) i (drop i s)

-- They are whole, and from word n on a slice of that many words holds them.
pub record BodyFits (f : Format) (s : List ℕ) (i n words : ℕ) : Type 0 where
  pub cs : List ℕ
  pub end : ℕ
  pub inside : i ≤ length s
  pub low : n ≤ i
  pub reads : body_from f s i ≡ whole cs end
  pub fits : n + length cs ≤ words

-- They are filled from word n on, up to word m; j is the place after them.
pub record BodyFilled (f : Format) (s : List ℕ) (i n : ℕ) (codes₀ codes : List ℕ) (j m : ℕ) : Type 0 where
  pub cs : List ℕ
  pub reads : body_from f s i ≡ whole cs j
  pub count : m ≡ n + length cs
  pub held : codes ≡ sets codes₀ n cs

-- A number, and after it a byte below a minus and the digits, as separators are.
pub record IsNumber (s : List ℕ) (t : Option Token) : Type 0 where
  pub code : ℕ
  pub next : ℕ
  pub is : t ≡ Some (Lit code next)
  pub inside : next < length s
  pub below : get_or s next 0 < 45

-- Separators, maybe none, and then a byte that is none below 45: a minus or a digit.
pub record IsGap (s : List ℕ) (i : ℕ) : Type 0 where
  pub inside : i + seps (drop i s) < length s
  pub token : 45 ≤ get_or s (i + seps (drop i s)) 0

-- What the first of several bytes adds to a literal's code: 1 for a minus, or the digit with its weight.
abbrev pub lead_of : ℕ → ℕ → ℕ
lead_of b weight = pick (eqb b 45) 1 (weight * (b - 48))

abbrev pub MinusOrDigit : ℕ → Type 0
MinusOrDigit b = (b ≡ 45 → ⊥) → 48 ≤ b

-- A literal.
pub record IsLit (t : Option Token) : Type 0 where
  pub code : ℕ
  pub next : ℕ
  pub is : t ≡ Some (Lit code next)

-- A whole step; the number of its kind and the place of its first literal.
pub record IsStep (t : One) : Type 0 where
  pub step : Step
  pub end : ℕ
  pub is : t ≡ got step end

pub record OpenedAs (t : Option (Kind × ℕ)) (number first : ℕ) : Type 0 where
  pub kind : Kind
  pub is : t ≡ opens kind first
  pub numbered : number ≡ kind_number kind

-- That place, by the number: in text a deletion has `d` and separators before it, in binary each step has one byte.
abbrev pub first_place : Format → List ℕ → ℕ → ℕ → ℕ
first_place Text s i number = i + 2 * number + seps (drop (i + 2 * number) s)
first_place Binary s i number = i + 1

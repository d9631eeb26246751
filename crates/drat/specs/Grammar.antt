-- The grammar of a DRAT proof in its two formats, and the bytes that are written for a list of steps.
use Rattle.std.specs.Prelude.{ℕ, ◌+◌, ◌*◌, ◌/◌, ◌%◌, ◌<◌, List, [], ◌∷◌, ◌++◌, eqb, length, get_or}
use Rattle.base.specs.Choice.{pick}
use Rattle.drat.specs.Numeral.{decimal, leb128, Numeral, bytes_of}
use Rattle.drat.specs.declared.Kind.{Kind}
use Rattle.drat.specs.declared.Kind.TheVariants.{Add, Delete}
use Rattle.drat.specs.declared.Format.{Format}
use Rattle.drat.specs.declared.Format.TheVariants.{Text, Binary}

-- An add or a delete with its literal codes.
pub record Step : Type 0 where
  pub kind : Kind
  pub lits : List ℕ

abbrev pub step_of : Kind → List ℕ → Step
step_of k cs = record { kind = k; lits = cs }

-- Between the tokens of a text stand separators, blanks and line feeds: any number of them, or at least one.
pub data Sep : ℕ → Type 0 where
  blank : Sep 32
  feed : Sep 10

pub data Seps : List ℕ → Type 0 where
  no_seps : Seps []
  sep_then : {b : ℕ} {bs : List ℕ} → Sep b → Seps bs → Seps (b ∷ bs)

pub data Gap : List ℕ → Type 0 where
  gap : {b : ℕ} {bs : List ℕ} → Sep b → Seps bs → Gap (b ∷ bs)

-- What may stand before a step and after the last one: separators in text, nothing in binary.
pub data Lead : Format → List ℕ → Type 0 where
  text_lead : {ws : List ℕ} → Seps ws → Lead Text ws
  no_lead : Lead Binary []

-- What may come next after a step's end: a token of text goes on up to a separator or the end of the bytes.
pub data Free : Format → List ℕ → Type 0 where
  at_end : Free Text []
  at_sep : {b : ℕ} {bs : List ℕ} → Sep b → Free Text (b ∷ bs)
  any_byte : {bs : List ℕ} → Free Binary bs

-- The bytes before a step's literals: nothing or `d` and separators; `a` or `d`.
pub data Begins : Format → Kind → List ℕ → Type 0 where
  bare : Begins Text Add []
  dee : {gs : List ℕ} → Gap gs → Begins Text Delete (100 ∷ gs)
  letter_a : Begins Binary Add (97 ∷ [])
  letter_d : Begins Binary Delete (100 ∷ [])

-- The byte after a step's literals: `0`; byte 0.
abbrev pub stop : Format → List ℕ
stop Text = 48 ∷ []
stop Binary = 0 ∷ []

-- The DIMACS number of a literal, a minus before a negative one, and the literal's code.
pub data Signed : List ℕ → ℕ → Type 0 where
  plus : {bs : List ℕ} {i : ℕ} → i < 4096 → Numeral decimal bs (i + 1) → Signed bs (2 * i)
  minus : {bs : List ℕ} {i : ℕ} → i < 4096 → Numeral decimal bs (i + 1) → Signed (45 ∷ bs) (2 * i + 1)

-- The bytes of one literal and its code: its number and separators; LEB128.
pub data Number : Format → List ℕ → ℕ → Type 0 where
  spaced : {bs gs : List ℕ} {c : ℕ} → Signed bs c → Gap gs → Number Text (bs ++ gs) c
  code : {bs : List ℕ} {c : ℕ} → c < 8192 → Numeral leb128 bs (c + 2) → Number Binary bs c

-- The bytes of a step's literals and of its end.
pub data Body (f : Format) : List ℕ → List ℕ → Type 0 where
  last : Body f (stop f) []
  lit : {bs rest cs : List ℕ} {c : ℕ} → Number f bs c → Body f rest cs → Body f (bs ++ rest) (c ∷ cs)

-- The bytes spell the steps.
pub data Spells (f : Format) : List ℕ → List Step → Type 0 where
  none : {ws : List ℕ} → Lead f ws → Spells f ws []
  step : {ws os bs rest cs : List ℕ} {ss : List Step} {k : Kind} → Lead f ws → Begins f k os → Body f bs cs → Free f rest → Spells f rest ss
      → Spells f (ws ++ ((os ++ bs) ++ rest)) (step_of k cs ∷ ss)

-- ---- what is written

-- The bytes before a step's literals: nothing or `d` and a blank; `a` or `d`.
abbrev pub opens : Format → Kind → List ℕ
opens Text Add = []
opens Text Delete = 100 ∷ 32 ∷ []
opens Binary Add = 97 ∷ []
opens Binary Delete = 100 ∷ []

-- The bytes after a step's literals: `0` and a line feed; byte 0.
abbrev pub ends : Format → List ℕ
ends Text = 48 ∷ 10 ∷ []
ends Binary = 0 ∷ []

-- A negative literal's minus; a literal's DIMACS number in decimal; any number with a blank after it.
abbrev pub sign : ℕ → List ℕ
sign c = pick (eqb (c % 2) 0) [] (45 ∷ [])

abbrev pub signed : ℕ → List ℕ
signed c = sign c ++ bytes_of decimal (c / 2 + 1)

abbrev pub blanked : ℕ → List ℕ
blanked n = bytes_of decimal n ++ 32 ∷ []

-- What is written for a literal code: its number and a blank; the code + 2 in LEB128.
unfoldable pub number : Format → ℕ → List ℕ
number Text c = signed c ++ 32 ∷ []
number Binary c = bytes_of leb128 (c + 2)

unfoldable pub numbers : Format → List ℕ → List ℕ
numbers f [] = []
numbers f (c ∷ cs) = number f c ++ numbers f cs

-- What is written for a step, and for a list of steps.
unfoldable pub encode_step : Format → Step → List ℕ
encode_step f s = opens f s.kind ++ (numbers f s.lits ++ ends f)

unfoldable pub encode : Format → List Step → List ℕ
encode f [] = []
encode f (s ∷ ss) = encode_step f s ++ encode f ss

-- Every literal code is below 8192: its index is below 4,096.
abbrev pub Codes : List ℕ → Type 0
Codes cs = (i : ℕ) → i < length cs → get_or cs i 0 < 8192

-- So are the codes of every step.
unfoldable pub Valid : List Step → Type 0
Valid [] = Unit {0}
Valid (s ∷ ss) = Codes s.lits × Valid ss

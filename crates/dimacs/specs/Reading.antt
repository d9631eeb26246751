-- The reader, as a definition: the header's place, the header, the lines. In each of these i is a place of the file and l the file from there on.
use Rattle.std.specs.Prelude.{ℕ, zero, suc, ◌+◌, ◌-◌, Bool, true, false, ◌&&◌, not, List, [], ◌∷◌, ◌++◌, eqb, leb, length, get_or, drop}
use Rattle.base.specs.Choice.{pick}
use Rattle.drat.specs.Numeral.{digit}
use Rattle.drat.specs.Reading.{with_digit, signed_from}
use Rattle.drat.specs.declared.Token.{Token}
use Rattle.drat.specs.declared.Token.TheVariants.{Lit, Stop}
use Rattle.dimacs.specs.Cnf.{magnitude, header_start}
use Rattle.std.specs.Prelude.{Option, Some, None}

-- The place of the first line that does not start with `c`, or the file's end. Place i is inside such a line if `inside`, else at the start of a line.
unfoldable pub header_place : Bool → ℕ → List ℕ → ℕ
header_place inside i [] = i
header_place true i (b ∷ l) = header_place (not (eqb b 10)) (i + 1) l
header_place false i (b ∷ l) = pick (eqb b 99) (header_place true (i + 1) l) i

-- ---- the header

-- The digits that l starts with. The value of digits that follow those of v.
unfoldable pub digits_of : List ℕ → List ℕ
digits_of [] = []
digits_of (b ∷ l) = pick (digit b) (b ∷ digits_of l) []

unfoldable pub value_from : ℕ → List ℕ → ℕ
value_from v [] = v
value_from v (b ∷ ds) = value_from (with_digit v b) ds

-- At least one digit, and a 0 in front only where it is the only one.
abbrev pub proper : List ℕ → Bool
proper [] = false
proper (b ∷ []) = true
proper (b ∷ d ∷ ds) = not (eqb b 48)

-- l starts with bs.
unfoldable pub starts_with : List ℕ → List ℕ → Bool
starts_with [] l = true
starts_with (b ∷ bs) [] = false
starts_with (b ∷ bs) (x ∷ l) = eqb x b && starts_with bs l

-- The header's first number, the digits of its second, and the place after its line; or none.
pub data Head : Type 0 where
  head : ℕ → List ℕ → ℕ → Head
  no_head : Head

-- The digits vs and ks of the two numbers, the blank between them, and the line feed.
abbrev pub head_by : ℕ → List ℕ → List ℕ → List ℕ → Head
head_by i l vs ks =
    pick (starts_with header_start l && (proper vs && (leb (value_from 0 vs) 4096 && (eqb (get_or l (6 + length vs) 0) 32
    && (proper ks && eqb (get_or l (7 + length vs + length ks) 0) 10)))))
    (head (value_from 0 vs) ks (i + (8 + length vs + length ks))) no_head

unfoldable pub head_from : ℕ → List ℕ → Head
head_from i l = head_by i l (digits_of (drop 6 l)) (digits_of (drop (7 + length (digits_of (drop 6 l))) l))

-- ---- the lines

-- The blank after a number.
unfoldable pub then_blank : ℕ → List ℕ → Option Token → Option Token
then_blank i l (Some (Lit c j)) = pick (eqb (get_or l (j - i) 0) 32) (Some (Lit c (j + 1))) None
then_blank i l (Some (Stop j)) = None
then_blank i l None = None

-- The line feed that ends a line.
unfoldable pub end_from : ℕ → List ℕ → Option Token
end_from i [] = None
end_from i (b ∷ l) = pick (eqb b 10) (Some (Stop (i + 1))) None

-- What stands at place i of a line: a number and the blank after it, or `0` and the line feed.
unfoldable pub line_from : ℕ → List ℕ → Option Token
line_from i [] = None
line_from i (b ∷ l) = pick (eqb b 48) (end_from (i + 1) l) (then_blank i (b ∷ l) (signed_from i (b ∷ l)))

-- A token of a line: a literal whose magnitude is above v is a fault.
unfoldable pub within : ℕ → Option Token → Option Token
within v (Some (Lit c j)) = pick (leb (magnitude c) v) (Some (Lit c j)) None
within v (Some (Stop j)) = Some (Stop j)
within v None = None

-- The clauses, or the start of the first wrong line.
pub data Clauses : Type 0 where
  clauses : List (List ℕ) → Clauses
  wrong_line : ℕ → Clauses

unfoldable pub cons_clause : List ℕ → Clauses → Clauses
cons_clause cs (clauses cls) = clauses (cs ∷ cls)
cons_clause cs (wrong_line i) = wrong_line i

-- Clauses up to the file's end, at most n tokens: the literals cs were read in the line that starts at `start`. The file may end where a line would start.
unfoldable pub clauses_from : ℕ → ℕ → ℕ → List ℕ → ℕ → List ℕ → Clauses
clauses_from v zero start cs i [] = pick (eqb i start) (clauses []) (wrong_line start)
clauses_from v zero start cs i (b ∷ l) = wrong_line start
clauses_from v (suc n) start cs i [] = pick (eqb i start) (clauses []) (wrong_line start)
clauses_from v (suc n) start cs i (b ∷ l) = elim (within v (line_from i (b ∷ l))) [
  | Some (Lit c j) ↦ clauses_from v n start (cs ++ c ∷ []) j (drop (j - i) (b ∷ l))
  | Some (Stop j) ↦ cons_clause cs (clauses_from v n j [] j (drop (j - i) (b ∷ l)))
  | None ↦ wrong_line start
]

-- The clauses of the lines from place j of s on.
abbrev pub clauses_at : List ℕ → ℕ → ℕ → Clauses
clauses_at s v j = clauses_from v (length s) j [] j (drop j s)

-- ---- the file

-- The header's V and the clauses, or the place of what is wrong.
pub data File : Type 0 where
  file : ℕ → List (List ℕ) → File
  wrong_at : ℕ → File

-- Whether the digits ks of the header at h count the clauses is asked when every line is right.
unfoldable pub counted_by : ℕ → ℕ → List ℕ → Clauses → File
counted_by h v ks (clauses cls) = pick (eqb (value_from 0 ks) (length cls)) (file v cls) (wrong_at h)
counted_by h v ks (wrong_line i) = wrong_at i

unfoldable pub file_by : List ℕ → ℕ → Head → File
file_by s h (head v ks j) = counted_by h v ks (clauses_at s v j)
file_by s h no_head = wrong_at h

unfoldable pub read_file : List ℕ → File
read_file s = file_by s (header_place false 0 s) (head_from (header_place false 0 s) (drop (header_place false 0 s) s))

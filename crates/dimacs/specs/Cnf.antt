-- The grammar of a DIMACS CNF file, and the bytes that are written for clauses. A clause is the list of its literal codes.
use Rattle.std.specs.Prelude.{ℕ, ◌+◌, ◌/◌, ◌≤◌, ◌≡◌, List, [], ◌∷◌, ◌++◌, ltb, length, get_or}
use Rattle.base.specs.Choice.{pick}
use Rattle.drat.specs.Numeral.{decimal, Numeral, bytes_of}
use Rattle.drat.specs.Grammar.{Signed, numbers}
use Rattle.drat.specs.declared.Format.TheVariants.{Text}

-- The magnitude of a literal's number.
abbrev pub magnitude : ℕ → ℕ
magnitude c = c / 2 + 1

-- ---- the grammar

-- A clause's line: each number with a blank after it, then `0` and the line feed. No magnitude is above v.
pub data Line (v : ℕ) : List ℕ → List ℕ → Type 0 where
  closed : Line v (48 ∷ 10 ∷ []) []
  lit : {bs rest cs : List ℕ} {c : ℕ} → Signed bs c → magnitude c ≤ v → Line v rest cs → Line v (bs ++ 32 ∷ rest) (c ∷ cs)

-- A line for each clause.
pub data Lines (v : ℕ) : List ℕ → List (List ℕ) → Type 0 where
  none : Lines v [] []
  line : {bs rest cs : List ℕ} {cls : List (List ℕ)} → Line v bs cs → Lines v rest cls → Lines v (bs ++ rest) (cs ∷ cls)

-- Bytes without a line feed.
abbrev pub Unbroken : List ℕ → Type 0
Unbroken bs = (i : ℕ) → get_or bs i 0 ≡ 10 → ⊥

-- Lines that start with `c`, each closed by a line feed.
pub data Comments : List ℕ → Type 0 where
  no_comments : Comments []
  comment : (text : List ℕ) {rest : List ℕ} → Unbroken text → Comments rest → Comments (99 ∷ (text ++ 10 ∷ rest))

-- A number of the header: `0`, or digits with no 0 in front.
pub data Count : List ℕ → ℕ → Type 0 where
  nought : Count (48 ∷ []) 0
  some : {bs : List ℕ} {n : ℕ} → Numeral decimal bs n → Count bs n

-- `p cnf ` opens the header.
abbrev pub header_start : List ℕ
header_start = 112 ∷ 32 ∷ 99 ∷ 110 ∷ 102 ∷ 32 ∷ []

-- The header's line with its two numbers, of which the first is at most 4,096.
pub data Header : List ℕ → ℕ → ℕ → Type 0 where
  header : {vs ks : List ℕ} {v k : ℕ} → Count vs v → v ≤ 4096 → Count ks k → Header (header_start ++ (vs ++ 32 ∷ (ks ++ 10 ∷ []))) v k

-- A whole file: `c` lines, the header, and as many clauses as it says.
pub data Cnf : List ℕ → ℕ → List (List ℕ) → Type 0 where
  cnf : {cm hs ls : List ℕ} {v : ℕ} {cls : List (List ℕ)} → Comments cm → Header hs v (length cls) → Lines v ls cls → Cnf (cm ++ (hs ++ ls)) v cls

-- ---- what is written

-- The largest magnitude, 0 of no literal.
unfoldable pub largest : List ℕ → ℕ
largest [] = 0
largest (c ∷ cs) = pick (ltb (largest cs) (magnitude c)) (magnitude c) (largest cs)

abbrev pub header_line : ℕ → ℕ → List ℕ
header_line v k = header_start ++ (bytes_of decimal v ++ 32 ∷ (bytes_of decimal k ++ 10 ∷ []))

abbrev pub clause_line : List ℕ → List ℕ
clause_line cs = numbers Text cs ++ 48 ∷ 10 ∷ []

unfoldable pub clause_lines : List (List ℕ) → List ℕ
clause_lines [] = []
clause_lines (cs ∷ cls) = clause_line cs ++ clause_lines cls

abbrev pub written : ℕ → List (List ℕ) → List ℕ
written v cls = header_line v (length cls) ++ clause_lines cls

-- ---- what is wrong with a file that is refused at place p

pub data WrongAt (s : List ℕ) (p : ℕ) : Type 0 where
  -- There are only `c` lines, of which the last is not closed; p is the file's end.
  unclosed : {cm : List ℕ} (text : List ℕ) → Comments cm → Unbroken text → s ≡ cm ++ 99 ∷ text → p ≡ length s → WrongAt s p
  -- All `c` lines are closed, and at p no header follows; where nothing follows, p is the file's end.
  headless : {cm rest : List ℕ} → Comments cm → s ≡ cm ++ rest → (get_or rest 0 0 ≡ 99 → ⊥) → p ≡ length cm
      → ((hs r : List ℕ) (v k : ℕ) → Header hs v k → rest ≡ hs ++ r → ⊥) → WrongAt s p
  -- The header is right; the line at p is not that of a clause, and all lines before it are.
  lineless : {cm hs ls rest : List ℕ} {v k : ℕ} {cls : List (List ℕ)} → Comments cm → Header hs v k → Lines v ls cls → s ≡ cm ++ (hs ++ (ls ++ rest))
      → p ≡ length cm + length hs + length ls → (rest ≡ [] → ⊥) → ((bs r cs : List ℕ) → Line v bs cs → rest ≡ bs ++ r → ⊥) → WrongAt s p
  -- All lines are right, but they are not as many as the header at p says.
  miscounted : {cm hs ls : List ℕ} {v k : ℕ} {cls : List (List ℕ)} → Comments cm → Header hs v k → Lines v ls cls → s ≡ cm ++ (hs ++ ls)
      → p ≡ length cm → (k ≡ length cls → ⊥) → WrongAt s p

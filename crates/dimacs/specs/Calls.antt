-- The two calls: what they answer, and the words that they fill.
use Rattle.std.specs.Prelude.{ℕ, ◌≡◌, List, [], ◌∷◌, Bool, ◌||◌, not, ltb, length}
use Rattle.std.proofs.lemmas.List.Edits.{sets}
use Rattle.base.specs.Choice.{pick}
use Rattle.base.specs.Answer.{Answer, accepted, refused}
use Rattle.drat.specs.Grammar.{Step, step_of}
use Rattle.drat.specs.Filled.{codes_of, ends_from}
use Rattle.drat.specs.Writing.{Writing, part, codes_test, fitted}
use Rattle.drat.specs.Listed.{rises_to}
use Rattle.drat.specs.declared.Kind.TheVariants.{Add}
use Rattle.dimacs.specs.Cnf.{largest, written}
use Rattle.dimacs.specs.Reading.{Clauses, clauses, wrong_line, clauses_at, File, file, wrong_at, read_file}
use Rattle.dimacs.specs.declared.CnfError.{CnfError}
use Rattle.dimacs.specs.declared.CnfError.TheVariants.{WrongLine, Room}
use Rattle.std.specs.Prelude.{Result, Ok, Err}
use Rattle.drat.specs.declared.Size.{Size}
use Rattle.drat.specs.Filled.{size}
use Rattle.dimacs.specs.declared.CnfSize.{CnfSize}

-- ---- Write CNF

-- The clauses that stand one after another among the codes, the next one's from n on, by each one's end.
unfoldable pub clauses_by : List ℕ → ℕ → List ℕ → List (List ℕ)
clauses_by codes n [] = []
clauses_by codes n (e ∷ es) = part n e codes ∷ clauses_by codes e es

-- A code is too large, or the ends do not lead through all codes: they fall, pass the last literal or leave it out.
abbrev pub unwritable : List ℕ → List ℕ → Bool
unwritable codes es = not (codes_test codes) || not (rises_to (length codes) 0 es)

-- The file of the clauses, from the start of an output of `room` bytes: 3, 2.
abbrev pub write_cnf_of : List ℕ → List ℕ → ℕ → Writing
write_cnf_of codes es room = pick (unwritable codes es) (record { answer = refused 3 []; bytes = [] })
    (fitted (written (largest codes) (clauses_by codes 0 es)) room 0)

-- ---- Read CNF

-- The steps that add the clauses: what is filled for them is what Read fills.
unfoldable pub adds : List (List ℕ) → List Step
adds [] = []
adds (cs ∷ cls) = step_of Add cs ∷ adds cls

abbrev pub all_codes : List (List ℕ) → List ℕ
all_codes cls = codes_of (adds cls)

abbrev pub all_ends : List (List ℕ) → List ℕ
all_ends cls = ends_from 0 (adds cls)

-- What the call answers, and the words that it fills from the start of each slice.
pub record CnfFilling : Type 0 where
  pub answer : Answer
  pub codes : List ℕ
  pub ends : List ℕ

abbrev pub cnf_refusing : ℕ → List ℕ → CnfFilling
cnf_refusing n vs = record { answer = refused n vs; codes = []; ends = [] }

abbrev pub cnf_filling : ℕ → List (List ℕ) → CnfFilling
cnf_filling v cls = record { answer = accepted (v ∷ length (all_codes cls) ∷ length cls ∷ []); codes = all_codes cls; ends = all_ends cls }

-- 17 gives the place of the first wrong line; then 2; a and b are the lengths of the slices for codes and ends.
unfoldable pub cnf_by : File → ℕ → ℕ → CnfFilling
cnf_by (wrong_at i) a b = cnf_refusing 17 (i ∷ [])
cnf_by (file v cls) a b = pick (ltb a (length (all_codes cls)) || ltb b (length cls)) (cnf_refusing 2 []) (cnf_filling v cls)

abbrev pub read_cnf_of : List ℕ → ℕ → ℕ → CnfFilling
read_cnf_of s a b = cnf_by (read_file s) a b

-- A header's V, and the numbers of literals and of clauses.
abbrev pub cnf_size : ℕ → ℕ → ℕ → CnfSize
cnf_size v n m = record { variables = v; lits = n; clauses = m }

-- What the call returns: these three; 17 and the place; 2.
abbrev pub cnf_read : Result CnfSize CnfError → Answer
cnf_read (Ok w) = accepted (w.variables ∷ w.lits ∷ w.clauses ∷ [])
cnf_read (Err (WrongLine p)) = refused 17 (p ∷ [])
cnf_read (Err Room) = refused 2 []

-- ---- one scan of the lines, which stores where there is room

-- The number of literals and of clauses, each a step that adds it, or the start of the first wrong line.
unfoldable pub tallied : Clauses → Result Size ℕ
tallied (clauses cls) = Ok (size (length (all_codes cls)) (length cls))
tallied (wrong_line i) = Err i

-- Its answer, and, where every line is right, what the two slices hold.
pub record LineScan (s : List ℕ) (v from : ℕ) (codes₀ ends₀ codes ends : List ℕ) (r : Result Size ℕ) : Type 0 where
  pub answer : r ≡ tallied (clauses_at s v from)
  pub filled : (cls : List (List ℕ)) → clauses_at s v from ≡ clauses cls → (codes ≡ sets codes₀ 0 (all_codes cls)) × (ends ≡ sets ends₀ 0 (all_ends cls))

-- What stays of a section and what is deleted, by the lists that these read: what `stays`, `kept_at` and `deletes_at` of scope/specs/Binary.antt read of a
-- table.
use Rattle.std.specs.Prelude.{ℕ, ◌≤◌, ◌<◌, Bool, true, ◌&&◌, not, ◌≢◌, List, [], ◌∷◌, map, eqb, ltb, length, get_or}
use Rattle.base.specs.Bounded.{keep_of}
use Rattle.drat.specs.Grammar.{Step, step_of, encode}
use Rattle.drat.specs.declared.Format.{Format}
use Rattle.drat.specs.declared.Kind.TheVariants.{Delete}
use Rattle.scope.specs.Literals.{index_of, not_lit}
use Rattle.scope.specs.Binary.{section_at, section_words, each_section}
use Rattle.steps.specs.Names.{names_by}

-- ---- an entry and a section

abbrev pub stays_by : List ℕ → ℕ → ℕ → Bool
stays_by assignment l m = eqb (get_or assignment (index_of l) 0) 0 && eqb (get_or assignment (index_of m) 0) 0

abbrev pub kept_by : List ℕ → ℕ → List ℕ → List ℕ
kept_by assignment l es = keep_of (stays_by assignment l) es

-- the entry has a delete step, where x is not l
abbrev pub goes_as : List ℕ → ℕ → ℕ → ℕ → Bool
goes_as assignment l x m = not (stays_by assignment l m) && ltb x m

abbrev pub goes_by : List ℕ → ℕ → ℕ → Bool
goes_by assignment l m = goes_as assignment l (not_lit l) m

-- the delete step of the clause x or m, and of that of the entry m under l
abbrev pub clause_by : List ℕ → ℕ → ℕ → Step
clause_by gs x m = step_of Delete (names_by gs true (x ∷ m ∷ []))

abbrev pub delete_by : List ℕ → ℕ → ℕ → Step
delete_by gs l m = clause_by gs (not_lit l) m

abbrev pub deletes_by : List ℕ → List ℕ → ℕ → List ℕ → List Step
deletes_by gs assignment l es = map (delete_by gs l) (keep_of (goes_by assignment l) es)

-- no global holds the literal's index
abbrev pub unheld_by : List ℕ → ℕ → Bool
unheld_by gs c = eqb (get_or gs (index_of c) 0) 0

-- ---- all sections

abbrev pub words_by : List ℕ → List (List ℕ) → List ℕ
words_by assignment ss = each_section (λ l es. section_words (kept_by assignment l es)) 0 ss

abbrev pub entries_by : List ℕ → List (List ℕ) → List ℕ
entries_by assignment ss = each_section (kept_by assignment) 0 ss

abbrev pub bytes_by : Format → List ℕ → List ℕ → List (List ℕ) → List ℕ
bytes_by f gs assignment ss = encode f (each_section (deletes_by gs assignment) 0 ss)

-- ---- names

-- The clause x or m can be named: no word of the map is over 4,096, and both indices have a holder.
pub record Pair (gs : List ℕ) (x m : ℕ) : Type 0 where
  pub small : (s : ℕ) → get_or gs s 0 ≤ 4096
  pub first : get_or gs (index_of x) 0 ≢ 0
  pub second : get_or gs (index_of m) 0 ≢ 0

-- So can those of the section of l: not l has the index of l.
abbrev pub Named : List ℕ → ℕ → List ℕ → Type 0
Named gs l es = (i : ℕ) → i < length es → Pair gs l (get_or es i 0)

-- and those of every section
abbrev pub AllNamed : List ℕ → List (List ℕ) → Type 0
AllNamed gs ss = (l : ℕ) → Named gs l (section_at ss l)

-- a watermark and a map of a sound table
pub record Small (solver : ℕ) (gs : List ℕ) : Type 0 where
  pub mark : solver ≤ 4096
  pub words : (s : ℕ) → get_or gs s 0 ≤ 4096

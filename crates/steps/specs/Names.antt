-- Literals under global names by the map `gs` alone: what `holders` of scope/specs/Write.antt reads of a table.
use Rattle.std.specs.Prelude.{ℕ, ◌≤◌, ◌<◌, ◌≡◌, Bool, true, false, ◌||◌, ◌≢◌, List, eqb, ltb, length, get_or}
use Rattle.base.specs.Bounded.{any_of}
use Rattle.drat.specs.Grammar.{Codes}
use Rattle.scope.specs.Literals.{index_of}
use Rattle.scope.specs.Write.{rename_lits}

abbrev pub names_by : List ℕ → Bool → List ℕ → List ℕ
names_by gs solver_vars lits = rename_lits (λ s. get_or gs s 0) solver_vars lits

-- Literals whose names can be found and written: not too many; no word of the map over 4,096; each solver literal's index has a holder, and each
-- global literal's code is below 8,192.
pub record Nameable (gs : List ℕ) (solver_vars : Bool) (lits : List ℕ) : Type 0 where
  pub few : length lits ≤ 8192
  pub small : (s : ℕ) → get_or gs s 0 ≤ 4096
  pub held : solver_vars ≡ true → (i : ℕ) → i < length lits → get_or gs (index_of (get_or lits i 0)) 0 ≢ 0
  pub codes : solver_vars ≡ false → Codes lits

-- Literals whose names can be found: no word of the map at their indices is over 4,096, nor 0 where they are solver literals.
abbrev pub Named : List ℕ → Bool → List ℕ → Type 0
Named gs solver_vars lits = (i : ℕ) → i < length lits → (get_or gs (index_of (get_or lits i 0)) 0 ≤ 4096)
    × (solver_vars ≡ true → get_or gs (index_of (get_or lits i 0)) 0 ≢ 0)

-- A solver literal has no name by the map: the word of its index is 0, or over 4,096, which no sound table has. Some literal has none.
abbrev pub lacks : List ℕ → ℕ → Bool
lacks gs c = eqb (get_or gs (index_of c) 0) 0 || ltb 4096 (get_or gs (index_of c) 0)

abbrev pub unnamed : List ℕ → List ℕ → Bool
unnamed gs lits = any_of (lacks gs) lits

-- A clause before its values are looked at, and a clause from which false literals went.
use Rattle.std.specs.Prelude.{ℕ, ◌≤◌, ◌≡◌, true, not, List, length}
use Rattle.drat.specs.Grammar.{Codes}
use Rattle.scope.specs.declared.Simplified.{Simplified}
use Rattle.scope.specs.declared.Simplified.TheVariants.{Shortened, Binary}
use Rattle.scope.specs.Table.{Table}
use Rattle.scope.specs.Sound.{soundb}
use Rattle.scope.specs.Simplify.{simplified}
use Rattle.base.specs.Choice.{pick}
use Rattle.steps.specs.Refusals.{literal_refusal}

-- 1; 3, over 8,192 literals; 8.
unfoldable pub clause_refusal : Table → List ℕ → ℕ
clause_refusal t lits = pick (not (soundb t)) 1 (literal_refusal t true lits)

-- no such refusal, and sorted so by its values
pub record SortedAs (t : Table) (lits : List ℕ) (what : Simplified) : Type 0 where
  pub passes : clause_refusal t lits ≡ 0
  pub sort : simplified t lits ≡ what

-- false literals went: more than two are left, or two
pub data Cuts : Simplified → Type 0 where
  shortened : Cuts Shortened
  binary : Cuts Binary

-- literals that can be written: no code too large, and not too many
pub record Written (lits : List ℕ) : Type 0 where
  pub codes : Codes lits
  pub few : length lits ≤ 8192

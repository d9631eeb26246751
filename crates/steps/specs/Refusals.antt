-- The refusals of a step, one by one: 3 and 8 for its literals, 2 for its bytes.
use Rattle.std.specs.Prelude.{ℕ, Bool, List, [], ltb, length, Result, Ok, Err}
use Rattle.base.specs.Choice.{pick}
use Rattle.scope.specs.declared.Refusal.{Refusal}
use Rattle.scope.specs.declared.Refusal.TheVariants.{Short}
use Rattle.scope.specs.Table.{Table}
use Rattle.scope.specs.Marks.{lits_held_else}
use Rattle.scope.specs.Write.{outside}

-- 3; 8 for a solver literal.
unfoldable pub literal_refusal : Table → Bool → List ℕ → ℕ
literal_refusal t solver_vars lits = pick (outside t solver_vars lits) 3 (lits_held_else t solver_vars lits 0)

-- Bytes with room for so many: what is answered, 2 or their number, and what is filled.
abbrev pub laid : List ℕ → ℕ → Result ℕ Refusal
laid bytes room = pick (ltb room (length bytes)) (Err Short) (Ok (length bytes))

abbrev pub laid_bytes : List ℕ → ℕ → List ℕ
laid_bytes bytes room = pick (ltb room (length bytes)) [] bytes

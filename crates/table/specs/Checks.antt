-- The tests of soundness (document 01, "Words used") at one index.
use Rattle.std.specs.Prelude.{ℕ, Bool, ◌&&◌, ◌||◌, not, List, eqb, ltb, leb, get_or}
use Rattle.std.specs.Bool.{beq}
use Rattle.scope.specs.Table.{mode_of, isolated_of, is_shown}

-- The map holds an index at i.
abbrev pub is_filled : List ℕ → ℕ → Bool
is_filled xs i = not (eqb (get_or xs i 0) 0)

-- The record r of a global, with its user word and its solver word: at most 71; a user exactly if undeleted and not Hide; if deleted, then
-- Hide, isolated and without solver index.
unfoldable pub rowb : ℕ → ℕ → ℕ → Bool
rowb r user solver =
    leb r 71
    && beq (not (eqb user 0)) (is_shown r)
    && (ltb r 36 || (eqb (mode_of r) 2 && eqb (isolated_of r) 1 && eqb solver 0))

-- Lookup (document 01): an index at or beyond the watermark is none.
use Rattle.std.specs.Prelude.{ℕ, not, List, [], ◌∷◌, ltb, get_or}
use Rattle.base.specs.Choice.{pick}
use Rattle.scope.specs.Table.{Table, word, record_of}
use Rattle.scope.specs.Sound.{soundb}
use Rattle.scope.specs.Outcome.{Outcome, unless, telling}

-- What a map says of an index: nothing, or one index.
unfoldable pub found : List ℕ → ℕ → ℕ → List ℕ
found xs mark i = pick (ltb i mark) (word [] (λ j. j ∷ []) (get_or xs i 0)) []

unfoldable pub lookup_of : Table → List ℕ → Outcome
lookup_of t values = unless (pick (not (soundb t)) 1 0) t (telling values t)

-- the four directions
unfoldable pub global_from_user_of : Table → ℕ → Outcome
global_from_user_of t u = lookup_of t (found t.global_from_user t.counts.user u)

unfoldable pub user_from_global_of : Table → ℕ → Outcome
user_from_global_of t g = lookup_of t (found t.user_from_global t.counts.global g)

unfoldable pub solver_from_global_of : Table → ℕ → Outcome
solver_from_global_of t g = lookup_of t (found t.solver_from_global t.counts.global g)

unfoldable pub global_from_solver_of : Table → ℕ → Outcome
global_from_solver_of t s = lookup_of t (found t.global_from_solver t.counts.solver s)

-- the record of a global, and the assignment word of a solver index
unfoldable pub record_word_of : Table → ℕ → Outcome
record_word_of t g = lookup_of t (pick (ltb g t.counts.global) (record_of t g ∷ []) [])

unfoldable pub assignment_word_of : Table → ℕ → Outcome
assignment_word_of t s = lookup_of t (pick (ltb s t.counts.solver) (get_or t.assignment s 0 ∷ []) [])

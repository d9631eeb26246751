-- Model (document 01, "Afterwards: the model"; `reconstruct_global_model`, then `model`).
use Rattle.std.specs.Prelude.{ℕ, zero, suc, ◌-◌, ◌||◌, not, List, [], ◌∷◌, ◌++◌, eqb, ltb, length, get_or}
use Rattle.base.specs.Choice.{pick}
use Rattle.base.specs.Answer.{accepted}
use Rattle.scope.specs.Literals.{code_of}
use Rattle.scope.specs.Table.{Table, word, unit_of, is_deleted, record_of}
use Rattle.scope.specs.Sound.{soundb}
use Rattle.scope.specs.Outcome.{Outcome, unless}

-- The value of a global: none if deleted; that of the solver index it holds; without one, its unit, and false where there is no unit.
unfoldable pub global_value : Table → ℕ → ℕ
global_value t g =
    pick (is_deleted (record_of t g)) 0
    (word (pick (eqb (unit_of (record_of t g)) 0) 1 (unit_of (record_of t g))) (λ s. get_or t.assignment s 0) (get_or t.solver_from_global g 0))

-- f 0, .., f (n - 1) in a row
unfoldable pub row_of : ℕ → (ℕ → List ℕ) → List ℕ
row_of zero f = []
row_of (suc n) f = row_of n f ++ f n

-- a word for each global, up to the watermark: 0 none, 1 false, 2 true
unfoldable pub global_model : Table → List ℕ
global_model t = row_of t.counts.global (λ g. global_value t g ∷ [])

-- the literal of user u whose value is v; without a value there is none
unfoldable pub user_literal : ℕ → ℕ → List ℕ
user_literal u v = pick (eqb v 0) [] (code_of u (2 - v) ∷ [])

-- user literals of mapped users in ascending order
unfoldable pub user_model : Table → List ℕ
user_model t = row_of t.counts.user (λ u. word [] (λ g. user_literal u (global_value t g)) (get_or t.global_from_user u 0))

-- 1, 2.
unfoldable pub model_refusal : Table → ℕ → ℕ → ℕ
model_refusal t globals users =
    pick (not (soundb t)) 1
    (pick (ltb globals (length (global_model t)) || ltb users (length (user_model t))) 2 0)

-- The global words and the user literals are filled; the answer is how many of each.
unfoldable pub model_of : Table → ℕ → ℕ → Outcome
model_of t globals users =
    unless (model_refusal t globals users) t
    (record {
      answer = accepted (length (global_model t) ∷ length (user_model t) ∷ []);
      table = t;
      notes = [];
      words = global_model t;
      more = user_model t;
      bytes = [];
    })

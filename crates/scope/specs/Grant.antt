-- Grant (document 01, `solver_from_global`): a global that holds no solver index gets the least free one.
use Rattle.std.specs.Prelude.{ℕ, not, [], ◌∷◌, leb, get_or}
use Rattle.scope.specs.Table.{Table, word, record_of, is_deleted, next_solver, give_solver}
use Rattle.scope.specs.Sound.{soundb}
use Rattle.scope.specs.Notes.{solver+}
use Rattle.base.specs.Choice.{pick}
use Rattle.scope.specs.Outcome.{Result, stay, Outcome, unless, short, noting}

-- a global without solver index gets the least unmapped one; note S
unfoldable pub grant_one : ℕ → Table → Result ℕ
grant_one g t = record { value = next_solver t; table = give_solver g (next_solver t) t; notes = solver+ g (next_solver t) ∷ [] }

unfoldable pub grant : ℕ → Table → Result ℕ
grant g t = word (grant_one g t) (λ s. stay s t) (get_or t.solver_from_global g 0)

-- 1; 3 for a global that was never used; 6 for a deleted one; 2.
unfoldable pub grant_refusal : Table → ℕ → ℕ → ℕ
grant_refusal t g room =
    pick (not (soundb t)) 1
    (pick (leb t.counts.global g) 3
    (pick (is_deleted (record_of t g)) 6
    (pick (short room (grant g t).notes) 2 0)))

-- The answer is the solver index and the count of notes.
unfoldable pub grant_of : Table → ℕ → ℕ → Outcome
grant_of t g room = unless (grant_refusal t g room) t (noting (λ s. s ∷ []) (grant g t))

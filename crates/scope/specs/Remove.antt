-- Remove and Sweep (document 01, `remove_solver_var`, last loop of `unit_simplify`; document 02, order 2).
use Rattle.std.specs.Prelude.{ℕ, ◌&&◌, not, List, [], ◌∷◌, eqb, get_or}
use Rattle.scope.specs.Table.{Table, word, isolated_of, assumed_of, record_of, with_unit, take_solver, put_record}
use Rattle.scope.specs.Sound.{soundb}
use Rattle.scope.specs.Notes.{solver-}
use Rattle.base.specs.Choice.{pick}
use Rattle.scope.specs.Outcome.{Result, stay, choose, joined, each, Outcome, unless, short, noting}
use Rattle.scope.specs.Modes.{delete_if_unused}
use Rattle.scope.specs.Marks.{holder_of, held_else}

-- S(g,-), then D if unused. The assignment word stays.
unfoldable pub remove_held : ℕ → ℕ → Table → Result (List ℕ)
remove_held g s t = joined (record { value = []; table = take_solver g s t; notes = solver- g ∷ [] }) (delete_if_unused g)

unfoldable pub remove : ℕ → Table → Result (List ℕ)
remove s t = remove_held (holder_of t s) s t

-- 1; 8, solver index not held; 16, the global that holds it is assumed; 2.
unfoldable pub remove_refusal : Table → ℕ → ℕ → ℕ
remove_refusal t s room =
    pick (not (soundb t)) 1
    (held_else t s
    (pick (eqb (assumed_of (record_of t (holder_of t s))) 1) 16
    (pick (short room (remove s t).notes) 2 0)))

-- The answer is the count of notes.
unfoldable pub remove_of : Table → ℕ → ℕ → Outcome
remove_of t s room = unless (remove_refusal t s room) t (noting (λ us. []) (remove s t))

-- ---- Sweep, over the held solver indices, the least first: a value is learnt as the unit of its global, which it isolates; then an isolated
-- global that is not assumed loses the index.

unfoldable pub learn : ℕ → ℕ → Table → Table
learn g s t = word t (λ v. put_record g (with_unit (record_of t g) (get_or t.assignment s 0)) t) (get_or t.assignment s 0)

unfoldable pub sweep_held : ℕ → ℕ → Table → Result (List ℕ)
sweep_held g s t =
    choose (eqb (isolated_of (record_of t g)) 1 && eqb (assumed_of (record_of t g)) 0) (remove_held g s t) (stay [] t)

unfoldable pub sweep_one : ℕ → Table → Result (List ℕ)
sweep_one s t = word (stay [] t) (λ g. sweep_held g s (learn g s t)) (get_or t.global_from_solver s 0)

unfoldable pub sweep : Table → Result (List ℕ)
sweep t = each t.counts.solver sweep_one t

-- 1, 2.
unfoldable pub sweep_refusal : Table → ℕ → ℕ
sweep_refusal t room = pick (not (soundb t)) 1 (pick (short room (sweep t).notes) 2 0)

-- The answer is the count of notes.
unfoldable pub sweep_of : Table → ℕ → Outcome
sweep_of t room = unless (sweep_refusal t room) t (noting (λ us. []) (sweep t))

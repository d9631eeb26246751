-- Marks and Assign (document 01): marks are added, for writes through `var_data_solver_mut`; `assign_lit`.
use Rattle.std.specs.Prelude.{ℕ, ◌+◌, ◌-◌, ◌*◌, ◌/◌, ◌%◌, Bool, ◌&&◌, not, List, eqb, get_or}
use Rattle.scope.specs.declared.Mark.{Mark}
use Rattle.scope.specs.declared.Mark.TheVariants.{Used, Assumed, Released}
use Rattle.scope.specs.Literals.{index_of, sign_of}
use Rattle.scope.specs.Table.{Table, record_of, put_record, put_value}
use Rattle.scope.specs.Sound.{soundb}
use Rattle.base.specs.Choice.{pick}
use Rattle.base.specs.Bounded.{any_of}
use Rattle.scope.specs.Outcome.{Outcome, unless, changing}

-- no global holds the solver index
unfoldable pub not_held : Table → ℕ → Bool
not_held t s = eqb (get_or t.global_from_solver s 0) 0

-- a solver literal whose index is not held
unfoldable pub unheld : Table → Bool → List ℕ → Bool
unheld t solver_vars lits = solver_vars && any_of (λ c. not_held t (index_of c)) lits

-- 8, solver index not held; then `rest`. The same of literals, where they are solver literals.
unfoldable pub held_else : Table → ℕ → ℕ → ℕ
held_else t s rest = pick (not_held t s) 8 rest

unfoldable pub lits_held_else : Table → Bool → List ℕ → ℕ → ℕ
lits_held_else t solver_vars lits rest = pick (unheld t solver_vars lits) 8 rest

-- the global that holds it
abbrev pub holder_of : Table → ℕ → ℕ
holder_of t s = get_or t.global_from_solver s 0 - 1

-- used clears isolated; assumed is set or cleared
abbrev pub marked : Mark → ℕ → ℕ
marked Used r = r / 18 * 18 + r % 9
marked Assumed r = r / 36 * 36 + 18 + r % 18
marked Released r = r / 36 * 36 + r % 18

unfoldable pub mark : Mark → ℕ → Table → Table
mark m s t = put_record (holder_of t s) (marked m (record_of t (holder_of t s))) t

-- 1; 8, solver index not held.
unfoldable pub mark_refusal : Table → ℕ → ℕ
mark_refusal t s = pick (not (soundb t)) 1 (held_else t s 0)

unfoldable pub mark_of : Table → Mark → ℕ → Outcome
mark_of t m s = unless (mark_refusal t s) t (changing (mark m s t))

-- the value that makes a literal true: 2 if it is positive, 1 if it is negative
abbrev pub true_value : ℕ → ℕ
true_value c = 2 - sign_of c

-- 1, 8; 9, has a value.
unfoldable pub assign_refusal : Table → ℕ → ℕ
assign_refusal t c =
    pick (not (soundb t)) 1
    (held_else t (index_of c)
    (pick (not (eqb (get_or t.assignment (index_of c) 0) 0)) 9 0))

-- Assign makes a solver literal true, once.
unfoldable pub assign_of : Table → ℕ → Outcome
assign_of t c = unless (assign_refusal t c) t (changing (put_value (index_of c) (true_value c) t))

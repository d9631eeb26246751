-- How many notes a removal and a sweep make, told before anything is written.
use Rattle.std.specs.Prelude.{ℕ, Bool, ◌&&◌, List, eqb, get_or}
use Rattle.base.specs.Choice.{pick}
use Rattle.scope.specs.Table.{Table, word, isolated_of, assumed_of, with_unit}

-- Of the removal of a solver index, by the user word and the record of its global: S, and D if there is no user and it is isolated.
unfoldable pub removal_notes : ℕ → ℕ → ℕ
removal_notes user r = pick (eqb user 0 && eqb (isolated_of r) 1) 2 1

-- the record r after the value v was learnt
unfoldable pub learnt : ℕ → ℕ → ℕ
learnt r v = word r (λ i. with_unit r v) v

-- isolated and not assumed
abbrev pub is_loose : ℕ → Bool
is_loose r = eqb (isolated_of r) 1 && eqb (assumed_of r) 0

-- Of the sweep of a held solver index, by the user word and the record of its global, and its value.
unfoldable pub swept_notes : ℕ → ℕ → ℕ → ℕ
swept_notes user r v = pick (is_loose (learnt r v)) (removal_notes user (learnt r v)) 0

-- Of the sweep of a solver index, by the lists that are looked at, and of a table.
unfoldable pub notes_by : List ℕ → List ℕ → List ℕ → List ℕ → ℕ → ℕ
notes_by ug gs assignment records s = word 0 (λ g. swept_notes (get_or ug g 0) (get_or records g 47) (get_or assignment s 0)) (get_or gs s 0)

abbrev pub notes_at : Table → ℕ → ℕ
notes_at t s = notes_by t.user_from_global t.global_from_solver t.assignment t.records s

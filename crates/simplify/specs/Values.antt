-- A literal's value by the assignment alone: what `is_true`, `is_false` and `unfalse` of scope/specs/Simplify.antt read of a table.
use Rattle.std.specs.Prelude.{ℕ, ◌+◌, ◌-◌, Bool, not, List, eqb, get_or}
use Rattle.base.specs.Bounded.{keep_of}
use Rattle.scope.specs.Literals.{index_of, sign_of}

abbrev pub true_by : List ℕ → ℕ → Bool
true_by assignment c = eqb (get_or assignment (index_of c) 0) (2 - sign_of c)

abbrev pub false_by : List ℕ → ℕ → Bool
false_by assignment c = eqb (get_or assignment (index_of c) 0) (1 + sign_of c)

abbrev pub unfalse_by : List ℕ → List ℕ → List ℕ
unfalse_by assignment lits = keep_of (λ c. not (false_by assignment c)) lits

-- Calls that are lent only some lists of a table.
use Prim.Native.Nat.{ℕ}
use mathlib.Core.Path.{◌≡◌, subst, ◌∙◌}
use mathlib.Core.List.{List}
use Rattle.base.specs.Answer.{Answer}
use Rattle.scope.specs.Table.{Table}
use Rattle.scope.specs.Outcome.{Outcome}
use Rattle.changes.specs.AtOnce.{AtOnce}
use Rattle.numbers.specs.Surface.{Given}

-- the table left, by another name
pub left_same : {o : Outcome} {layout : Answer → List ℕ} {ns : List ℕ} {left left' : Table} {words words' : List ℕ} → left' ≡ left
    → Given o layout ns left words words' → Given o layout ns left' words words'
left_same e g = record { fields = g.fields; table = e ∙ g.table; noted = g.noted }

-- what is said at once, by another name
pub once_same : {call : ℕ → Outcome} {t : Table} {vs ws : List ℕ} → vs ≡ ws → AtOnce call t vs → AtOnce call t ws
once_same {call = call} {t = t} e h = subst (λ (vs : List ℕ). AtOnce call t vs) e h

-- A call that is done at once: it is accepted and there is nothing to do, so that it makes no note and leaves the table as it was. What it finds is
-- then read off the lists ("held already" of Grant, "mapped already" of Map).
use Rattle.std.specs.Prelude.{ℕ, zero, suc, ◌≡◌, List, [], ◌∷◌, length, Option, Some, None}
use Rattle.base.specs.Answer.{Answer, accepted, refused}
use Rattle.scope.specs.declared.Global.{Global}
use Rattle.scope.specs.declared.Solver.{Solver}
use Rattle.scope.specs.Table.{Table}
use Rattle.scope.specs.Outcome.{Outcome}
use Rattle.scope.specs.Contract.{Does}

-- the value of an accepted answer whose count of notes is 0, else nothing
abbrev pub value_at_once : Answer → List ℕ
value_at_once (accepted []) = []
value_at_once (accepted (v ∷ [])) = []
value_at_once (accepted (v ∷ zero ∷ [])) = v ∷ []
value_at_once (accepted (v ∷ zero ∷ w ∷ ws)) = []
value_at_once (accepted (v ∷ suc n ∷ ws)) = []
value_at_once (refused n vs) = []

abbrev pub at_once : Outcome → List ℕ
at_once o = value_at_once o.answer

-- the index found, or nothing
abbrev pub global_found : Option Global → List ℕ
global_found (Some g) = g.0 ∷ []
global_found None = []

abbrev pub solver_found : Option Solver → List ℕ
solver_found (Some s) = s.0 ∷ []
solver_found None = []

-- Of a call on the table t, by the room lent for notes, vs is what is said at once: its value, where it is accepted with no note, whatever the
-- room; nothing, where it is refused or makes a note. In the first case the table and the words lent for notes stay as they were.
pub record AtOnce (call : ℕ → Outcome) (t : Table) (vs : List ℕ) : Type 0 where
  pub value : (room : ℕ) → vs ≡ at_once (call room)
  pub stays : (v : ℕ) → vs ≡ v ∷ [] → (words : List ℕ)
      → Does (call (length words)) (record { answer = accepted (v ∷ 0 ∷ []); counts = t.counts }) t words words

-- Pose at once: all users have solver indices, so that nothing is mapped or granted.
use Rattle.std.specs.Prelude.{ℕ, ◌≡◌, Bool, false, ◌&&◌, ◌||◌, not, List, [], ◌∷◌, eqb, ltb, length, get_or}
use Rattle.std.proofs.lemmas.List.Edits.{sets}
use Rattle.base.specs.Choice.{pick}
use Rattle.scope.specs.Table.{Table, word, mode_of}
use Rattle.scope.specs.Pose.{pose_of}
use Rattle.changes.specs.AtOnce.{AtOnce}

-- the user has a solver index, below 4,096, and its global is Sample if that is required
unfoldable pub is_ready : List ℕ → List ℕ → List ℕ → Bool → ℕ → Bool
is_ready gu sg records sampling u =
    word false
    (λ g. word false (λ s. ltb s 4096 && (not sampling || (ltb g (length records) && eqb (mode_of (get_or records g 0)) 0))) (get_or sg g 0))
    (get_or gu u 0)

-- The answer r: Pose on the table t is accepted with no note, whatever the room for notes, and then the table and the words lent for notes stay as they
-- were; else it is refused or makes a note. The solver literals are filled in the first case; in the second nothing is.
pub record PosedAtOnce (t : Table) (lits : List ℕ) (sampling r : Bool) (out out' : List ℕ) : Type 0 where
  pub once : AtOnce (λ room. pose_of t lits sampling (length out) room) t (pick r (length lits ∷ []) [])
  pub filled : (room : ℕ) → out' ≡ pick r (sets out 0 (pose_of t lits sampling (length out) room).words) out

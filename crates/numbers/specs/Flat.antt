-- What the functions of this crate promise: the flat answer of an enum's case, before it is tied to a call's definition.
use Rattle.std.specs.Prelude.{ℕ, ◌≡◌, List, [], ◌∷◌, take}
use Rattle.base.specs.Answer.{Answer, accepted, refused}
use Rattle.scope.specs.declared.Counts.{Counts}
use Rattle.scope.specs.Contract.{Said}

-- An answer told in numbers ns by a layout, and in counts d.
pub record Numbered (said : Said) (layout : Answer → List ℕ) (ns : List ℕ) (d : Counts) : Type 0 where
  pub fields : ns ≡ layout said.answer
  pub counts : d ≡ said.counts

-- the layout of Rename without the step
abbrev pub stepless : Answer → List ℕ
stepless (accepted vs) = 0 ∷ take 2 vs
stepless (refused k ps) = k ∷ 0 ∷ 0 ∷ []

-- Assumptions over a session (document 02, order 2): solver indices held by assumed globals, and calls that do not take an assumption back.
use Rattle.std.specs.Prelude.{ℕ, ◌≡◌, ◌≢◌, List, [], ◌∷◌}
use Rattle.scope.specs.declared.Mark.TheVariants.{Released}
use Rattle.scope.specs.Literals.{index_of, sign_of}
use Rattle.scope.specs.Table.{Table, assumed_of}
use Rattle.scope.specs.Lookup.{global_from_solver_of, record_word_of}
use Rattle.scope.specs.Calls.{mark}
use Rattle.session.specs.Session.{Turn, Says}

-- Lookup says that global g holds solver index s, and its record has the assumed part.
pub record AssumedBy (t : Table) (g s : ℕ) : Type 0 where
  pub held : Says global_from_solver_of t s g
  pub word : ℕ
  pub recorded : Says record_word_of t g word
  pub assumed : assumed_of word ≡ 1

-- None of the calls is Released of s.
abbrev pub NoneReleases : List Turn → ℕ → Type 0
NoneReleases [] s = Unit {0}
NoneReleases (x ∷ xs) s = (x.call ≢ mark Released s) × NoneReleases xs s

-- Solver literals with the global literals that they stand for: each index is held by the assumed global, the sign is the same, and none of the calls
-- is Released of the index.
abbrev pub LitsAssumed : Table → List Turn → List ℕ → List ℕ → Type 0
LitsAssumed t xs [] [] = Unit {0}
LitsAssumed t xs [] (d ∷ ds) = ⊥
LitsAssumed t xs (c ∷ cs) [] = ⊥
LitsAssumed t xs (c ∷ cs) (d ∷ ds) =
    AssumedBy t (index_of d) (index_of c) × (sign_of d ≡ sign_of c) × NoneReleases xs (index_of c) × LitsAssumed t xs cs ds

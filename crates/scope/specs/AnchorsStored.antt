-- Anchors of refusal 1 by the stored numbers (document 02, order 5): a table that is sound but for one of them is refused with 1 in every call.
use Rattle.std.specs.Prelude.{false, true, List, [], ◌∷◌, ◌++◌}
use Rattle.drat.specs.declared.Format.TheVariants.{Text}
use Rattle.scope.specs.declared.Mark.TheVariants.{Used}
use Rattle.scope.specs.declared.SamplingMode.TheVariants.{Witness}
use Rattle.scope.specs.declared.ProofStep.TheVariants.{AtClause}
use Rattle.scope.specs.Table.{Table}
use Rattle.scope.specs.Lookup.{global_from_user_of}
use Rattle.scope.specs.Map.{map_of, new_user_of}
use Rattle.scope.specs.Grant.{grant_of}
use Rattle.scope.specs.Pose.{pose_of}
use Rattle.scope.specs.Modes.{set_mode_of, observe_of}
use Rattle.scope.specs.Marks.{mark_of, assign_of}
use Rattle.scope.specs.Remove.{remove_of, sweep_of}
use Rattle.scope.specs.Simplify.{simplify_of}
use Rattle.scope.specs.Binary.{binary_of}
use Rattle.scope.specs.Write.{rename_of, write_of}
use Rattle.scope.specs.Models.{model_of}
use Rattle.scope.specs.Anchors.{Anchor, ◌is◌, does, w1, w2, tab, turns}

-- user 0 and solver index 0 of global 0, with 1 global undeleted and 1 the least unmapped solver index: another number of either
abbrev pub miscounted : Table
miscounted = tab 2 1 1 1 0 1 (w2 1 0) (w2 1 0) (w2 1 0) (w2 1 0) (w2 0 0) (w2 9 47)

abbrev pub misplaced : Table
misplaced = tab 2 1 1 1 1 0 (w2 1 0) (w2 1 0) (w2 1 0) (w2 1 0) (w2 0 0) (w2 9 47)

-- every call, with room for all that it would do
abbrev pub every_call : Table → List Anchor
every_call t =
    does (global_from_user_of t 0) is turns 1 t
    ∷ does (map_of t 1 false 9) is turns 1 t
    ∷ does (new_user_of t 9) is turns 1 t
    ∷ does (grant_of t 0 9) is turns 1 t
    ∷ does (pose_of t (w1 2) false 9 9) is turns 1 t
    ∷ does (set_mode_of t 0 Witness 9) is turns 1 t
    ∷ does (observe_of t 9 9) is turns 1 t
    ∷ does (mark_of t Used 0) is turns 1 t
    ∷ does (assign_of t 0) is turns 1 t
    ∷ does (remove_of t 0 9) is turns 1 t
    ∷ does (sweep_of t 9) is turns 1 t
    ∷ does (simplify_of Text t (w1 0) true 9 99) is turns 1 t
    ∷ does (binary_of Text t (w2 0 0) 9 99) is turns 1 t
    ∷ does (rename_of t (AtClause false) true (w1 0) [] 9 9) is turns 1 t
    ∷ does (write_of Text t (AtClause false) true (w1 0) [] 99) is turns 1 t
    ∷ does (model_of t 9 9) is turns 1 t
    ∷ []

abbrev pub stored_rows : List Anchor
stored_rows = every_call miscounted ++ every_call misplaced

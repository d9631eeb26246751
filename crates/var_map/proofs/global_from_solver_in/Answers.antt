use mathlib.Core.Path.{refl}
use Rattle.scope.specs.Lookup.{global_from_solver_of}
use Rattle.scope.proofs.SoundLaws.{sound_of}
use Rattle.var_map.proofs.LookupLaws.{in_found}
use Rattle.var_map.proofs.global_from_solver_in.Goals as goal

pub returns : goal.returns
unfolding global_from_solver_of
returns c = λ t k p. in_found _ _ (λ j. refl) t k _ _ _ _ (sound_of t k).solver.atail p _ c.holder.ensures

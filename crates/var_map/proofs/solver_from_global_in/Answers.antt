use mathlib.Core.Path.{refl}
use Rattle.scope.specs.Lookup.{solver_from_global_of}
use Rattle.scope.proofs.SoundLaws.{sound_of}
use Rattle.var_map.proofs.LookupLaws.{in_found}
use Rattle.var_map.proofs.solver_from_global_in.Goals as goal

pub returns : goal.returns
unfolding solver_from_global_of
returns c = λ t k p. in_found _ _ (λ j. refl) t k _ _ _ _ (sound_of t k).solver.btail p _ c.solver_of.ensures

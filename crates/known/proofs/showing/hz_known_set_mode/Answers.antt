use mathlib.Core.Path.{refl, sym, ap, ◌∙◌}
use Rattle.numbers.proofs.NumberLaws.{known_is, unknown_is}
use Rattle.numbers.proofs.SurfaceLaws.{same_given, refused_given, numbered_given}
use Rattle.known.proofs.showing.hz_known_set_mode.Goals as goal

pub returns-in_default : goal.returns-in_default
returns-in_default c = same_given (unknown_is _ _ (sym c.mode_in.ensures ∙ c.in_default.is)) (refused_given refl)

pub returns : goal.returns
returns c =
    same_given (known_is _ _ (sym c.mode_in.ensures ∙ c.in-Some.is))
    (numbered_given c.known_set_sampling_mode-r.ensures c.mode_set_out.ensures)

use mathlib.Core.Path.{refl, sym, ap, ◌∙◌}
use Rattle.numbers.proofs.NumberLaws.{known_is, unknown_is}
use Rattle.numbers.proofs.SurfaceLaws.{same_given, quiet_refused, numbered_given}
use Rattle.capi.proofs.marking.hz_mark.Goals as goal

pub returns-in_default : goal.returns-in_default
returns-in_default c = quiet_refused (unknown_is _ _ (sym c.mark_in.ensures ∙ c.in_default.is)) refl

pub returns : goal.returns
returns c =
    same_given (known_is _ _ (sym c.mark_in.ensures
    ∙ c.in-Some.is))
    (numbered_given c.mark-r.ensures c.changed_out.ensures)

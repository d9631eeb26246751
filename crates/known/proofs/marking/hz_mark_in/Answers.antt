use mathlib.Core.Path.{refl, sym, ap, ◌∙◌}
use Rattle.numbers.proofs.NumberLaws.{known_is, unknown_is}
use Rattle.marks.specs.Answers.{with_records}
use Rattle.numbers.proofs.SurfaceLaws.{same_given, quiet_refused, numbered_left}
use Rattle.known.proofs.InLaws.{left_same}
use Rattle.known.proofs.marking.hz_mark_in.Goals as goal

pub returns-in_default : goal.returns-in_default
returns-in_default c =
    λ t k p q.
    left_same (ap (with_records t) (sym q)) (quiet_refused (unknown_is _ _ (sym c.mark_in.ensures ∙ c.in_default.is)) refl)

pub returns : goal.returns
returns c =
    λ t k p q.
    same_given (known_is _ _ (sym c.mark_in.ensures ∙ c.in-Some.is))
    (numbered_left (c.mark_in-r.ensures t k p q) (c.refusal_of.ensures _))

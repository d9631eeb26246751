use mathlib.Core.Path.{sym, ap, ◌∙◌}
use Rattle.numbers.specs.Numbers.{delete, step_for}
use Rattle.numbers.proofs.delete_in.Goals as goal

pub returns-in_err-cause_in : goal.returns-in_err-cause_in
unfolding step_for
returns-in_err-cause_in c = c.from_residual.ensures ∙ sym (ap delete (sym c.cause_in.ensures ∙ c.in_err-cause_in.was))

pub returns : goal.returns
unfolding step_for
returns c = sym (ap delete (sym c.cause_in.ensures ∙ c.in_ok-cause_in.was))

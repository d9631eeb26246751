use mathlib.Core.Path.{◌≡◌}
use Rattle.base.proofs.StoreLaws.{copied}
use Rattle.steps.proofs.rename.copy_hashes.Given as goal

abbrev pub invariant-loop-i : goal.invariant-loop-i
invariant-loop-i l = l.out ≡ copied (λ x. x) l.initial.out l.hashes l.i

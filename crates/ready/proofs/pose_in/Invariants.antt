use mathlib.Core.Path.{◌≡◌}
use Rattle.base.proofs.StoreLaws.{copied}
use Rattle.held.specs.Parts.{held_code}
use Rattle.ready.proofs.pose_in.Given as goal

abbrev pub invariant-loop-i : goal.invariant-loop-i
invariant-loop-i l = l.out ≡ copied (held_code l.gu l.sg) l.initial.out l.lits l.i

use Rattle.std.proofs.Common.{◌≤◌}
use Rattle.drat_vectors.proofs.codes.Given as goal

abbrev pub invariant-loop-c : goal.invariant-loop-c
invariant-loop-c l = l.n ≤ l.c

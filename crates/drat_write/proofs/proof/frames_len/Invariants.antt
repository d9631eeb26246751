use Prim.Native.Nat.{◌+◌, ◌*◌, ◌≤◌}
use mathlib.Core.Path.{◌≡◌}
use lib.ListN.{drop}
use Rattle.drat.proofs.ListedLaws.{frames}
use Rattle.drat_write.proofs.proof.frames_len.Given as goal

abbrev pub invariant-loop-kind : goal.invariant-loop-kind
invariant-loop-kind l =
    (l.k + frames l.f (drop l.kind-index l.kinds) ≡ frames l.f l.kinds) × (l.k ≤ 4 * l.kind-index)

use Prim.Native.Nat.{◌+◌, ◌*◌, ◌≤◌}
use lib.ListN.{length}
use Rattle.sections.specs.Queues.{Even}
use Rattle.sections.proofs.queues.heads_meet.Given as goal

abbrev pub invariant-loop-walk : goal.invariant-loop-walk
invariant-loop-walk l =
    Even l.s.lists.now l.s.n l.s.place.now l.head × (l.walk.waiting ≤ 8192) × (l.walk.next + l.walk.turns ≤ 2 * length l.s.lists.now + 16384)

abbrev pub decreases-loop-walk : goal.decreases-loop-walk
decreases-loop-walk l = l.walk.turns

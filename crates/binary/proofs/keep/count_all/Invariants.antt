use Rattle.scope.specs.Binary.{sections_of}
use Rattle.binary.specs.Entries.{kept_by, entries_by}
use Rattle.binary.proofs.EachLaws.{from}
use Prim.Native.Nat.{◌+◌, ◌≤◌}
use lib.ListN.{length, get_or}
use mathlib.Core.Path.{◌≡◌}
use Rattle.binary.proofs.keep.count_all.Given as goal

abbrev pub invariant-loop-l : goal.invariant-loop-l
invariant-loop-l l =
    (l.k + length (from (kept_by l.assignment) l.s.n l.s.lists.now l.l) ≡ length (entries_by l.assignment (sections_of l.s.n l.s.lists.now)))
    × (l.k ≤ get_or l.s.place.now l.l 0)
    × (l.k ≤ length l.s.lists.now)

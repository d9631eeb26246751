use Prim.Native.Nat.{◌+◌, ◌≤◌}
use mathlib.Core.Path.{◌≡◌}
use lib.ListN.{length}
use Rattle.std.specs.Slice.Iter.{chunks_rest, chunks_size}
use Rattle.drat_judge.specs.Local.{tally}
use Rattle.drat_judge.proofs.tally_of.Given as goal

abbrev pub invariant-loop-part : goal.invariant-loop-part
invariant-loop-part l =
    (chunks_size l.part-iterator ≡ 192)
    × (l.k + length (chunks_rest l.part-iterator) ≤ length l.s)
    × (l.k + tally l.lo l.hi (chunks_rest l.part-iterator) ≡ tally l.lo l.hi l.s)

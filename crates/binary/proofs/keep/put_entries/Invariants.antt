use Rattle.binary.specs.Entries.{stays_by, kept_by}
use Rattle.binary.proofs.RowLaws.{kept_later}
use Prim.Native.Nat.{◌+◌}
use lib.ListN.{length}
use lib.Seq.{sets}
use mathlib.Core.Path.{◌≡◌}
use Rattle.binary.proofs.keep.put_entries.Given as goal

abbrev pub invariant-loop-m : goal.invariant-loop-m
invariant-loop-m l =
    (l.k + length (kept_later (stays_by l.assignment l.l) l.es l.m-index) ≡ l.at + length (kept_by l.assignment l.l l.es))
    × (sets l.out l.k (kept_later (stays_by l.assignment l.l) l.es l.m-index) ≡ sets l.initial.out l.at (kept_by l.assignment l.l l.es))

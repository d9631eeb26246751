use Rattle.drat.specs.Grammar.{encode}
use Rattle.binary.specs.Entries.{goes_by, delete_by, deletes_by}
use Rattle.binary.proofs.RowLaws.{steps_later}
use Prim.Native.Nat.{◌+◌, ◌≤◌}
use lib.ListN.{length}
use mathlib.Core.Path.{◌≡◌}
use Rattle.binary.proofs.deletes.section_len.Given as goal

abbrev pub invariant-loop-m : goal.invariant-loop-m
invariant-loop-m l =
    (l.used + length (steps_later (goes_by l.assignment l.l) l.es l.f (delete_by l.gs l.l) l.m-index) ≡ length (encode l.f (deletes_by l.gs l.assignment l.l l.es)))
    × (l.used ≤ l.room)

use Rattle.drat.specs.Grammar.{encode}
use Rattle.binary.specs.Entries.{goes_by, delete_by, deletes_by}
use Rattle.binary.proofs.RowLaws.{steps_later}
use Prim.Native.Nat.{◌+◌}
use lib.ListN.{length}
use lib.Seq.{sets}
use mathlib.Core.Path.{◌≡◌}
use Rattle.binary.proofs.deletes.put_section.Given as goal

abbrev pub invariant-loop-m : goal.invariant-loop-m
invariant-loop-m l =
    (l.p + length (steps_later (goes_by l.assignment l.l) l.es l.f (delete_by l.gs l.l) l.m-index) ≡ l.at + length (encode l.f (deletes_by l.gs l.assignment l.l l.es)))
    × (sets l.bytes l.p (steps_later (goes_by l.assignment l.l) l.es l.f (delete_by l.gs l.l) l.m-index) ≡ sets l.initial.bytes l.at (encode l.f (deletes_by l.gs l.assignment l.l l.es)))

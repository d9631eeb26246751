use Rattle.scope.specs.Binary.{sections_of}
use Rattle.drat.specs.Grammar.{encode}
use Rattle.binary.specs.Entries.{deletes_by, bytes_by}
use Rattle.binary.proofs.EachLaws.{from}
use lib.Seq.{sets}
use Prim.Native.Nat.{◌+◌}
use lib.ListN.{length}
use mathlib.Core.Path.{◌≡◌}
use Rattle.binary.proofs.deletes.put_deletes.Given as goal

abbrev pub invariant-loop-l : goal.invariant-loop-l
invariant-loop-l l =
    (l.at + length (encode l.f (from (deletes_by l.gs l.assignment) l.s.n l.s.lists.now l.l)) ≡ length (bytes_by l.f l.gs l.assignment (sections_of l.s.n l.s.lists.now)))
    × (sets l.bytes l.at (encode l.f (from (deletes_by l.gs l.assignment) l.s.n l.s.lists.now l.l)) ≡ sets l.initial.bytes 0 (bytes_by l.f l.gs l.assignment (sections_of l.s.n l.s.lists.now)))

use Prim.Native.Nat.{◌+◌, ◌-◌}
use lib.ListN.{length}
use Rattle.scope.specs.Table.{table_of}
use Rattle.scope.specs.Cursor.{NoneFree}
use Rattle.mapping.specs.Parts.{free}
use Rattle.posing.proofs.AllLaws.{LitsDone}
use Rattle.posing.proofs.place_all.Given as goal

abbrev pub invariant-loop-i : goal.invariant-loop-i
invariant-loop-i l =
    LitsDone (table_of l.initial.p.counts l.initial.gu l.initial.ug l.initial.sg l.initial.gs l.initial.assignment l.initial.records) l.lits l.i l.p.at (table_of l.p.counts l.gu l.ug l.sg l.gs l.assignment l.records) l.initial.notes l.notes l.initial.out l.out
    × NoneFree (free l.records) l.p.counts.global l.k

abbrev pub decreases-loop-i : goal.decreases-loop-i
decreases-loop-i l =
    length l.lits + 1 - l.i

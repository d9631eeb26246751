use Rattle.mapping.proofs.GapLaws.{GapWith}
use Rattle.mapping.specs.Parts.{free}
use Rattle.scope.specs.Cursor.{NoneFree}
use Rattle.mapping.proofs.+map_up.Given as goal

abbrev pub decreases-map_up : goal.decreases-map_up
decreases-map_up l = l.user.0

abbrev pub invariant-loop-i : goal.invariant-loop-i
invariant-loop-i l =
    GapWith l.capacity l.users l.globals l.used l.initial.gu l.initial.ug l.initial.records l.user.0 l.at l.i l.past l.a l.b l.n l.gu l.ug l.records l.initial.notes l.notes
    × NoneFree (free l.records) l.b l.k

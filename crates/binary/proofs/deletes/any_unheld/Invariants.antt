use Rattle.base.specs.Bounded.{any_of}
use Rattle.binary.specs.Entries.{unheld_by}
use Rattle.binary.proofs.EachLaws.{from, filled}
use mathlib.Core.Path.{◌≡◌}
use Rattle.binary.proofs.deletes.any_unheld.Given as goal

abbrev pub invariant-loop-l : goal.invariant-loop-l
invariant-loop-l l =
    any_of (unheld_by l.gs) (from filled l.s.n l.s.lists.now l.l) ≡ any_of (unheld_by l.gs) (from filled l.s.n l.s.lists.now 0)

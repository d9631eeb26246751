use Rattle.modes.proofs.ObserveCallLaws.{Observing}
use Rattle.changes.specs.Solvers.{Solvers, table_with}
use Rattle.modes.proofs.observe_all.Given as goal

abbrev pub invariant-loop-g : goal.invariant-loop-g
invariant-loop-g l =
    (x : Solvers) → Observing (table_with l.initial.k.after.counts l.initial.gu l.initial.ug l.initial.records x) l.g l.k.from l.k.filled l.k.after.at
    (table_with l.k.after.counts l.gu l.ug l.records x) l.initial.users l.users l.initial.notes l.notes

use Prim.Native.Nat.{ℕ}
use mathlib.Core.List.{List}
use Rattle.scope.specs.Table.{table_of}
use Rattle.scope.specs.Outcome.{each}
use Rattle.scope.specs.Remove.{sweep_one}
use Rattle.changes.specs.Leaves.{Leaves}
use Rattle.removal.proofs.sweep_all.Given as goal

abbrev pub invariant-loop-s : goal.invariant-loop-s
invariant-loop-s l =
    (gu : List ℕ) → Leaves (each l.s sweep_one (table_of l.initial.p.counts gu l.ug l.initial.sg l.initial.gs l.assignment l.initial.records)) 0 l.p.at
    (table_of l.p.counts gu l.ug l.sg l.gs l.assignment l.records) l.initial.notes l.notes

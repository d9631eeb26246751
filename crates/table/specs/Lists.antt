-- The table that stands in lent lists, and refusal 1.
use Rattle.std.specs.Prelude.{Result, Ok, Err}
use Rattle.base.specs.Choice.{pick}
use Rattle.scope.specs.declared.Refusal.{Refusal}
use Rattle.scope.specs.declared.Refusal.TheVariants.{Unsound}
use Rattle.scope.specs.Sound.{soundb}
use Rattle.scope.specs.Table.{Table, table_of}
use Rattle.table.specs.declared.Lists.{Lists}

abbrev pub seen : Lists → Table
seen t = table_of t.counts t.gu.now t.ug.now t.sg.now t.gs.now t.assignment.now t.records.now

abbrev pub tested : Table → Result (Unit {0}) Refusal
tested t = pick (soundb t) (Ok tt) (Err Unsound)

-- The number and the values of each answer, and the counts that come back.
use Rattle.std.specs.Prelude.{ℕ, List, [], Result, Ok, Err}
use Rattle.base.specs.Answer.{accepted, refused}
use Rattle.scope.specs.declared.Counts.{Counts}
use Rattle.scope.specs.Table.{Table, table_of}
use Rattle.scope.specs.Contract.{Said}
use Rattle.scope.specs.declared.Refusal.{Refusal}
use Rattle.scope.specs.Refusals.{number}

abbrev pub changed : Result (Unit {0}) Refusal → Counts → Said
changed (Ok _) c = record { answer = accepted []; counts = c }
changed (Err r) c = record { answer = refused (number r) []; counts = c }

-- a table with other records, and with other assignment words
abbrev pub with_records : Table → List ℕ → Table
with_records t r = table_of t.counts t.global_from_user t.user_from_global t.solver_from_global t.global_from_solver t.assignment r

abbrev pub with_values : Table → List ℕ → Table
with_values t a = table_of t.counts t.global_from_user t.user_from_global t.solver_from_global t.global_from_solver a t.records

-- The lists of a table that are about solver indices. A function that changes user names is not lent them: its contract holds with any.
use Rattle.std.specs.Prelude.{ℕ, List}
use Rattle.scope.specs.declared.Counts.{Counts}
use Rattle.scope.specs.Table.{Table, table_of}

pub record Solvers : Type 0 where
  pub solver_from_global : List ℕ
  pub global_from_solver : List ℕ
  pub assignment : List ℕ

-- a table from the lists lent and these
abbrev pub table_with : Counts → List ℕ → List ℕ → List ℕ → Solvers → Table
table_with c gu ug records x = table_of c gu ug x.solver_from_global x.global_from_solver x.assignment records

-- those of a table
abbrev pub solvers_of : Table → Solvers
solvers_of t = record { solver_from_global = t.solver_from_global; global_from_solver = t.global_from_solver; assignment = t.assignment }

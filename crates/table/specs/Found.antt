-- What a map's word says, as an answer: nothing, or an index of its sort.
use Rattle.std.specs.Prelude.{ℕ, Option, Some, None}
use Rattle.scope.specs.declared.Global.{Global}
use Rattle.scope.specs.declared.Solver.{Solver}
use Rattle.scope.specs.declared.User.{User}
use Rattle.scope.specs.Table.{word}

abbrev pub found_user : ℕ → Option User
found_user w = word None (λ u. Some (record { 0 = u })) w

abbrev pub found_global : ℕ → Option Global
found_global w = word None (λ g. Some (record { 0 = g })) w

abbrev pub found_solver : ℕ → Option Solver
found_solver w = word None (λ s. Some (record { 0 = s })) w

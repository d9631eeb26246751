-- The value of a user.
use Rattle.std.specs.Prelude.{ℕ, get_or}
use Rattle.scope.specs.Table.{Table, word}
use Rattle.scope.specs.Models.{global_value}

-- None if it is not mapped, else its global's.
unfoldable pub user_value : Table → ℕ → ℕ
user_value t u = word 0 (global_value t) (get_or t.global_from_user u 0)

-- How many notes a change of mode makes, told before anything is written.
use Rattle.std.specs.Prelude.{ℕ, ◌&&◌, eqb}
use Rattle.base.specs.Choice.{pick}
use Rattle.scope.specs.Table.{mode_of, isolated_of}

-- By the solver word and the record r of the global, and the new mode m.
unfoldable pub mode_notes : ℕ → ℕ → ℕ → ℕ
mode_notes solver r m =
    pick (eqb (mode_of r) m) 0
    (pick (eqb m 2) (pick (eqb solver 0 && eqb (isolated_of r) 1) 2 1)
    (pick (eqb (mode_of r) 2) 2 1))

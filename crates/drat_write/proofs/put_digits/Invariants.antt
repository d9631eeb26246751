use Prim.Native.Nat.{◌-◌}
use mathlib.Core.Path.{◌≡◌}
use lib.Seq.{sets}
use Rattle.drat.proofs.Shapes.{last_digits}
use Rattle.drat_write.proofs.put_digits.Given as goal

abbrev pub invariant-loop-i : goal.invariant-loop-i
invariant-loop-i g l = sets l.out l.at (last_digits (g.row.N - l.i) l.rest) ≡ sets l.initial.out l.at (last_digits g.row.N l.n)

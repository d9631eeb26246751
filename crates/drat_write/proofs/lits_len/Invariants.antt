use Prim.Native.Nat.{◌+◌, ◌*◌, ◌≤◌}
use mathlib.Core.Path.{◌≡◌}
use lib.ListN.{length, drop}
use Rattle.drat.specs.Grammar.{numbers}
use Rattle.drat_write.proofs.lits_len.Given as goal

abbrev pub invariant-loop-lit : goal.invariant-loop-lit
invariant-loop-lit l =
    (l.k + length (numbers l.f (drop l.lit-index l.lits)) ≡ length (numbers l.f l.lits)) × (l.k ≤ 6 * l.lit-index)

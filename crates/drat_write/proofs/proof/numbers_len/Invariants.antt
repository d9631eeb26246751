use Prim.Native.Nat.{◌+◌, ◌*◌, ◌≤◌}
use mathlib.Core.Path.{◌≡◌}
use lib.ListN.{length, drop}
use Rattle.drat.specs.Grammar.{numbers}
use Rattle.drat_write.proofs.proof.numbers_len.Given as goal

abbrev pub invariant-loop-code : goal.invariant-loop-code
invariant-loop-code l =
    (l.k + length (numbers l.f (drop l.code-index l.codes)) ≡ length (numbers l.f l.codes)) × (l.k ≤ 6 * l.code-index)

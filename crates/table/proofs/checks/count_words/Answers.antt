use Rattle.std.proofs.Common.{ℕ, get_or}
use mathlib.Core.Path.{sym, ap, ◌∙◌}
use native.Mathlib.Omega.{arith}
use Rattle.base.proofs.CountLaws.{count_none}
use Rattle.base.specs.Bounded.{count}
use Rattle.table.proofs.CheckLaws.{tally_step, byte_pick, byte_most}
use Rattle.table.proofs.checks.count_words.Goals as goal

pub loop-i-init : goal.loop-i-init
loop-i-init g c = (omega arith, λ p h. sym (count_none _))

pub overflow_add-k : goal.overflow_add-k
overflow_add-k g c = let m = byte_most _ _ c.from-k.ensures in let l = c.loop-i.invariant.0 in record { fits = omega arith }

pub loop-i-preserved : goal.loop-i-preserved
loop-i-preserved g c =
    let m = byte_most _ _ c.from-k.ensures in
    (omega arith, λ p h. tally_step _ _ _ _ (c.loop-i.invariant.1 p h) (byte_pick _ _ c.from-k.ensures _ (h _ _ c.test.ensures)))

pub returns : goal.returns
returns g c =
    λ p h. c.loop-i.invariant.1 p h ∙ ap (λ (n : ℕ). count n (λ i. p (get_or c.args.xs.now i 0))) (omega arith)

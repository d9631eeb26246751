use Rattle.removal.proofs.SweepCallLaws.{sweep_start, sweep_asks, sweep_turn, sweep_end}
use native.Mathlib.Omega.{arith}
use mathlib.Core.Path.{refl}
use Rattle.removal.proofs.sweep_all.Goals as goal

pub loop-s-init : goal.loop-s-init
loop-s-init c = λ gu. sweep_start _ _

pub sweep_one-p-requires : goal.sweep_one-p-requires
sweep_one-p-requires c =
    sweep_asks _ c.requires.sound _ _ _ _ _ (c.loop-s.invariant c.requires.gu) _
    c.loop-s-test.true c.requires.words refl

pub loop-s-preserved : goal.loop-s-preserved
loop-s-preserved c = λ gu. sweep_turn _ _ _ _ _ _ _ _ _ (c.loop-s.invariant gu) (c.sweep_one-p.ensures gu)

pub returns : goal.returns
returns c = λ gu. sweep_end _ _ _ _ _ _ (omega arith) (c.loop-s.invariant gu)

use Rattle.modes.proofs.ObserveCallLaws.{observing_none, observing_asks, observing_more, observing_end}
use native.Mathlib.Omega.{arith}
use mathlib.Core.Path.{refl}
use Rattle.modes.proofs.observe_all.Goals as goal

pub loop-g-init : goal.loop-g-init
loop-g-init c = λ x. observing_none _ _ _ _ c.requires.observes.mapped

pub observe_one-k-requires : goal.observe_one-k-requires
observe_one-k-requires c =
    observing_asks _ _ _ _ _ _ _ _ _ _ (c.loop-g.invariant c.requires.solvers) _ _ _
    c.requires.observes refl refl c.loop-g-test.true

pub loop-g-preserved : goal.loop-g-preserved
loop-g-preserved c =
    let k = c.observe_one-k.ensures in
    λ x. observing_more _ _ _ _ _ _ _ _ _ _ (c.loop-g.invariant x) _ _ _ _ _ _ (k.leaves x, (k.users_filled x, k.all_mapped))

pub returns-clause-leaves : goal.returns-clause-leaves
returns-clause-leaves c = λ x. (observing_end _ _ _ _ _ _ _ _ _ _ (c.loop-g.invariant x) (omega arith)).0

pub returns-clause-users_filled : goal.returns-clause-users_filled
returns-clause-users_filled c = λ x. (observing_end _ _ _ _ _ _ _ _ _ _ (c.loop-g.invariant x) (omega arith)).1

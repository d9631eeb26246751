use native.Mathlib.Omega.{arith}
use Rattle.scope.proofs.CursorLaws.{free_found, free_end}
use Rattle.scope.proofs.least_free.Goals as goal

pub returns-then-xs-i-eq0 : goal.returns-then-xs-i-eq0
returns-then-xs-i-eq0 c = free_found _ _ _ c.loop-i.invariant c.if-xs-i-eq0.true

pub returns : goal.returns
returns c = let l = c.loop-i.invariant in omega (arith, free_end _ _ _ l c.loop-i-test.false)

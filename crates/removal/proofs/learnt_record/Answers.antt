use Rattle.removal.proofs.SweepOneLaws.{learnt_none, learnt_some, learnt_small}
use native.Mathlib.Omega.{arith}
use Rattle.removal.proofs.learnt_record.Goals as goal

pub returns-then-v-eq0-clause-value : goal.returns-then-v-eq0-clause-value
returns-then-v-eq0-clause-value c =
    learnt_none _ _ c.if-v-eq0.true

pub returns-else-v-eq0-clause-value : goal.returns-else-v-eq0-clause-value
returns-else-v-eq0-clause-value c =
    let e = learnt_some c.args.w _ c.if-v-eq0.false in
    let l = learnt_small _ _ c.requires.w_bound c.requires.v_bound in
    omega (arith, e)

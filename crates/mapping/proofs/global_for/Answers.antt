use Rattle.mapping.proofs.FreeLaws.{for_own, for_least, for_passed}
use native.Mathlib.Omega.{arith}
use Rattle.mapping.proofs.global_for.Goals as goal

pub returns-then-u-mark-clause-global_value : goal.returns-then-u-mark-clause-global_value
returns-then-u-mark-clause-global_value c =
    let e = for_own c.args.records.now c.args.mark c.args.user.0
    c.requires.user_in_bounds c.if-u-mark.true in
    omega (arith, e)

pub returns-clause-global_value : goal.returns-clause-global_value
returns-clause-global_value c =
    for_least _ _ _ _ c.requires.user_in_bounds c.if-u-mark.false c.least_deleted-g.ensures

pub returns-clause-none_free_2 : goal.returns-clause-none_free_2
returns-clause-none_free_2 c =
    for_passed _ _ _
    c.least_deleted-g.ensures

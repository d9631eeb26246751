use Prim.Native.Nat.{◌≤◌}
use mathlib.Core.Path.{◌≡◌, sym, ◌∙◌}
use native.Mathlib.Omega.{arith}
use lib.ListN.{length}
use Rattle.distinct.proofs.NeedLaws.{plain_start, plain_small, plain_held, plain_needs, plain_end}
use Rattle.distinct.proofs.count_needs_plain.Goals as goal
use Rattle.distinct.proofs.count_needs_plain.Goals.{then-needs_grant, else-needs_grant}

pub loop-i-init : goal.loop-i-init
loop-i-init c = plain_start _ _ _ _ _ c.none-n.ensures

pub counted-n-requires-clause-low_bound : goal.counted-n-requires-clause-low_bound
counted-n-requires-clause-low_bound c =
    let b : c.loop-i.i ≤ length c.args.lits.now = let l = c.loop-i-test.true in omega arith in
    (plain_small _ _ _ _ _ _ _ _ c.requires.lits_len_bound b c.loop-i.invariant c.raised-n.ensures).0

pub counted-n-requires-clause-grants_bound : goal.counted-n-requires-clause-grants_bound
counted-n-requires-clause-grants_bound c =
    let b : c.loop-i.i ≤ length c.args.lits.now = let l = c.loop-i-test.true in omega arith in
    (plain_small _ _ _ _ _ _ _ _ c.requires.lits_len_bound b c.loop-i.invariant c.raised-n.ensures).1

pub loop-i-preserved : goal.loop-i-preserved
loop-i-preserved c =
    elim c.if-needs_grant.branch [
      | then-needs_grant w ↦ rw w.n-is
          (plain_needs _ _ _ _ _ _ _ c.loop-i-test.true c.loop-i.invariant c.raised-n.ensures _ _ c.named_before-fresh.ensures
          (sym c.needs_grant.ensures ∙ w.if-needs_grant.true) w.counted-n.ensures)
      | else-needs_grant w ↦ rw w.n-is
          (plain_held _ _ _ _ _ _ _ c.loop-i-test.true c.loop-i.invariant c.raised-n.ensures
          (sym c.needs_grant.ensures ∙ w.if-needs_grant.false))
    ]

pub returns : goal.returns
returns c =
    let e : c.loop-i.i ≡ length c.args.lits.now = let l = c.loop-i-test.false in omega arith in
    plain_end _ _ _ _ _ _ e c.loop-i.invariant

use Prim.Native.Nat.{◌≤◌}
use Rattle.scope.proofs.DistinctLaws.{named_most}
use native.Mathlib.Omega.{arith}
use Rattle.scope.specs.Distinct.{count_named, is_low}
use Rattle.distinct.proofs.NeedLaws.{users_refused, users_range, users_told, users_fit}
use Rattle.distinct.proofs.users_to_map.Goals as goal

pub returns-then-out_of_range : goal.returns-then-out_of_range
returns-then-out_of_range c = users_refused _ _ c.out_of_range.ensures (count_named 4096) _ _ _ c.if-out_of_range.true

pub count_needs-n-requires-clause-within : goal.count_needs-n-requires-clause-within
count_needs-n-requires-clause-within c =
    (users_range _ _ c.out_of_range.ensures c.if-out_of_range.false).1

pub told-requires-clause-mark_le_top : goal.told-requires-clause-mark_le_top
told-requires-clause-mark_le_top c =
    let judged = c.out_of_range in
    let left = c.if-out_of_range.false in
    let a = c.args in
    let l : (count_named 4096) (is_low a.gu.now a.mark) a.lits.now ≤ 8192 = let x = named_most 4096 (is_low a.gu.now a.mark) a.lits.now in omega arith in
    (users_fit _ _ judged.ensures left (count_named 4096) _ _ _ _ l c.count_needs-n.ensures).0

pub told-requires-clause-users_bound : goal.told-requires-clause-users_bound
told-requires-clause-users_bound c =
    let judged = c.out_of_range in
    let left = c.if-out_of_range.false in
    let a = c.args in
    let l : (count_named 4096) (is_low a.gu.now a.mark) a.lits.now ≤ 8192 = let x = named_most 4096 (is_low a.gu.now a.mark) a.lits.now in omega arith in
    (users_fit _ _ judged.ensures left (count_named 4096) _ _ _ _ l c.count_needs-n.ensures).1

pub returns : goal.returns
returns c =
    users_told _ _ c.out_of_range.ensures c.if-out_of_range.false (count_named 4096) _ _ _ _ _ c.count_needs-n.ensures c.told.ensures

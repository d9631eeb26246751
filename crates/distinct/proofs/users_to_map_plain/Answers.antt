use Prim.Native.Nat.{◌≤◌}
use Rattle.scope.specs.Distinct.{plain_count, is_low}
use Rattle.distinct.proofs.NeedLaws.{users_refused, users_range, users_told, users_fit, plain_most}
use Rattle.distinct.proofs.users_to_map_plain.Goals as goal

pub returns-then-out_of_range : goal.returns-then-out_of_range
returns-then-out_of_range c = users_refused _ _ c.out_of_range.ensures plain_count _ _ _ c.if-out_of_range.true

pub count_needs_plain-n-requires-clause-within : goal.count_needs_plain-n-requires-clause-within
count_needs_plain-n-requires-clause-within c =
    (users_range _ _ c.out_of_range.ensures c.if-out_of_range.false).1

pub told-requires-clause-mark_le_top : goal.told-requires-clause-mark_le_top
told-requires-clause-mark_le_top c =
    let judged = c.out_of_range in
    let left = c.if-out_of_range.false in
    let a = c.args in
    let l : plain_count (is_low a.gu.now a.mark) a.lits.now ≤ 8192 = plain_most (is_low a.gu.now a.mark) a.lits.now (users_range a.lits.now _ judged.ensures left).0 in
    (users_fit _ _ judged.ensures left plain_count _ _ _ _ l c.count_needs_plain-n.ensures).0

pub told-requires-clause-users_bound : goal.told-requires-clause-users_bound
told-requires-clause-users_bound c =
    let judged = c.out_of_range in
    let left = c.if-out_of_range.false in
    let a = c.args in
    let l : plain_count (is_low a.gu.now a.mark) a.lits.now ≤ 8192 = plain_most (is_low a.gu.now a.mark) a.lits.now (users_range a.lits.now _ judged.ensures left).0 in
    (users_fit _ _ judged.ensures left plain_count _ _ _ _ l c.count_needs_plain-n.ensures).1

pub returns : goal.returns
returns c =
    users_told _ _ c.out_of_range.ensures c.if-out_of_range.false plain_count _ _ _ _ _ c.count_needs_plain-n.ensures c.told.ensures

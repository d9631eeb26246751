use Rattle.std.proofs.Common.{arith}
use Rattle.mapping.proofs.GapLaws.{gap_start, gap_asks, gap_more, end_asks, end_done}
use Rattle.mapping.proofs.+map_up.Goals as goal

pub loop-i-init : goal.loop-i-init
loop-i-init t c = (record { with = λ x h. gap_start _ _ _ _ }, c.requires.none_free)

pub map_up-m-requires : goal.map_up-m-requires
map_up-m-requires t c = (
  let l = c.loop-i-test.true in let e = c.decreases in omega arith,
  (
    record {
      rest = c.requires.up_asks.rest;
      asks = gap_asks _ _ _ _ _ _ _ _ c.requires.up_asks.asks (c.loop-i.invariant.0.with _ c.requires.up_asks.asks) c.loop-i-test.true;
    },
    c.loop-i.invariant.1,
  ),
)

pub loop-i-preserved : goal.loop-i-preserved
loop-i-preserved t c = (
  record {
    with = λ x h. gap_more _ _ _ _ _ _ _ _ _ _ _ h (c.loop-i.invariant.0.with x h) c.loop-i-test.true
        (c.map_up-m.ensures.up_leaves.with x (gap_asks _ _ _ _ _ _ _ _ h (c.loop-i.invariant.0.with x h) c.loop-i-test.true)).1;
  },
  c.map_up-m.ensures.none_free_2,
)

pub map_last-requires-clause-up_asks : goal.map_last-requires-clause-up_asks
map_last-requires-clause-up_asks t c =
    record {
      rest = c.requires.up_asks.rest;
      asks = (end_asks _ _ _ _ _ _ _ _ c.requires.up_asks.asks (c.loop-i.invariant.0.with _ c.requires.up_asks.asks) c.loop-i-test.false).0;
    }

pub map_last-requires-clause-user_le_users : goal.map_last-requires-clause-user_le_users
map_last-requires-clause-user_le_users t c =
    (end_asks _ _ _ _ _ _ _ _ c.requires.up_asks.asks (c.loop-i.invariant.0.with _ c.requires.up_asks.asks) c.loop-i-test.false).1

pub returns-clause-up_leaves : goal.returns-clause-up_leaves
returns-clause-up_leaves t c =
    record {
      with = λ x h.
          let g = c.loop-i.invariant.0.with x h in
          end_done _ _ _ _ _ _ _ _ h g c.loop-i-test.false _ _ _ _
          (c.map_last.ensures.up_leaves.with x (end_asks _ _ _ _ _ _ _ _ h g c.loop-i-test.false).0);
    }

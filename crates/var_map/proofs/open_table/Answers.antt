use Rattle.var_map.proofs.OpenLaws.{refused_10, opened_empty}
use Rattle.var_map.proofs.open_table.Goals as goal

pub returns-then-not-sizes_ok : goal.returns-then-not-sizes_ok
returns-then-not-sizes_ok c = refused_10 _ _ _ c.sizes_ok.ensures c.if-not-sizes_ok.true

pub returns : goal.returns
returns c =
    opened_empty _ _ _ _ _ _ _ _ _ _ _ _ _ _ c.sizes_ok.ensures c.if-not-sizes_ok.false
    (c.fill.ensures.after (λ y e. e)) (c.fill-2.ensures.after (λ y e. e)) (c.fill-3.ensures.after (λ y e. e))
    (c.fill-4.ensures.after (λ y e. e)) (c.fill-5.ensures.after (λ y e. e)) (c.fill-6.ensures.after (λ y e. e))

use Rattle.scope.proofs.BiMapLaws.{put_refused, put_done}
use Rattle.scope.proofs.put_pair.Goals as goal

pub returns-then-not-i-c : goal.returns-then-not-i-c
returns-then-not-i-c c = put_refused _ _ _ _ _ _ c.index_in-i.ensures c.if-not-i-c.true

pub returns : goal.returns
returns c =
    put_done _ _ _ _ _ _ _ _ _ c.index_in-i.ensures c.if-not-i-c.false
    c.cover-counts.ensures c.link.ensures.a_value
    c.link.ensures.b_value

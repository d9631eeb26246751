use Rattle.dimacs_write.proofs.CnfLaws.{header_sets}
use Rattle.dimacs_write.proofs.put_header.Goals as goal

pub returns-clause-fills : goal.returns-clause-fills
returns-clause-fills c =
    let a = c.args in
    let p = c.put_count-p.ensures.value in
    let q = c.put_count-q.ensures.value in
    let o1 = c.put_bytes-start.ensures.fills in
    let o2 = c.put_count-p.ensures.fills in
    header_sets a.v a.k a.out.now _ _ _ _ _ _ o1 c.put_bytes-start.ensures.value o2 p c.put_count-q.ensures.fills q

use Rattle.drat_read.proofs.FillLaws.{fits_call}
use Rattle.drat_read.proofs.read_proof.Goals as goal

pub returns : goal.returns
returns c =
    let a = c.args in
    let g = c.fill in
    let k = fits_call a.f a.bytes.now a.codes.now a.ends.now a.kinds.now g.new.codes g.new.ends g.new.kinds
    g.result.lits g.result.steps c.in_ok-find.ensures g.ensures in
    record { value = k.answer; codes = k.codes_after; ends = k.ends_after; kinds = k.kinds_after }

use mathlib.Core.Path.{ap, ◌∙◌}
use native.Mathlib.Omega.{arith}
use borrow.Rule.Slice.PartMut.{put_mid}
use Rattle.base.proofs.SetsLaws.{part_sets}
use Rattle.drat_write.proofs.put_bytes.Goals as goal

pub returns-clause-fills : goal.returns-clause-fills
returns-clause-fills c =
    let a = c.args in
    ap (put_mid a.at _ a.out.now) c.copy_from_slice.ensures.after ∙ part_sets a.at _ a.out.now a.bytes.now (omega arith) c.requires

use Rattle.base.proofs.MemberLaws.{keep_length}
use Rattle.binary.specs.Entries.{stays_by, kept_by}
use Rattle.binary.proofs.RowLaws.{section_put}
use native.Mathlib.Omega.{arith}
use Rattle.binary.proofs.keep.put_section.Goals as goal

pub overflow_cast-out : goal.overflow_cast-out
overflow_cast-out c =
    let z = keep_length (stays_by c.args.assignment.now c.args.l) c.args.es.now in
    omega (arith, c.put_entries-end.ensures.value, c.requires.es_len_bound)

pub returns-clause-fills : goal.returns-clause-fills
returns-clause-fills c =
    let kept = kept_by c.args.assignment.now c.args.l c.args.es.now in
    section_put c.args.out.now _ kept c.args.at _ c.put_entries-end.ensures.fills
    (omega (arith, c.put_entries-end.ensures.value))

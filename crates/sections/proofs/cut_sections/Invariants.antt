use Rattle.sections.proofs.CutLaws.{CutTo}
use Rattle.sections.proofs.cut_sections.Given as goal

abbrev pub invariant-loop-l : goal.invariant-loop-l
invariant-loop-l l = CutTo l.lists l.n l.place l.at l.l

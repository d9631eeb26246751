use native.Mathlib.Omega.{arith}
use Rattle.base.proofs.Truth.{truth}
use Rattle.scope.proofs.WantedLaws.{both_ways_lem}
use Rattle.sections.proofs.InsideLaws.{mirror_is, mirror_counts, count_there}
use Rattle.sections.proofs.exact.slot_mirrored.Goals as goal

pub returns : goal.returns
returns c =
    let a = c.args in
    let full = c.requires.slot.full c.if-k-eq0.false in
    let other = count_there a.s.now.lists.now a.s.now.n a.l a.m _ _ _ _ c.not_lit-x.ensures c.not_lit-y.ensures c.count_of-other.ensures c.section_of.ensures in
    both_ways_lem _ _
    (λ h. let k = simp truth at h in mirror_is a.s.now.lists.now a.s.now.n a.l a.m _ _ c.requires.m_lt_n full other (omega arith))
    (λ z. let e = mirror_counts a.s.now.lists.now a.s.now.n a.l a.m _ _ c.requires.m_lt_n full other z in simp truth (omega arith))

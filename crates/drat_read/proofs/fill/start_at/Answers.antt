use Prim.Native.Nat.{◌+◌}
use mathlib.Core.Path.{sym, ap, ◌∙◌, subst}
use lib.Dec.{eqb}
use lib.ListN.{drop, get_or}
use mir.Val.{bool_byte}
use native.Mathlib.Omega.{arith}
use Rattle.drat.proofs.Sound.{Bytes}
use Rattle.drat.specs.Reading.{one_step}
use Rattle.drat.specs.declared.Format.{Format}
use Rattle.drat_judge.proofs.RunsLaws.{as_byte}
use Rattle.drat_read.proofs.OpenLaws.{step_inside, text_gap, opened}
use Rattle.drat_read.specs.Known.{IsStep, first_place}
use Rattle.drat_read.proofs.fill.start_at.Goals as goal

pub bounds-s-at : goal.bounds-s-at
bounds-s-at c =
    let a = c.args in
    let s = a.s.now in
    let h = step_inside a.f s a.at c.requires in
    omega (arith, h)

pub past_gap-requires : goal.past_gap-requires
past_gap-requires c =
    let a = c.args in
    let s = a.s.now in
    let hb : Bytes s = λ i. omega (arith, c.type_inv.s i) in
    let k = bool_byte (eqb (get_or s a.at 0) 100) in
    let o = subst (λ (f : Format). IsStep (one_step f a.at (drop a.at s))) c.in-Text.is c.requires in
    text_gap s a.at k hb o (as_byte (eqb (get_or s a.at 0) 100))

pub overflow_add-result : goal.overflow_add-result
overflow_add-result c =
    let a = c.args in
    let s = a.s.now in
    let h = step_inside a.f s a.at c.requires in
    omega (arith, h)

pub returns-in-Text : goal.returns-in-Text
returns-in-Text c =
    let a = c.args in
    let s = a.s.now in
    let hb : Bytes s = λ i. omega (arith, c.type_inv.s i) in
    let k = bool_byte (eqb (get_or s a.at 0) 100) in
    opened a.f s a.at k c.past_gap.result hb c.requires
    (as_byte (eqb (get_or s a.at 0) 100))
    (c.past_gap.ensures ∙ sym (ap (λ (f : Format). first_place f s a.at k) c.in-Text.is))

pub returns-in-Binary : goal.returns-in-Binary
returns-in-Binary c =
    let a = c.args in
    let s = a.s.now in
    let hb : Bytes s = λ i. omega (arith, c.type_inv.s i) in
    let k = bool_byte (eqb (get_or s a.at 0) 100) in
    opened a.f s a.at k (a.at + 1) hb c.requires (as_byte (eqb (get_or s a.at 0) 100))
    (sym (ap (λ (f : Format). first_place f s a.at k) c.in-Binary.is))

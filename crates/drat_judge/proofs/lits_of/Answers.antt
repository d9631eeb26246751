use mathlib.Core.Bool.{true}
use mathlib.Core.Path.{◌≡◌, ap, ◌∙◌, subst}
use native.Mathlib.Omega.{arith}
use Rattle.drat.proofs.Sound.{Bytes}
use Rattle.drat.specs.declared.Format.TheVariants.{Text, Binary}
use Rattle.drat.specs.declared.Format.{Format}
use Rattle.drat_judge.proofs.RunsLaws.{tally_most}
use Rattle.drat_judge.proofs.TallyLaws.{tokens_enough, lows_enough}
use Rattle.drat_judge.proofs.JudgedLaws.{judged_spells}
use Rattle.drat_judge.specs.Local.{judged, steps_by}
use Rattle.drat_judge.proofs.lits_of.Goals as goal

pub overflow_sub-result : goal.overflow_sub-result
overflow_sub-result c =
    let s = c.args.s.now in
    let hb : Bytes s = λ i. omega (arith, c.shared_slice_known-1.given i) in
    let j = judged_spells Text s hb (subst (λ (f : Format). judged f s ≡ true) c.in-Text.is
    c.requires.s_value) in
    let m = c.requires.steps_value ∙ ap (λ (f : Format). steps_by f s) c.in-Text.is in
    omega (arith, tokens_enough j.spelled, c.starts_of.ensures, m)

pub overflow_mul-result : goal.overflow_mul-result
overflow_mul-result c =
    let s = c.args.s.now in
    let hb : Bytes s = λ i. omega (arith, c.shared_slice_known-1.given i) in
    let j = judged_spells Binary s hb (subst (λ (f : Format). judged f s ≡ true) c.in-Binary.is
    c.requires.s_value) in
    let m = c.requires.steps_value ∙ ap (λ (f : Format). steps_by f s) c.in-Binary.is in
    omega (arith, lows_enough j.spelled, tally_most 0 127 s, m)

pub overflow_sub-result-in-Binary : goal.overflow_sub-result-in-Binary
overflow_sub-result-in-Binary c =
    let s = c.args.s.now in
    let hb : Bytes s = λ i. omega (arith, c.shared_slice_known-1.given i) in
    let j = judged_spells Binary s hb (subst (λ (f : Format). judged f s ≡ true) c.in-Binary.is
    c.requires.s_value) in
    let m = c.requires.steps_value ∙ ap (λ (f : Format). steps_by f s) c.in-Binary.is in
    omega (arith, lows_enough j.spelled, c.tally_of.ensures, m)

use mathlib.Core.Path.{ap, ◌∙◌}
use native.Mathlib.Omega.{arith}
use lib.ListN.{length}
use Rattle.drat.proofs.Shapes.{text_length, code_length}
use Rattle.drat.specs.declared.Format.{Format}
use Rattle.drat.specs.Grammar.{number}
use Rattle.drat_write.proofs.number_len.Goals as goal

pub returns-in-Text-clause-value : goal.returns-in-Text-clause-value
returns-in-Text-clause-value c =
    let a = c.args in
    let e = ap (λ (x : Format). length (number x a.c)) c.in-Text.is
    ∙ text_length a.c c.requires in
    omega (arith, e, c.one.ensures.value, c.one-in-Text.ensures.value, c.one-in-Text-2.ensures.value)

pub returns-in-Binary-clause-value : goal.returns-in-Binary-clause-value
returns-in-Binary-clause-value c =
    let a = c.args in
    let e = ap (λ (x : Format). length (number x a.c)) c.in-Binary.is ∙ code_length a.c c.requires in
    omega (arith, e, c.one-in-Binary.ensures.value)

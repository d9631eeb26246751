use mathlib.Core.Path.{sym, ap, ◌∙◌}
use Rattle.std.specs.Prelude.{Some}
use native.Mathlib.Omega.{arith}
use Rattle.dimacs.specs.Reading.{within}
use Rattle.dimacs.proofs.LineLaws.{within_lit, within_past, within_stop, within_bad}
use Rattle.dimacs_read.proofs.lines.token_at.Goals as goal

pub returns-then-code-v : goal.returns-then-code-v
returns-then-code-v c =
    let a = c.args in
    let e = sym c.line_at.ensures ∙ c.in-Some-Lit.is ∙ ap Some c.in-Some-Lit.field-0-is in
    sym (ap (within a.v) e ∙ within_lit a.v c.in-Some-Lit.code c.in-Some-Lit.next (omega (
      arith,
      c.if-code-v.true,
    )))

pub returns-else-code-v : goal.returns-else-code-v
returns-else-code-v c =
    let a = c.args in
    let e = sym c.line_at.ensures ∙ c.in-Some-Lit.is ∙ ap Some c.in-Some-Lit.field-0-is in
    sym (ap (within a.v) e ∙ within_past a.v c.in-Some-Lit.code c.in-Some-Lit.next (omega (
      arith,
      c.if-code-v.false,
    )))

pub returns-in-Some-Stop : goal.returns-in-Some-Stop
returns-in-Some-Stop c =
    let a = c.args in
    let e = sym c.line_at.ensures ∙ c.in-Some-Stop.is ∙ ap Some c.in-Some-Stop.field-0-is in
    sym (ap (within a.v) e ∙ within_stop a.v c.in-Some-Stop.next)

pub returns-in-None : goal.returns-in-None
returns-in-None c =
    let a = c.args in
    let e = sym c.line_at.ensures ∙ c.in-None.is in
    sym (ap (within a.v) e ∙ within_bad a.v)

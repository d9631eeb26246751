use mathlib.Core.Path.{sym, ◌∙◌}
use Rattle.drat.proofs.WritingLaws.{inside}
use Rattle.drat_write.proofs.write_clause.Goals as goal

pub step_fits-requires-clause-codes : goal.step_fits-requires-clause-codes
step_fits-requires-clause-codes c =
    let a = c.args in
    let i = inside a.buf.now a.a a.b (sym c.no_clause.ensures ∙ c.if-no_clause.false) in
    i.codes

pub put_step-requires-clause-codes : goal.put_step-requires-clause-codes
put_step-requires-clause-codes c =
    let a = c.args in
    let i = inside a.buf.now a.a a.b (sym c.no_clause.ensures
    ∙ c.if-no_clause.false) in
    i.codes

use mathlib.Core.Path.{sym, ap, ◌∙◌}
use native.Mathlib.Omega.{arith}
use lib.Seq.{sets}
use lib.ListN.{length}
use Rattle.drat.proofs.Shapes.{number_code}
use Rattle.drat.specs.declared.Format.{Format}
use Rattle.drat.specs.Grammar.{number}
use Rattle.drat_write.proofs.put_number.Goals as goal

pub put_code-requires-clause-n_in_bounds : goal.put_code-requires-clause-n_in_bounds
put_code-requires-clause-n_in_bounds c =
    let a = c.args in
    omega (arith, ap length (ap (λ (x : Format). number x a.c) c.in-Binary.is ∙ number_code a.c))

pub returns-in-Binary-clause-value : goal.returns-in-Binary-clause-value
returns-in-Binary-clause-value c =
    let a = c.args in
    c.put_code.ensures.value ∙ omega (arith, ap length (ap (λ (x : Format). number x a.c) c.in-Binary.is ∙ number_code a.c))

pub returns-in-Binary-clause-fills : goal.returns-in-Binary-clause-fills
returns-in-Binary-clause-fills c =
    let a = c.args in
    let e = ap (λ (x : Format). number x a.c) c.in-Binary.is ∙ number_code a.c in
    c.put_code.ensures.fills ∙ sym (ap (sets a.out.now a.at) e)

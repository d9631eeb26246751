use mathlib.Core.Path.{◌∙◌}
use native.Mathlib.Omega.{arith}
use lib.ListN.{length-set}
use Rattle.drat.proofs.Shapes.{text_length, text_place, text_sets}
use Rattle.drat_write.proofs.put_text.Goals as goal

pub bounds-out-at : goal.bounds-out-at
bounds-out-at c =
    let a = c.args in
    let l = text_place a.c in
    let d = text_length a.c c.requires.c_bound in
    omega arith

pub put_decimal-requires-clause-n_in_bounds : goal.put_decimal-requires-clause-n_in_bounds
put_decimal-requires-clause-n_in_bounds c =
    let a = c.args in
    let l = text_place a.c in
    let d = text_length a.c c.requires.c_bound in
    simp length-set (omega arith)

pub returns-clause-value : goal.returns-clause-value
returns-clause-value c =
    let a = c.args in
    let l = text_place a.c in
    let d = text_length a.c c.requires.c_bound in
    omega (arith, l, c.put_decimal.ensures.value)

pub returns-clause-fills : goal.returns-clause-fills
returns-clause-fills c =
    let a = c.args in
    c.put_decimal.ensures.fills ∙ text_sets a.out.now a.at a.c

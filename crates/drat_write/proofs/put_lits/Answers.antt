use Prim.Native.Nat.{ℕ}
use mathlib.Core.Bool.{true}
use mathlib.Core.List.{List}
use mathlib.Core.Path.{◌≡◌, sym, ap, ◌∙◌}
use native.Mathlib.Omega.{arith}
use lib.Dec.{ltb}
use lib.ListN.{length, get_or}
use borrow.Author.Tests.{ltb-true}
use Rattle.base.specs.Bounded.{all_below}
use Rattle.base.proofs.BelowLaws.{all_at}
use Rattle.drat.proofs.Shapes.{Short, short_length}
use Rattle.drat.specs.Grammar.{numbers}
use Rattle.drat.specs.declared.Format.{Format}
use Rattle.drat_write.proofs.put_lits.Goals as goal

tested : (l : List ℕ) → all_below (length l) (λ i. ltb (get_or l i 0) 126) ≡ true → Short l
tested l e i h = ltb-true (get_or l i 0) 126 (all_at (length l) (λ j. ltb (get_or l j 0) 126) e i h)

pub put_short-requires-clause-short : goal.put_short-requires-clause-short
put_short-requires-clause-short c = tested c.args.lits.now (sym c.all_below.ensures ∙ c.if-all_below.true)

pub put_short-requires-clause-lits_in_bounds : goal.put_short-requires-clause-lits_in_bounds
put_short-requires-clause-lits_in_bounds c =
    let l = c.args.lits.now in
    let e = ap (λ (f : Format). length (numbers f l)) c.in-Binary.is in
    omega (arith, e, short_length l (tested l (sym c.all_below.ensures ∙ c.if-all_below.true)), c.requires.lits_in_bounds)

pub returns-then-all_below-clause-value : goal.returns-then-all_below-clause-value
returns-then-all_below-clause-value c =
    let l = c.args.lits.now in
    let e = ap (λ (f : Format). length (numbers f l)) c.in-Binary.is in
    omega (arith, e, short_length l (tested l (sym c.all_below.ensures ∙ c.if-all_below.true)), c.put_short.ensures.value)

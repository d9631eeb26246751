use Prim.Native.Nat.{ℕ, ◌+◌, ◌<◌}
use mathlib.Core.List.{List}
use mathlib.Core.Path.{sym, ap, ap₂, ◌∙◌}
use native.Mathlib.Omega.{arith}
use lib.Seq.{sets}
use lib.ListN.{length, drop}
use Rattle.drat.proofs.Steps.{numbers_next_length, numbers_done, numbers_sets}
use Rattle.drat.specs.Grammar.{numbers}
use Rattle.drat_write.proofs.put_each.Goals as goal

pub put_number-p-requires-clause-c_in_bounds : goal.put_number-p-requires-clause-c_in_bounds
put_number-p-requires-clause-c_in_bounds c =
    let a = c.args in
    let l = c.loop-lit in
    let h : l.lit-index < length a.lits.now = omega arith in
    omega (arith, numbers_next_length a.f a.lits.now l.lit-index h)

pub loop-lit-preserved : goal.loop-lit-preserved
loop-lit-preserved c =
    let a = c.args in
    let l = c.loop-lit in
    let h : l.lit-index < length a.lits.now = omega arith in
    let r = numbers a.f (drop (l.lit-index + 1) a.lits.now) in (
      omega (arith, c.put_number-p.ensures.value, numbers_next_length a.f a.lits.now l.lit-index h),
      ap₂ (λ (o : List ℕ) (k : ℕ). sets o k r) c.put_number-p.ensures.fills c.put_number-p.ensures.value ∙ numbers_sets a.f a.lits.now l.out l.p l.lit-index h ∙ l.invariant.1,
    )

pub returns-clause-value : goal.returns-clause-value
returns-clause-value c =
    let a = c.args in
    let l = c.loop-lit in
    let d = numbers_done a.f a.lits.now l.lit-index c.loop-lit-test.false in
    omega (arith, ap length d)

pub returns-clause-fills : goal.returns-clause-fills
returns-clause-fills c =
    let a = c.args in
    let l = c.loop-lit in
    let d = numbers_done a.f a.lits.now l.lit-index c.loop-lit-test.false in
    sym (ap (sets l.out l.p) d) ∙ l.invariant.1

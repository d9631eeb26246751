use Prim.Native.Nat.{ℕ, ◌+◌}
use mathlib.Core.List.{List}
use mathlib.Core.Path.{ap, ap₂, ◌∙◌}
use native.Mathlib.Omega.{arith}
use lib.Seq.{sets}
use lib.ListN.{length}
use Rattle.drat.proofs.Steps.{step_length, step_sets}
use Rattle.drat.specs.Grammar.{numbers, ends}
use Rattle.drat_write.proofs.put_few.Goals as goal

pub put_open-p-requires : goal.put_open-p-requires
put_open-p-requires c =
    let a = c.args in
    let l = step_length a.f a.k a.lits.now in
    omega arith

pub put_each-q-requires-clause-lits_in_bounds : goal.put_each-q-requires-clause-lits_in_bounds
put_each-q-requires-clause-lits_in_bounds c =
    let a = c.args in
    let l = step_length a.f a.k a.lits.now in
    omega (arith, c.put_open-p.ensures.value, c.put_open-p.auto.out)

pub put_end-requires : goal.put_end-requires
put_end-requires c =
    let a = c.args in
    let l = step_length a.f a.k a.lits.now in
    omega (
      arith,
      c.put_open-p.ensures.value,
      c.put_open-p.auto.out,
      c.put_each-q.ensures.value,
      c.put_each-q.auto.out,
    )

pub returns-clause-value : goal.returns-clause-value
returns-clause-value c =
    let a = c.args in
    let l = step_length a.f a.k a.lits.now in
    omega (arith, c.put_open-p.ensures.value, c.put_each-q.ensures.value, c.put_end.ensures.value)

pub returns-clause-fills : goal.returns-clause-fills
returns-clause-fills c =
    let a = c.args in
    c.put_end.ensures.fills ∙ ap₂ (λ (x : List ℕ) (i : ℕ). sets x i (ends a.f)) (c.put_each-q.ensures.fills ∙ ap₂ (λ (x : List ℕ) (i : ℕ). sets x i (numbers a.f a.lits.now)) c.put_open-p.ensures.fills c.put_open-p.ensures.value)
    (c.put_each-q.ensures.value ∙ ap (λ (i : ℕ). i + length (numbers a.f a.lits.now)) c.put_open-p.ensures.value)
    ∙ step_sets a.f a.k a.lits.now a.out.now a.at

use Rattle.steps.proofs.WriteLaws.{bytes_add, bytes_delete, bytes_nothing, bytes_refused}
use Prim.Native.Nat.{ℕ, ◌+◌}
use lib.Seq.{sets}
use lib.ListN.{length}
use native.Mathlib.Omega.{arith}
use mathlib.Core.List.{List}
use mathlib.Core.Path.{sym, ap, ◌∙◌}
use Rattle.steps.proofs.write.put_bytes.Goals as goal

pub put_step-requires-clause-lits_in_bounds : goal.put_step-requires-clause-lits_in_bounds
put_step-requires-clause-lits_in_bounds c =
    omega (arith, ap length (bytes_add c.args.f _ c.args.lits.now c.in-Add.is), c.requires.lits_in_bounds)

pub put_step-requires-in-Delete-clause-lits_in_bounds : goal.put_step-requires-in-Delete-clause-lits_in_bounds
put_step-requires-in-Delete-clause-lits_in_bounds c =
    omega (arith, ap length (bytes_delete c.args.f _ c.args.lits.now c.in-Delete.is), c.requires.lits_in_bounds)

pub returns-in-Add-clause-value : goal.returns-in-Add-clause-value
returns-in-Add-clause-value c =
    let e = sym (bytes_add c.args.f _ c.args.lits.now c.in-Add.is) in
    c.put_step.ensures.value ∙ ap (λ (bs : List ℕ). c.args.at + length bs) e

pub returns-in-Add-clause-fills : goal.returns-in-Add-clause-fills
returns-in-Add-clause-fills c =
    let e = sym (bytes_add c.args.f _ c.args.lits.now c.in-Add.is) in
    c.put_step.ensures.fills ∙ ap (λ
    (bs : List ℕ). sets c.args.out.now c.args.at bs) e

pub returns-in-Delete-clause-value : goal.returns-in-Delete-clause-value
returns-in-Delete-clause-value c =
    let e = sym (bytes_delete c.args.f _ c.args.lits.now c.in-Delete.is) in
    c.put_step-in-Delete.ensures.value ∙ ap (λ (bs : List ℕ). c.args.at + length bs) e

pub returns-in-Delete-clause-fills : goal.returns-in-Delete-clause-fills
returns-in-Delete-clause-fills c =
    let e = sym (bytes_delete c.args.f _ c.args.lits.now c.in-Delete.is) in
    c.put_step-in-Delete.ensures.fills ∙ ap (λ
    (bs : List ℕ). sets c.args.out.now c.args.at bs) e

pub returns-in-Nothing-clause-value : goal.returns-in-Nothing-clause-value
returns-in-Nothing-clause-value c =
    let e = bytes_nothing c.args.f _ c.args.lits.now c.in-Nothing.is in
    omega (arith, ap length e)

pub returns-in-Nothing-clause-fills : goal.returns-in-Nothing-clause-fills
returns-in-Nothing-clause-fills c =
    let e = bytes_nothing c.args.f _ c.args.lits.now c.in-Nothing.is in
    sym (ap (λ (bs : List ℕ). sets c.args.out.now c.args.at bs) e)

pub returns-in-Refused-clause-value : goal.returns-in-Refused-clause-value
returns-in-Refused-clause-value c =
    let e = bytes_refused c.args.f _ c.args.lits.now c.in-Refused.is in
    omega (arith, ap length e)

pub returns-in-Refused-clause-fills : goal.returns-in-Refused-clause-fills
returns-in-Refused-clause-fills c =
    let e = bytes_refused c.args.f _ c.args.lits.now c.in-Refused.is in
    sym (ap (λ (bs : List ℕ). sets c.args.out.now c.args.at bs) e)

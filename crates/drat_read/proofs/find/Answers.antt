use Prim.Native.Nat.{ℕ}
use mathlib.Core.Path.{sym, ap₂, ◌∙◌, subst}
use native.Mathlib.Omega.{arith}
use Rattle.drat.proofs.Ends.{answer_fault}
use Rattle.drat.proofs.Sound.{Bytes}
use Rattle.drat.specs.Filled.{size}
use Rattle.drat_judge.proofs.CountsLaws.{counts_are}
use Rattle.drat_read.specs.Known.{Found}
use Rattle.drat_read.proofs.FillLaws.{ample_fits, whole_found}
use Rattle.drat_read.proofs.find.Goals as goal
use Rattle.std.specs.Prelude.{Ok}

pub returns-then-is_ample : goal.returns-then-is_ample
returns-then-is_ample c =
    let a = c.args in
    let hb : Bytes a.bytes.now = λ i. omega (arith, c.type_inv.bytes i) in
    let r = c.is_ample.ensures c.if-is_ample.true in
    ample_fits a.f a.bytes.now a.a a.b a.c hb (c.is_known.ensures c.if-is_known.true) r.0 r.1 r.2

pub returns-then-is_known : goal.returns-then-is_known
returns-then-is_known c =
    let a = c.args in
    let hb : Bytes a.bytes.now = λ i. omega (arith, c.type_inv.bytes i) in
    let w = c.counts_of in
    let e = ap₂ (λ (x y : ℕ). Ok (size x y)) w.ensures.0 w.ensures.1 ∙ counts_are a.f a.bytes.now hb (c.is_known.ensures c.if-is_known.true) in
    subst (Found a.f a.bytes.now a.a a.b a.c) (sym c.room_for.ensures) (whole_found a.f a.bytes.now w.result.lits w.result.steps a.a a.b a.c e)

pub returns-in-Err : goal.returns-in-Err
returns-in-Err c =
    let a = c.args in
    answer_fault a.f a.bytes.now a.a a.b a.c c.in-Err.place (sym c.in-Err.is ∙ c.scan.ensures)

pub returns-in-Ok : goal.returns-in-Ok
returns-in-Ok c =
    let a = c.args in
    let w = c.in-Ok.size in
    subst (Found a.f a.bytes.now a.a a.b a.c) (sym c.room_for-in-Ok.ensures)
    (whole_found a.f a.bytes.now w.lits w.steps a.a a.b a.c (sym c.in-Ok.is ∙ c.scan.ensures))

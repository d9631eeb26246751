use native.Mathlib.Omega.{arith}
use Rattle.drat.proofs.Sound.{Bytes}
use Rattle.drat_scan.proofs.ScanLaws.{end_after, first_is}
use Rattle.drat_read.proofs.first_step.Goals as goal

pub slice_bounds-result-count : goal.slice_bounds-result-count
slice_bounds-result-count c =
    let a = c.args in
    let s = a.bytes.now in
    let hb : Bytes s = λ i. omega (arith, c.type_inv.bytes i) in
    let h = end_after a.f s c.first_token-i.result hb in
    omega (arith, h, c.step_end-e.ensures.0)

pub slice_bounds-result-start : goal.slice_bounds-result-start
slice_bounds-result-start c =
    let a = c.args in
    let s = a.bytes.now in
    let hb : Bytes s = λ i. omega (arith, c.type_inv.bytes i) in
    let h = end_after a.f s c.first_token-i.result hb in
    omega (arith, h, c.step_end-e.ensures.0)

pub returns : goal.returns
returns c =
    let a = c.args in
    let s = a.bytes.now in
    let hb : Bytes s = λ i. omega (arith, c.type_inv.bytes i) in
    first_is a.f s c.first_token-i.result c.step_end-e.result hb c.first_token-i.ensures
    c.step_end-e.ensures.0

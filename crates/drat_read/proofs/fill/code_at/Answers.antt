use mathlib.Core.Path.{sym, ◌∙◌}
use native.Mathlib.Omega.{arith}
use Rattle.drat.specs.declared.Format.TheVariants.{Binary}
use Rattle.drat_read.proofs.LitLaws.{token_inside, binary_literal, leb_one, leb_two, lit_code}
use Rattle.drat_read.proofs.fill.code_at.Goals as goal

pub overflow_sub-result : goal.overflow_sub-result
overflow_sub-result c =
    let a = c.args in
    let s = a.s.now in
    let t = c.requires.lit.is in
    let h = token_inside Binary s a.at c.requires.lit.code c.requires.lit.next t in
    let b = binary_literal s a.at h c.requires.fact in
    let e = sym b ∙ t in
    let d = leb_one s a.at c.requires.lit.code c.requires.lit.next e c.if-b-lt128.true in
    d.0

pub returns-then-b-lt128 : goal.returns-then-b-lt128
returns-then-b-lt128 c =
    let a = c.args in
    let s = a.s.now in
    let t = c.requires.lit.is in
    let h = token_inside Binary s a.at c.requires.lit.code c.requires.lit.next t in
    let b = binary_literal s a.at h c.requires.fact in
    let e = sym b ∙ t in
    let d = leb_one s a.at c.requires.lit.code c.requires.lit.next e c.if-b-lt128.true in
    b ∙ d.1

pub bounds-s-at-2 : goal.bounds-s-at-2
bounds-s-at-2 c =
    let a = c.args in
    let s = a.s.now in
    let t = c.requires.lit.is in
    let h = token_inside Binary s a.at c.requires.lit.code c.requires.lit.next t in
    let b = binary_literal s a.at h c.requires.fact in
    let e = sym b ∙ t in
    let d = leb_two s a.at c.requires.lit.code c.requires.lit.next e c.if-b-lt128.false in
    d.0

pub overflow_sub-result-2 : goal.overflow_sub-result-2
overflow_sub-result-2 c =
    let a = c.args in
    let s = a.s.now in
    let t = c.requires.lit.is in
    let h = token_inside Binary s a.at c.requires.lit.code c.requires.lit.next t in
    let b = binary_literal s a.at h c.requires.fact in
    let e = sym b ∙ t in
    let d = leb_two s a.at c.requires.lit.code c.requires.lit.next e c.if-b-lt128.false in
    omega (arith, d.1, c.if-b-lt128.false)

pub returns : goal.returns
returns c =
    let a = c.args in
    let s = a.s.now in
    let t = c.requires.lit.is in
    let h = token_inside Binary s a.at c.requires.lit.code c.requires.lit.next t in
    let b = binary_literal s a.at h c.requires.fact in
    let e = sym b ∙ t in
    let d = leb_two s a.at c.requires.lit.code c.requires.lit.next e c.if-b-lt128.false in
    lit_code _ _ _ _ (b ∙ d.2) (omega arith)

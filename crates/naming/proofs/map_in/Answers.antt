use Rattle.table.proofs.FoundLaws.{global_word, global_word_lem}
use Rattle.naming.proofs.InLaws.{in_unmapped, in_outside, in_unsampled, in_free, in_sampled}
use mathlib.Core.Path.{◌∙◌, ap}
use native.Mathlib.Omega.{arith}
use Rattle.naming.proofs.map_in.Goals as goal

pub returns-in_err-g : goal.returns-in_err-g
returns-in_err-g c =
    rw c.from_residual.ensures (in_unmapped _ _ _ _ (global_word_lem _ _ c.global_of.ensures ∙ ap global_word c.in_err-g.was))

pub returns-then-not-sampling : goal.returns-then-not-sampling
returns-then-not-sampling c =
    let w = global_word_lem _ _ c.global_of.ensures ∙ ap global_word c.in_ok-g.was in
    in_free _ _ _ _ _ w c.if-not-sampling.true

pub returns-in_err-w : goal.returns-in_err-w
returns-in_err-w c =
    let w = global_word_lem _ _ c.global_of.ensures ∙ ap global_word c.in_ok-g.was in
    rw c.from_residual-in_err-w.ensures (in_outside _ _ _ _ _ w c.in_err-w.ensures.lookup.3)

pub returns-then-w-ne0 : goal.returns-then-w-ne0
returns-then-w-ne0 c =
    let w = global_word_lem _ _ c.global_of.ensures ∙ ap global_word c.in_ok-g.was in
    let n = c.if-w-ne0.true in
    let e = c.in_ok-w.ensures.lookup.3.1 0 in
    in_unsampled _ _ _ _ _ w c.if-not-sampling.false (λ z. n (omega arith))

pub returns : goal.returns
returns c =
    let w = global_word_lem _ _ c.global_of.ensures ∙ ap global_word c.in_ok-g.was in
    let n = c.if-w-ne0.false in
    let e = c.in_ok-w.ensures.lookup.3.1 0 in
    in_sampled _ _ _ _ _ w c.if-not-sampling.false (omega arith)

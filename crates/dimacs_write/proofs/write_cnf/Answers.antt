use Prim.Native.Nat.{ℕ}
use mathlib.Core.List.{[], ◌∷◌}
use mathlib.Core.Path.{sym, ap, ◌∙◌}
use native.Mathlib.Omega.{arith}
use lib.Seq.{sets}
use lib.ListN.{length}
use borrow.Author.Tests.{leb-true}
use Rattle.base.specs.Answer.{accepted}
use Rattle.drat.specs.Writing.{Writing}
use Rattle.dimacs.specs.Cnf.{written}
use Rattle.dimacs.specs.Calls.{clauses_by}
use Rattle.dimacs.proofs.ClauseLaws.{largest_le}
use Rattle.dimacs.proofs.Written.{is_writable}
use Rattle.dimacs_write.proofs.CnfLaws.{written_length, written_sets, cnf_done}
use Rattle.dimacs_write.proofs.write_cnf.Goals as goal

pub largest_of-v-requires : goal.largest_of-v-requires
largest_of-v-requires c =
    let a = c.args in
    let w = sym c.no_cnf.ensures ∙ c.if-no_cnf.false in
    (is_writable a.codes.now a.ends.now w).coded

pub cnf_fits-requires-clause-writable : goal.cnf_fits-requires-clause-writable
cnf_fits-requires-clause-writable c =
    let a = c.args in
    let w = sym c.no_cnf.ensures ∙ c.if-no_cnf.false in
    let i = is_writable a.codes.now a.ends.now w in
    i

pub cnf_fits-requires-clause-v_bound : goal.cnf_fits-requires-clause-v_bound
cnf_fits-requires-clause-v_bound c =
    let a = c.args in
    let w = sym c.no_cnf.ensures ∙ c.if-no_cnf.false in
    let i = is_writable a.codes.now a.ends.now w in
    omega (arith, c.largest_of-v.ensures, largest_le a.codes.now i.coded)

pub put_header-p-requires : goal.put_header-p-requires
put_header-p-requires c =
    let a = c.args in
    let w = sym c.no_cnf.ensures ∙ c.if-no_cnf.false in
    let v = c.largest_of-v.result in
    let n = length (written v (clauses_by a.codes.now 0 a.ends.now)) in
    let f = leb-true n (length a.out.now) (sym c.cnf_fits.ensures ∙ c.if-not-cnf_fits.false) in
    omega (arith, f, written_length a.codes.now a.ends.now v)

pub put_lines-requires-clause-writable : goal.put_lines-requires-clause-writable
put_lines-requires-clause-writable c =
    let a = c.args in
    let w = sym c.no_cnf.ensures ∙ c.if-no_cnf.false in
    is_writable a.codes.now a.ends.now w

pub put_lines-requires-clause-ends_in_bounds : goal.put_lines-requires-clause-ends_in_bounds
put_lines-requires-clause-ends_in_bounds c =
    let a = c.args in
    let w = sym c.no_cnf.ensures ∙ c.if-no_cnf.false in
    let v = c.largest_of-v.result in
    let n = length (written v (clauses_by a.codes.now 0 a.ends.now)) in
    let p = c.put_header-p in
    let f = leb-true n (length a.out.now) (sym c.cnf_fits.ensures ∙ c.if-not-cnf_fits.false) in
    omega (arith, f, written_length a.codes.now a.ends.now v, p.ensures.value, p.auto.out)

pub returns-clause-result_value : goal.returns-clause-result_value
returns-clause-result_value c =
    let a = c.args in
    let w = sym c.no_cnf.ensures ∙ c.if-no_cnf.false in
    let v = c.largest_of-v.result in
    let n = length (written v (clauses_by a.codes.now 0 a.ends.now)) in
    let f = leb-true n (length a.out.now) (sym c.cnf_fits.ensures ∙ c.if-not-cnf_fits.false) in
    let e = cnf_done a.codes.now a.ends.now (length a.out.now) w v c.largest_of-v.ensures f in
    let s = written_sets a.codes.now a.ends.now v a.out.now _ _ _ c.put_header-p.ensures.fills c.put_header-p.ensures.value c.put_lines.ensures.fills in
    ap (λ (k : ℕ). accepted (k ∷ [])) (omega (arith, c.put_header-p.ensures.value, c.put_lines.ensures.value, written_length a.codes.now a.ends.now v))
    ∙ sym (ap (λ (x : Writing). x.answer) e)

pub returns-clause-fills : goal.returns-clause-fills
returns-clause-fills c =
    let a = c.args in
    let w = sym c.no_cnf.ensures ∙ c.if-no_cnf.false in
    let v = c.largest_of-v.result in
    let n = length (written v (clauses_by a.codes.now 0 a.ends.now)) in
    let f = leb-true n (length a.out.now) (sym c.cnf_fits.ensures ∙ c.if-not-cnf_fits.false) in
    let e = cnf_done a.codes.now a.ends.now (length a.out.now) w v c.largest_of-v.ensures f in
    let s = written_sets a.codes.now a.ends.now v a.out.now _ _ _ c.put_header-p.ensures.fills c.put_header-p.ensures.value c.put_lines.ensures.fills in
    s ∙ sym (ap (λ (x : Writing). sets a.out.now 0 x.bytes) e)

use native.Mathlib.Omega.{arith}
use Rattle.drat_read.proofs.LiteralLaws.{lit_as, second_inside, third_inside, fourth_inside}
use Rattle.drat_read.proofs.LiteralLaws.{fifth_inside, one_is, two_is, three_is, four_is, five_is}
use Rattle.drat_read.proofs.literal.literal_at.Goals as goal

pub bounds-s-at : goal.bounds-s-at
bounds-s-at c =
    let a = c.args in
    let pre = c.requires in
    omega (arith, second_inside a.s.now a.at pre)

pub overflow_add-b : goal.overflow_add-b
overflow_add-b c =
    let a = c.args in
    let pre = c.requires in
    omega (arith, second_inside a.s.now a.at pre)

pub bounds-s-at-2 : goal.bounds-s-at-2
bounds-s-at-2 c =
    let a = c.args in
    let pre = c.requires in
    second_inside a.s.now a.at pre

pub bounds-s-at-3 : goal.bounds-s-at-3
bounds-s-at-3 c =
    let a = c.args in
    let pre = c.requires in
    let if1 = c.if-b-lt45 in
    (third_inside a.s.now a.at pre if1.false).0

pub bounds-s-at-4 : goal.bounds-s-at-4
bounds-s-at-4 c =
    let a = c.args in
    let pre = c.requires in
    let if1 = c.if-b-lt45 in
    let if2 = c.if-c-lt45 in
    (fourth_inside a.s.now a.at pre if1.false if2.false).0

pub bounds-s-at-5 : goal.bounds-s-at-5
bounds-s-at-5 c =
    let a = c.args in
    let pre = c.requires in
    let if1 = c.if-b-lt45 in
    let if2 = c.if-c-lt45 in
    let if3 = c.if-d-lt45 in
    (fifth_inside a.s.now a.at pre if1.false if2.false if3.false).0

pub code_of-requires : goal.code_of-requires
code_of-requires c =
    let w = one_is c.args.s.now c.args.at c.requires c.if-b-lt45.true in
    (omega arith, omega arith, omega arith, omega (arith, w.0), omega (arith, w.0))

pub returns-then-b-lt45 : goal.returns-then-b-lt45
returns-then-b-lt45 c =
    let pre = c.requires in
    let w = one_is c.args.s.now c.args.at pre c.if-b-lt45.true in
    lit_as _ pre.code pre.next _ _ pre.is (omega (arith, c.code_of.ensures, w.1)) (omega (arith, w.2))

pub lead-requires-clause-minus_or_digit : goal.lead-requires-clause-minus_or_digit
lead-requires-clause-minus_or_digit c = (two_is c.args.s.now c.args.at c.requires c.if-b-lt45.false c.if-c-lt45.true).0

pub code_of-requires-then-c-lt45 : goal.code_of-requires-then-c-lt45
code_of-requires-then-c-lt45 c =
    let a = c.args in
    let pre = c.requires in
    let w = two_is a.s.now a.at pre c.if-b-lt45.false c.if-c-lt45.true in (
      omega (arith, c.lead.ensures.1),
      omega arith,
      omega arith,
      (third_inside a.s.now a.at pre c.if-b-lt45.false).1,
      omega (arith, c.lead.ensures.0, w.1),
    )

pub returns-then-c-lt45 : goal.returns-then-c-lt45
returns-then-c-lt45 c =
    let pre = c.requires in
    let w = two_is c.args.s.now c.args.at pre c.if-b-lt45.false c.if-c-lt45.true in
    lit_as _ pre.code pre.next _ _ pre.is (omega (arith, c.code_of-then-c-lt45.ensures, c.lead.ensures.0, w.1)) (omega (arith, w.2))

pub lead-requires-then-d-lt45-clause-minus_or_digit : goal.lead-requires-then-d-lt45-clause-minus_or_digit
lead-requires-then-d-lt45-clause-minus_or_digit c =
    (three_is c.args.s.now c.args.at c.requires c.if-b-lt45.false c.if-c-lt45.false c.if-d-lt45.true).0

pub code_of-requires-then-d-lt45 : goal.code_of-requires-then-d-lt45
code_of-requires-then-d-lt45 c =
    let a = c.args in
    let pre = c.requires in
    let k = c.lead-then-d-lt45 in
    let w = three_is a.s.now a.at pre c.if-b-lt45.false c.if-c-lt45.false c.if-d-lt45.true in
    let p = (third_inside a.s.now a.at pre c.if-b-lt45.false).1 in
    let q = (fourth_inside a.s.now a.at pre c.if-b-lt45.false c.if-c-lt45.false).1 in (
      omega (arith, k.ensures.1),
      omega arith,
      omega (arith, p, q),
      omega (arith, p, q),
      omega (arith, k.ensures.0, w.1, p, q),
    )

pub returns-then-d-lt45 : goal.returns-then-d-lt45
returns-then-d-lt45 c =
    let pre = c.requires in
    let w = three_is c.args.s.now c.args.at pre c.if-b-lt45.false c.if-c-lt45.false c.if-d-lt45.true in
    lit_as _ pre.code pre.next _ _ pre.is (omega (arith, c.code_of-then-d-lt45.ensures, c.lead-then-d-lt45.ensures.0, w.1)) (omega (arith, w.2))

pub lead-requires-then-e-lt45-clause-minus_or_digit : goal.lead-requires-then-e-lt45-clause-minus_or_digit
lead-requires-then-e-lt45-clause-minus_or_digit c =
    (four_is c.args.s.now c.args.at c.requires c.if-b-lt45.false c.if-c-lt45.false c.if-d-lt45.false c.if-e-lt45.true).0

pub code_of-requires-then-e-lt45 : goal.code_of-requires-then-e-lt45
code_of-requires-then-e-lt45 c =
    let a = c.args in
    let pre = c.requires in
    let k = c.lead-then-e-lt45 in
    let w = four_is a.s.now a.at pre c.if-b-lt45.false c.if-c-lt45.false c.if-d-lt45.false c.if-e-lt45.true in (
      omega (arith, k.ensures.1),
      (third_inside a.s.now a.at pre c.if-b-lt45.false).1,
      (fourth_inside a.s.now a.at pre c.if-b-lt45.false c.if-c-lt45.false).1,
      (fifth_inside a.s.now a.at pre c.if-b-lt45.false c.if-c-lt45.false c.if-d-lt45.false).1,
      omega (arith, k.ensures.0, w.1),
    )

pub returns-then-e-lt45 : goal.returns-then-e-lt45
returns-then-e-lt45 c =
    let pre = c.requires in
    let w = four_is c.args.s.now c.args.at pre c.if-b-lt45.false c.if-c-lt45.false c.if-d-lt45.false c.if-e-lt45.true in
    lit_as _ pre.code pre.next _ _ pre.is (omega (arith, c.code_of-then-e-lt45.ensures, c.lead-then-e-lt45.ensures.0, w.1)) (omega (arith, w.2))

pub digit-requires : goal.digit-requires
digit-requires c = (third_inside c.args.s.now c.args.at c.requires c.if-b-lt45.false).1

pub code_of-requires-2 : goal.code_of-requires-2
code_of-requires-2 c =
    let a = c.args in
    let pre = c.requires in
    let w = five_is a.s.now a.at pre c.if-b-lt45.false c.if-c-lt45.false c.if-d-lt45.false c.if-e-lt45.false in (
      omega (arith, c.digit.ensures.1),
      (fourth_inside a.s.now a.at pre c.if-b-lt45.false c.if-c-lt45.false).1,
      (fifth_inside a.s.now a.at pre c.if-b-lt45.false c.if-c-lt45.false c.if-d-lt45.false).1,
      w.0,
      omega (arith, c.digit.ensures.0, w.1),
    )

pub returns : goal.returns
returns c =
    let pre = c.requires in
    let w = five_is c.args.s.now c.args.at pre c.if-b-lt45.false c.if-c-lt45.false c.if-d-lt45.false c.if-e-lt45.false in
    lit_as _ pre.code pre.next _ _ pre.is (omega (arith, c.code_of-2.ensures, c.digit.ensures.0, w.1)) (omega (arith, w.2))

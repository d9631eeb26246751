use mathlib.Core.Path.{sym, ◌∙◌}
use Rattle.dimacs_read.proofs.CallLaws.{call_headless, lines_within, lines_fit, call_wrong, call_miscounted, call_short, call_filled}
use Rattle.dimacs_read.proofs.read_cnf.Goals as goal

pub returns-in_default : goal.returns-in_default
returns-in_default c =
    let a = c.args in
    let place = c.header_place-place in
    let k = call_headless a.bytes.now a.codes.now a.ends.now place.result place.ensures.value c.head_at.result c.head_at.ensures c.in_default.is in
    record { value = k.answer; codes = k.codes_after; ends = k.ends_after }

pub count-requires : goal.count-requires
count-requires c =
    let a = c.args in
    let place = c.header_place-place in
    let found = c.head_at in
    let head = c.in-Some.head in
    lines_within a.bytes.now a.codes.now a.ends.now place.result place.ensures.value found.result found.ensures head.variables
    head.clauses head.next c.in-Some.is place.ensures.upper_bound

pub returns-in-Err : goal.returns-in-Err
returns-in-Err c =
    let a = c.args in
    let place = c.header_place-place in
    let found = c.head_at in
    let head = c.in-Some.head in
    let k = call_wrong a.bytes.now a.codes.now a.ends.now place.result place.ensures.value found.result found.ensures head.variables
    head.clauses head.next c.in-Some.is c.in-Err.start (sym c.in-Err.is ∙ c.count.ensures) in
    record { value = k.answer; codes = k.codes_after; ends = k.ends_after }

pub returns-then-head-size : goal.returns-then-head-size
returns-then-head-size c =
    let a = c.args in
    let place = c.header_place-place in
    let found = c.head_at in
    let head = c.in-Some.head in
    let told = c.in-Ok in
    let k = call_miscounted a.bytes.now a.codes.now a.ends.now place.result place.ensures.value found.result found.ensures head.variables
    head.clauses head.next c.in-Some.is told.size.lits told.size.steps (sym told.is ∙ c.count.ensures) place.ensures.s_len_bound c.if-head-size.true in
    record { value = k.answer; codes = k.codes_after; ends = k.ends_after }

pub returns-then-codes-size : goal.returns-then-codes-size
returns-then-codes-size c =
    let a = c.args in
    let place = c.header_place-place in
    let found = c.head_at in
    let head = c.in-Some.head in
    let told = c.in-Ok in
    let k = call_short a.bytes.now a.codes.now a.ends.now place.result place.ensures.value found.result found.ensures head.variables head.clauses
    head.next c.in-Some.is told.size.lits told.size.steps (sym told.is ∙ c.count.ensures) place.ensures.s_len_bound c.if-head-size.false
    c.then-codes-size.either in
    record { value = k.answer; codes = k.codes_after; ends = k.ends_after }

pub fill-requires : goal.fill-requires
fill-requires c =
    let a = c.args in
    let place = c.header_place-place in
    let found = c.head_at in
    let head = c.in-Some.head in
    let told = c.in-Ok in
    lines_fit a.bytes.now a.codes.now a.ends.now place.result place.ensures.value found.result found.ensures head.variables head.clauses head.next
    c.in-Some.is told.size.lits told.size.steps (sym told.is ∙ c.count.ensures) place.ensures.s_len_bound
    (lines_within a.bytes.now a.codes.now a.ends.now place.result place.ensures.value found.result found.ensures head.variables head.clauses
    head.next c.in-Some.is place.ensures.upper_bound) c.if-codes-size.false c.if-ends-size.false

pub returns : goal.returns
returns c =
    let a = c.args in
    let place = c.header_place-place in
    let found = c.head_at in
    let head = c.in-Some.head in
    let told = c.in-Ok in
    let k = call_filled a.bytes.now a.codes.now a.ends.now place.result place.ensures.value found.result found.ensures head.variables head.clauses
    head.next c.in-Some.is told.size.lits told.size.steps (sym told.is ∙ c.count.ensures) place.ensures.s_len_bound c.if-head-size.false
    c.if-codes-size.false c.if-ends-size.false _ _ _ c.fill.ensures in
    record { value = k.answer; codes = k.codes_after; ends = k.ends_after }

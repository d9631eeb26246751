use Rattle.scope.proofs.SoundLaws.{sizes_of}
use Rattle.table.proofs.CheckLaws.{yes_of, no_sizes, no_marks, no_tails, no_pairs, pairs_is, tails_is, sound_is}
use native.Mathlib.Omega.{arith}
use Rattle.table.proofs.Lists.is_sound.Goals as goal

pub returns-then-not-sizes_ok : goal.returns-then-not-sizes_ok
returns-then-not-sizes_ok c = no_sizes _ _ c.sizes_ok.ensures c.if-not-sizes_ok.true

pub returns-then-not-marks_ok : goal.returns-then-not-marks_ok
returns-then-not-marks_ok c = no_marks _ _ c.marks_ok.ensures c.if-not-marks_ok.true

pub returns-then-not-tails_ok : goal.returns-then-not-tails_ok
returns-then-not-tails_ok c = no_tails _ _ c.tails_ok.ensures c.if-not-tails_ok.true

pub pair_ok-requires-clause-amark_in_bounds : goal.pair_ok-requires-clause-amark_in_bounds
pair_ok-requires-clause-amark_in_bounds c =
    let s = sizes_of _ (yes_of c.sizes_ok.ensures c.if-not-sizes_ok.false)
    (yes_of c.marks_ok.ensures c.if-not-marks_ok.false) in
    let t = tails_is _ (yes_of c.tails_ok.ensures c.if-not-tails_ok.false) in
    omega arith

pub pair_ok-requires-clause-bmark_in_bounds : goal.pair_ok-requires-clause-bmark_in_bounds
pair_ok-requires-clause-bmark_in_bounds c =
    let s = sizes_of _ (yes_of c.sizes_ok.ensures c.if-not-sizes_ok.false)
    (yes_of c.marks_ok.ensures c.if-not-marks_ok.false) in
    let t = tails_is _ (yes_of c.tails_ok.ensures c.if-not-tails_ok.false) in
    omega arith

pub pair_ok-requires-clause-a_value : goal.pair_ok-requires-clause-a_value
pair_ok-requires-clause-a_value c =
    let t = tails_is _ (yes_of c.tails_ok.ensures c.if-not-tails_ok.false) in
    t.gu

pub pair_ok-requires-clause-b_value : goal.pair_ok-requires-clause-b_value
pair_ok-requires-clause-b_value c =
    let t = tails_is _ (yes_of c.tails_ok.ensures c.if-not-tails_ok.false) in
    t.ug

pub pair_ok-requires-clause-in_bounds : goal.pair_ok-requires-clause-in_bounds
pair_ok-requires-clause-in_bounds c =
    let s = sizes_of _ (yes_of c.sizes_ok.ensures c.if-not-sizes_ok.false)
    (yes_of c.marks_ok.ensures c.if-not-marks_ok.false) in
    let t = tails_is _ (yes_of c.tails_ok.ensures c.if-not-tails_ok.false) in
    omega arith

pub pair_ok-requires-clause-b_len_bound : goal.pair_ok-requires-clause-b_len_bound
pair_ok-requires-clause-b_len_bound c =
    let s = sizes_of _ (yes_of c.sizes_ok.ensures c.if-not-sizes_ok.false)
    (yes_of c.marks_ok.ensures c.if-not-marks_ok.false) in
    let t = tails_is _ (yes_of c.tails_ok.ensures c.if-not-tails_ok.false) in
    omega arith

pub pair_ok-requires-2-clause-amark_in_bounds : goal.pair_ok-requires-2-clause-amark_in_bounds
pair_ok-requires-2-clause-amark_in_bounds c =
    let s = sizes_of _ (yes_of c.sizes_ok.ensures c.if-not-sizes_ok.false)
    (yes_of c.marks_ok.ensures c.if-not-marks_ok.false) in
    let t = tails_is _ (yes_of c.tails_ok.ensures c.if-not-tails_ok.false) in
    omega arith

pub pair_ok-requires-2-clause-bmark_in_bounds : goal.pair_ok-requires-2-clause-bmark_in_bounds
pair_ok-requires-2-clause-bmark_in_bounds c =
    let s = sizes_of _ (yes_of c.sizes_ok.ensures c.if-not-sizes_ok.false)
    (yes_of c.marks_ok.ensures c.if-not-marks_ok.false) in
    let t = tails_is _ (yes_of c.tails_ok.ensures c.if-not-tails_ok.false) in
    omega arith

pub pair_ok-requires-2-clause-a_value : goal.pair_ok-requires-2-clause-a_value
pair_ok-requires-2-clause-a_value c =
    let t = tails_is _ (yes_of c.tails_ok.ensures c.if-not-tails_ok.false) in
    t.gs

pub pair_ok-requires-2-clause-b_value : goal.pair_ok-requires-2-clause-b_value
pair_ok-requires-2-clause-b_value c =
    let t = tails_is _ (yes_of c.tails_ok.ensures c.if-not-tails_ok.false) in
    t.sg

pub pair_ok-requires-2-clause-in_bounds : goal.pair_ok-requires-2-clause-in_bounds
pair_ok-requires-2-clause-in_bounds c =
    let s = sizes_of _ (yes_of c.sizes_ok.ensures c.if-not-sizes_ok.false)
    (yes_of c.marks_ok.ensures c.if-not-marks_ok.false) in
    let t = tails_is _ (yes_of c.tails_ok.ensures c.if-not-tails_ok.false) in
    omega arith

pub pair_ok-requires-2-clause-b_len_bound : goal.pair_ok-requires-2-clause-b_len_bound
pair_ok-requires-2-clause-b_len_bound c =
    let s = sizes_of _ (yes_of c.sizes_ok.ensures c.if-not-sizes_ok.false)
    (yes_of c.marks_ok.ensures c.if-not-marks_ok.false) in
    let t = tails_is _ (yes_of c.tails_ok.ensures c.if-not-tails_ok.false) in
    omega arith

pub returns-then-not-pair_ok : goal.returns-then-not-pair_ok
returns-then-not-pair_ok c = no_pairs _ _ (pairs_is _ _ _ c.pair_ok.ensures c.pair_ok-2.ensures) c.if-not-pair_ok.true

pub at_most-requires-clause-mark_in_bounds : goal.at_most-requires-clause-mark_in_bounds
at_most-requires-clause-mark_in_bounds c =
    let s = sizes_of _ (yes_of c.sizes_ok.ensures
    c.if-not-sizes_ok.false)
    (yes_of c.marks_ok.ensures c.if-not-marks_ok.false) in
    let t = tails_is _ (yes_of c.tails_ok.ensures c.if-not-tails_ok.false) in
    omega arith

pub at_most-requires-clause-xs_value : goal.at_most-requires-clause-xs_value
at_most-requires-clause-xs_value c =
    let t = tails_is _ (yes_of c.tails_ok.ensures c.if-not-tails_ok.false) in
    t.assignment

pub rows_ok-requires-clause-mark_in_bounds : goal.rows_ok-requires-clause-mark_in_bounds
rows_ok-requires-clause-mark_in_bounds c =
    let s = sizes_of _ (yes_of c.sizes_ok.ensures
    c.if-not-sizes_ok.false)
    (yes_of c.marks_ok.ensures
    c.if-not-marks_ok.false) in
    let t = tails_is _ (yes_of c.tails_ok.ensures c.if-not-tails_ok.false) in
    omega arith

pub rows_ok-requires-clause-mark_in_bounds_2 : goal.rows_ok-requires-clause-mark_in_bounds_2
rows_ok-requires-clause-mark_in_bounds_2 c =
    let s = sizes_of _ (yes_of c.sizes_ok.ensures
    c.if-not-sizes_ok.false)
    (yes_of c.marks_ok.ensures
    c.if-not-marks_ok.false) in
    let t = tails_is _ (yes_of c.tails_ok.ensures c.if-not-tails_ok.false) in
    omega arith

pub rows_ok-requires-clause-mark_in_bounds_3 : goal.rows_ok-requires-clause-mark_in_bounds_3
rows_ok-requires-clause-mark_in_bounds_3 c =
    let s = sizes_of _ (yes_of c.sizes_ok.ensures
    c.if-not-sizes_ok.false)
    (yes_of c.marks_ok.ensures
    c.if-not-marks_ok.false) in
    let t = tails_is _ (yes_of c.tails_ok.ensures c.if-not-tails_ok.false) in
    omega arith

pub rows_ok-requires-clause-records_value : goal.rows_ok-requires-clause-records_value
rows_ok-requires-clause-records_value c =
    let t = tails_is _ (yes_of c.tails_ok.ensures c.if-not-tails_ok.false) in
    t.records

pub rows_ok-requires-clause-ug_value : goal.rows_ok-requires-clause-ug_value
rows_ok-requires-clause-ug_value c =
    let t = tails_is _ (yes_of c.tails_ok.ensures c.if-not-tails_ok.false) in
    t.ug

pub rows_ok-requires-clause-sg_value : goal.rows_ok-requires-clause-sg_value
rows_ok-requires-clause-sg_value c =
    let t = tails_is _ (yes_of c.tails_ok.ensures c.if-not-tails_ok.false) in
    t.sg

pub stored_ok-requires-clause-solver_in_bounds : goal.stored_ok-requires-clause-solver_in_bounds
stored_ok-requires-clause-solver_in_bounds c =
    let s = sizes_of _ (yes_of c.sizes_ok.ensures c.if-not-sizes_ok.false)
    (yes_of c.marks_ok.ensures c.if-not-marks_ok.false) in
    let t = tails_is _ (yes_of c.tails_ok.ensures c.if-not-tails_ok.false) in
    omega arith

pub stored_ok-requires-clause-global_in_bounds : goal.stored_ok-requires-clause-global_in_bounds
stored_ok-requires-clause-global_in_bounds c =
    let s = sizes_of _ (yes_of c.sizes_ok.ensures c.if-not-sizes_ok.false)
    (yes_of c.marks_ok.ensures c.if-not-marks_ok.false) in
    let t = tails_is _ (yes_of c.tails_ok.ensures c.if-not-tails_ok.false) in
    omega arith

pub stored_ok-requires-clause-records_value : goal.stored_ok-requires-clause-records_value
stored_ok-requires-clause-records_value c =
    let t = tails_is _ (yes_of c.tails_ok.ensures c.if-not-tails_ok.false) in
    t.records

pub returns : goal.returns
returns c =
    let sizes = yes_of c.sizes_ok.ensures c.if-not-sizes_ok.false in
    let marks = yes_of c.marks_ok.ensures c.if-not-marks_ok.false in
    let s = sizes_of _ sizes marks in
    sound_is _ _ _ _ sizes marks (yes_of c.tails_ok.ensures c.if-not-tails_ok.false)
    (yes_of (pairs_is _ _ _ c.pair_ok.ensures c.pair_ok-2.ensures)
    c.if-not-pair_ok.false) c.at_most.ensures c.rows_ok.ensures
    c.stored_ok.ensures s.records

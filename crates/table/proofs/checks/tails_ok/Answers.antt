use Rattle.table.proofs.CheckLaws.{tails_by}
use Rattle.scope.proofs.SoundLaws.{sizes_of}
use native.Mathlib.Omega.{arith}
use Rattle.table.proofs.checks.tails_ok.Goals as goal

pub tail_ok-requires : goal.tail_ok-requires
tail_ok-requires c =
    let s = sizes_of _ c.requires.sizes c.requires.marks in
    omega arith

pub two_tails_ok-requires-clause-mark_in_bounds : goal.two_tails_ok-requires-clause-mark_in_bounds
two_tails_ok-requires-clause-mark_in_bounds c =
    let s = sizes_of _ c.requires.sizes c.requires.marks in
    omega arith

pub two_tails_ok-requires-clause-ys_len : goal.two_tails_ok-requires-clause-ys_len
two_tails_ok-requires-clause-ys_len c =
    let s = sizes_of _ c.requires.sizes c.requires.marks in
    omega arith

pub two_tails_ok-requires-2-clause-mark_in_bounds : goal.two_tails_ok-requires-2-clause-mark_in_bounds
two_tails_ok-requires-2-clause-mark_in_bounds c =
    let s = sizes_of _ c.requires.sizes c.requires.marks in
    omega arith

pub two_tails_ok-requires-2-clause-ys_len : goal.two_tails_ok-requires-2-clause-ys_len
two_tails_ok-requires-2-clause-ys_len c =
    let s = sizes_of _ c.requires.sizes c.requires.marks in
    omega arith

pub tail_ok-requires-2 : goal.tail_ok-requires-2
tail_ok-requires-2 c =
    let s = sizes_of _ c.requires.sizes c.requires.marks in
    omega arith

pub returns : goal.returns
returns c =
    tails_by _ _ _ _ _ c.tail_ok.ensures c.two_tails_ok.ensures c.two_tails_ok-2.ensures
    c.tail_ok-2.ensures

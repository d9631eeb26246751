-- Anchors of Marks and Assign.
use Rattle.std.specs.Prelude.{ℕ, List, [], ◌∷◌}
use Rattle.scope.specs.declared.Mark.TheVariants.{Used, Assumed, Released}
use Rattle.scope.specs.Table.{Table}
use Rattle.scope.specs.Marks.{mark_of, assign_of}
use Rattle.scope.specs.Anchors.{Anchor, ◌is◌, does, w4, tab, turns, says}
use Rattle.scope.specs.AnchorsNames.{unsound, mixed, holed}
use Rattle.scope.specs.AnchorsModes.{lone, held1}

-- `mixed` with other records, or with another assignment
abbrev pub with_records : ℕ → ℕ → ℕ → Table
with_records a b c = tab 4 3 3 2 3 2 (w4 2 3 1 0) (w4 3 1 2 0) (w4 2 0 1 0) (w4 3 1 0 0) (w4 2 0 0 0) (w4 a b c 47)

abbrev pub assigned : ℕ → ℕ → Table
assigned a b = tab 4 3 3 2 3 2 (w4 2 3 1 0) (w4 3 1 2 0) (w4 2 0 1 0) (w4 3 1 0 0) (w4 a b 0 0) (w4 9 13 18 47)

-- ---- Marks: 1, 8

abbrev pub mark_rows : List Anchor
mark_rows =
    -- 1 before 8; 8: withdrawn, at the watermark, beyond the capacity
    does (mark_of unsound Used 0) is turns 1 unsound
    ∷ does (mark_of unsound Assumed 0) is turns 1 unsound
    ∷ does (mark_of unsound Released 0) is turns 1 unsound
    ∷ does (mark_of holed Used 0) is turns 8 holed
    ∷ does (mark_of mixed Assumed 2) is turns 8 mixed
    ∷ does (mark_of mixed Released 9) is turns 8 mixed
    -- the record is that of the global which holds the index
    ∷ does (mark_of mixed Used 1) is says [] (with_records 0 13 18)
    ∷ does (mark_of mixed Assumed 1) is says [] (with_records 27 13 18)
    ∷ does (mark_of mixed Released 0) is says [] (with_records 9 13 0)
    -- with all other parts set, and with none: Witness, unit true, isolated, assumed is 34; Witness, unit true is 7
    ∷ does (mark_of (lone 0 34) Used 0) is says [] (lone 0 25)
    ∷ does (mark_of (lone 0 34) Assumed 0) is says [] (lone 0 34)
    ∷ does (mark_of (lone 0 34) Released 0) is says [] (lone 0 16)
    ∷ does (mark_of (lone 0 7) Used 0) is says [] (lone 0 7)
    ∷ does (mark_of (lone 0 7) Assumed 0) is says [] (lone 0 25)
    ∷ does (mark_of (lone 0 7) Released 0) is says [] (lone 0 7)
    ∷ does (mark_of (held1 14) Used 0) is says [] (held1 5)
    ∷ does (mark_of (held1 5) Assumed 0) is says [] (held1 23)
    ∷ does (mark_of (held1 32) Released 0) is says [] (held1 14)
    ∷ []

-- ---- Assign: 1, 8, 9. A positive literal makes its index true, 2; a negative one false, 1.

abbrev pub assigns : List Anchor
assigns =
    -- 1 before 8; 8 before 9, where a word was left at the removal; 9 for either value
    does (assign_of unsound 0) is turns 1 unsound
    ∷ does (assign_of holed 0) is turns 8 holed
    ∷ does (assign_of mixed 4) is turns 8 mixed
    ∷ does (assign_of mixed 19) is turns 8 mixed
    ∷ does (assign_of mixed 0) is turns 9 mixed
    ∷ does (assign_of mixed 1) is turns 9 mixed
    ∷ does (assign_of (lone 1 0) 0) is turns 9 (lone 1 0)
    ∷ does (assign_of (lone 1 0) 1) is turns 9 (lone 1 0)
    ∷ does (assign_of mixed 2) is says [] (assigned 2 2)
    ∷ does (assign_of mixed 3) is says [] (assigned 2 1)
    ∷ []

-- Anchors of Set mode, Observe, Remove, Sweep and Model. Where two refusals apply in a row, a remark names the later one.
use Rattle.std.specs.Prelude.{ℕ, ◌+◌, false, true, List, [], ◌∷◌}
use Rattle.scope.specs.declared.Mark.TheVariants.{Released}
use Rattle.scope.specs.declared.SamplingMode.TheVariants.{Sample, Witness, Hide}
use Rattle.scope.specs.Table.{Table}
use Rattle.scope.specs.Notes.{user+, user-, solver-, deletes, changes}
use Rattle.scope.specs.Modes.{set_mode_of, observe_of}
use Rattle.scope.specs.Marks.{mark_of}
use Rattle.scope.specs.Remove.{remove_of, sweep_of}
use Rattle.scope.specs.Models.{model_of}
use Rattle.scope.specs.Anchors.{Anchor, ◌is◌, does, w1, w2, w3, w4, w6, tab, live, turns, says, notes, fills, writes}
use Rattle.scope.specs.AnchorsNames.{unsound, opened2, hidden2, mixed, holed}

-- ---- Set mode: 1, 3, 6, 7, 2

-- one global, with or without user 0, with this record
abbrev pub shown1 : ℕ → Table
shown1 r = tab 2 1 1 0 (live r) 0 (w2 1 0) (w2 1 0) (w2 0 0) (w2 0 0) (w2 0 0) (w2 r 47)

abbrev pub hidden1 : ℕ → Table
hidden1 r = tab 2 1 1 0 (live r) 0 (w2 0 0) (w2 0 0) (w2 0 0) (w2 0 0) (w2 0 0) (w2 r 47)

abbrev pub set_modes : List Anchor
set_modes =
    -- 1 before 3; 3 before 6, at the watermark; 6 before 7; 7 for the same mode, and before 2; 2 for one note and for two
    does (set_mode_of unsound 0 Hide 0) is turns 1 unsound
    ∷ does (set_mode_of mixed 3 Sample 0) is turns 3 mixed
    ∷ does (set_mode_of (hidden1 65) 0 Sample 0) is turns 6 (hidden1 65)
    ∷ does (set_mode_of mixed 2 Sample 0) is turns 7 mixed
    ∷ does (set_mode_of mixed 2 Hide 0) is turns 7 mixed
    ∷ does (set_mode_of mixed 0 Witness 2) is turns 2 mixed
    ∷ does (set_mode_of mixed 1 Hide 5) is turns 2 mixed
    ∷ does (set_mode_of holed 2 Sample 5) is turns 2 holed
    -- the same mode, Hide also where nobody uses the global
    ∷ does (set_mode_of mixed 0 Sample 0) is says (w1 0) mixed
    ∷ does (set_mode_of mixed 1 Witness 0) is says (w1 0) mixed
    ∷ does (set_mode_of holed 2 Hide 0) is says (w1 0) holed
    ∷ does (set_mode_of (hidden1 11) 0 Hide 0) is says (w1 0) (hidden1 11)
    -- Sample to Witness: C(g,no); Witness to Sample: C(g,yes); the other parts of the record stay
    ∷ does (set_mode_of mixed 0 Witness 3)
    is notes (w1 1) (tab 4 3 3 2 3 2 (w4 2 3 1 0) (w4 3 1 2 0) (w4 2 0 1 0) (w4 3 1 0 0) (w4 2 0 0 0) (w4 10 13 18 47)) (changes 0 false ∷ []) (w3 3 0 0)
    ∷ does (set_mode_of mixed 1 Sample 3)
    is notes (w1 1) (tab 4 3 3 2 3 2 (w4 2 3 1 0) (w4 3 1 2 0) (w4 2 0 1 0) (w4 3 1 0 0) (w4 2 0 0 0) (w4 9 12 18 47)) (changes 1 true ∷ []) (w3 3 1 1)
    -- to Hide: U(g,-); D if isolated without solver index, not where one is held, not where it was used
    ∷ does (set_mode_of mixed 1 Hide 6)
    is notes (w1 2) (tab 4 3 3 2 2 2 (w4 0 3 1 0) (w4 3 0 2 0) (w4 2 0 1 0) (w4 3 1 0 0) (w4 2 0 0 0) (w4 9 50 18 47)) (user- 1 ∷ deletes 1 ∷ [])
    (w6 0 1 0 2 1 0)
    ∷ does (set_mode_of mixed 0 Hide 3)
    is notes (w1 1) (tab 4 3 3 2 3 2 (w4 2 3 0 0) (w4 0 1 2 0) (w4 2 0 1 0) (w4 3 1 0 0) (w4 2 0 0 0) (w4 11 13 18 47)) (user- 0 ∷ []) (w3 0 0 0)
    ∷ does (set_mode_of (shown1 3) 0 Hide 3) is notes (w1 1) (hidden1 5) (user- 0 ∷ []) (w3 0 0 0)
    ∷ does (set_mode_of (shown1 15) 0 Hide 6) is notes (w1 2) (hidden1 53) (user- 0 ∷ deletes 0 ∷ []) (w6 0 0 0 2 0 0)
    -- from Hide: C, then U with the least unmapped user, which is answered; at the watermark
    ∷ does (set_mode_of holed 2 Sample 6)
    is notes (w2 1 2) (tab 4 3 3 2 3 0 (w4 2 3 1 0) (w4 3 1 2 0) (w4 2 0 0 0) (w4 0 1 0 0) (w4 2 0 0 0) (w4 9 13 0 47)) (changes 2 true ∷ user+ 2 1 ∷ [])
    (w6 3 2 1 0 2 2)
    ∷ does (set_mode_of holed 2 Witness 6)
    is notes (w2 1 2) (tab 4 3 3 2 3 0 (w4 2 3 1 0) (w4 3 1 2 0) (w4 2 0 0 0) (w4 0 1 0 0) (w4 2 0 0 0) (w4 9 13 1 47)) (changes 2 false ∷ user+ 2 1 ∷ [])
    (w6 3 2 0 0 2 2)
    ∷ does (set_mode_of (hidden1 17) 0 Witness 6) is notes (w2 0 2) (shown1 16) (changes 0 false ∷ user+ 0 0 ∷ []) (w6 3 0 0 0 0 1)
    ∷ does (set_mode_of hidden2 0 Sample 6)
    is notes (w2 0 2) (tab 2 1 1 0 1 0 (w2 1 0) (w2 1 0) (w2 0 0) (w2 0 0) (w2 0 0) (w2 0 47)) (changes 0 true ∷ user+ 0 0 ∷ []) (w6 3 0 1 0 0 1)
    ∷ []

-- ---- Observe: 1, 7, 2

-- two globals without users, with these records
abbrev pub both : ℕ → ℕ → Table
both r q = tab 2 0 2 0 (live r + live q) 0 (w2 0 0) (w2 0 0) (w2 0 0) (w2 0 0) (w2 0 0) (w2 r q)

-- a hidden and assumed global in a table whose user maps do not agree
abbrev pub unsound_hidden : Table
unsound_hidden = tab 1 0 1 0 1 0 (w1 0) (w1 1) (w1 0) (w1 0) (w1 0) (w1 20)

-- globals 0 and 2 hidden, user 1 has global 1
abbrev pub observed3 : Table
observed3 = tab 3 2 3 1 3 1 (w3 0 2 0) (w3 0 2 0) (w3 0 0 1) (w3 3 0 0) (w3 1 0 0) (w3 11 9 5)

abbrev pub observes : List Anchor
observes =
    -- 1 before 7; 7 before 2, also for the last one; not for one that is deleted or is shown already
    does (observe_of unsound_hidden 0 0) is turns 1 unsound_hidden
    ∷ does (observe_of (both 2 20) 0 0) is turns 7 (both 2 20)
    ∷ does (observe_of (both 20 2) 9 9) is turns 7 (both 20 2)
    ∷ does (observe_of (both 47 65) 0 0) is fills (w2 0 0) (both 47 65) [] [] []
    ∷ does (observe_of mixed 0 0) is fills (w2 0 0) mixed [] [] []
    -- 2 for the users, and for the notes
    ∷ does (observe_of observed3 1 12) is turns 2 observed3
    ∷ does (observe_of observed3 2 11) is turns 2 observed3
    ∷ does (observe_of observed3 2 12)
    is fills (w2 2 4) (tab 3 3 3 1 3 1 (w3 1 2 3) (w3 1 2 3) (w3 0 0 1) (w3 3 0 0) (w3 1 0 0) (w3 10 9 4))
    (changes 0 false ∷ user+ 0 0 ∷ changes 2 false ∷ user+ 2 2 ∷ [])
    (3 ∷ 0 ∷ 0 ∷ 0 ∷ 0 ∷ 1 ∷ 3 ∷ 2 ∷ 0 ∷ 0 ∷ 2 ∷ 3 ∷ [])
    (w2 0 2)
    ∷ []

-- ---- Remove: 1, 8, 16, 2

-- a hidden global that holds solver index 0, assigned false, with this record; unsound where the record is not Hide
abbrev pub held1 : ℕ → Table
held1 r = tab 2 0 1 1 (live r) 1 (w2 0 0) (w2 0 0) (w2 1 0) (w2 1 0) (w2 1 0) (w2 r 47)

-- the same without the index; the assignment word stays
abbrev pub removed1 : ℕ → Table
removed1 r = tab 2 0 1 1 (live r) 0 (w2 0 0) (w2 0 0) (w2 0 0) (w2 0 0) (w2 1 0) (w2 r 47)

-- hidden globals 0 and 1 with these records, which hold solver indices 1 and 0
abbrev pub crossed : ℕ → ℕ → Table
crossed r q = tab 2 0 2 2 (live r + live q) 2 (w2 0 0) (w2 0 0) (w2 2 1) (w2 2 1) (w2 0 0) (w2 r q)

-- user 0 and solver index 0 with these values of the index and of the record
abbrev pub lone : ℕ → ℕ → Table
lone v r = tab 1 1 1 1 (live r) 1 (w1 1) (w1 1) (w1 1) (w1 1) (w1 v) (w1 r)

abbrev pub removes : List Anchor
removes =
    -- 1 before 8, and before 16; 8 before 2: withdrawn, at the watermark, beyond the capacity; 8 before 16
    does (remove_of unsound 0 0) is turns 1 unsound
    ∷ does (remove_of (held1 18) 0 9) is turns 1 (held1 18)
    ∷ does (remove_of holed 0 0) is turns 8 holed
    ∷ does (remove_of mixed 2 9) is turns 8 mixed
    ∷ does (remove_of mixed 9 9) is turns 8 mixed
    ∷ does (remove_of (held1 20) 1 9) is turns 8 (held1 20)
    -- 16 before 2; used and Sample, Witness or Hide; isolated, with a unit or without; where the record of the index's own number is not assumed
    ∷ does (remove_of mixed 0 0) is turns 16 mixed
    ∷ does (remove_of mixed 0 9) is turns 16 mixed
    ∷ does (remove_of (lone 0 19) 0 9) is turns 16 (lone 0 19)
    ∷ does (remove_of (held1 20) 0 2) is turns 16 (held1 20)
    ∷ does (remove_of (held1 32) 0 5) is turns 16 (held1 32)
    ∷ does (remove_of (held1 32) 0 6) is turns 16 (held1 32)
    ∷ does (remove_of (lone 0 27) 0 2) is turns 16 (lone 0 27)
    ∷ does (remove_of (lone 0 28) 0 3) is turns 16 (lone 0 28)
    ∷ does (remove_of (lone 1 34) 0 0) is turns 16 (lone 1 34)
    ∷ does (remove_of (lone 2 33) 0 9) is turns 16 (lone 2 33)
    ∷ does (remove_of (crossed 2 20) 0 9) is turns 16 (crossed 2 20)
    ∷ does (remove_of (crossed 20 2) 1 9) is turns 16 (crossed 20 2)
    -- 2 for one note and for two
    ∷ does (remove_of mixed 1 2) is turns 2 mixed
    ∷ does (remove_of (held1 11) 0 5) is turns 2 (held1 11)
    -- S(g,-), also where the record of the index's own number is assumed; D if it is hidden and isolated, as after Released
    ∷ does (remove_of mixed 1 3)
    is notes (w1 1) (tab 4 3 3 2 3 1 (w4 2 3 1 0) (w4 3 1 2 0) (w4 0 0 1 0) (w4 3 0 0 0) (w4 2 0 0 0) (w4 9 13 18 47)) (solver- 0 ∷ []) (w3 1 0 0)
    ∷ does (remove_of (crossed 20 2) 0 3)
    is notes (w1 1) (tab 2 0 2 2 2 0 (w2 0 0) (w2 0 0) (w2 2 0) (w2 0 1) (w2 0 0) (w2 20 2)) (solver- 1 ∷ []) (w3 1 1 0)
    ∷ does (remove_of (held1 2) 0 3) is notes (w1 1) (removed1 2) (solver- 0 ∷ []) (w3 1 0 0)
    ∷ does (remove_of (held1 11) 0 6) is notes (w1 2) (removed1 47) (solver- 0 ∷ deletes 0 ∷ []) (w6 1 0 0 2 0 0)
    ∷ does (remove_of (mark_of (held1 32) Released 0).table 0 6) is notes (w1 2) (removed1 50) (solver- 0 ∷ deletes 0 ∷ []) (w6 1 0 0 2 0 0)
    ∷ []

-- ---- Sweep: 1, 2

-- Solver 0 is true, its global 3 Witness and used; 1 has no value, its global 0 Sample and used; 2 is false, its global 1 hidden, used and
-- assumed; 3 has no value, its global 2 hidden and isolated.
abbrev pub swept4 : Table
swept4 = tab 4 2 4 4 4 4 (w4 4 1 0 0) (w4 2 0 0 1) (w4 2 3 4 1) (w4 4 1 2 3) (w4 2 0 1 0) (w4 0 20 11 1)

-- a held index in a table whose user maps do not agree
abbrev pub unsound_held : Table
unsound_held = tab 1 1 1 1 1 1 (w1 1) (w1 0) (w1 1) (w1 1) (w1 0) (w1 9)

abbrev pub sweeps : List Anchor
sweeps =
    -- 1 before 2
    does (sweep_of unsound_held 0) is turns 1 unsound_held
    ∷ does (sweep_of swept4 8) is turns 2 swept4
    -- 0 learns its unit and is removed; 1 stays; 2 learns its unit and stays; 3 is removed and deleted; the assignment stays
    ∷ does (sweep_of swept4 9)
    is notes (w1 3) (tab 4 2 4 4 3 0 (w4 4 1 0 0) (w4 2 0 0 1) (w4 2 3 0 0) (w4 0 1 2 0) (w4 2 0 1 0) (w4 0 32 47 16))
    (solver- 3 ∷ solver- 2 ∷ deletes 2 ∷ [])
    (1 ∷ 3 ∷ 0 ∷ 1 ∷ 2 ∷ 0 ∷ 2 ∷ 2 ∷ 0 ∷ [])
    -- an index that nobody holds is passed over, whatever its word
    ∷ does (sweep_of holed 3)
    is notes (w1 1) (tab 4 3 3 2 3 0 (w4 2 0 1 0) (w4 3 1 0 0) (w4 0 0 0 0) (w4 0 0 0 0) (w4 2 0 0 0) (w4 9 13 2 47)) (solver- 0 ∷ []) (w3 1 0 0)
    -- an older unit gives way to the value; none is no value
    ∷ does (sweep_of (lone 2 3) 3) is notes (w1 1) (tab 1 1 1 1 1 0 (w1 1) (w1 1) (w1 0) (w1 0) (w1 2) (w1 15)) (solver- 0 ∷ []) (w3 1 0 0)
    ∷ does (sweep_of (lone 1 6) 3) is notes (w1 1) (tab 1 1 1 1 1 0 (w1 1) (w1 1) (w1 0) (w1 0) (w1 1) (w1 12)) (solver- 0 ∷ []) (w3 1 0 0)
    ∷ does (sweep_of (lone 0 6) 0) is says (w1 0) (lone 0 6)
    ∷ does (sweep_of (lone 0 33) 0) is says (w1 0) (lone 0 33)
    ∷ []

-- ---- Model: 1, 2

-- Global 0 is deleted, with a unit; 1 holds solver index 0, which is false; 2 has the unit true; 3 has none. Users 0, 1, 2 have 3, 1, 2.
abbrev pub valued4 : Table
valued4 = tab 4 3 4 1 3 1 (w4 4 2 3 0) (w4 0 2 3 1) (w4 0 1 0 0) (w4 2 0 0 0) (w4 1 0 0 0) (w4 53 15 15 9)

-- Global 0 is hidden, with the unit false; 1 has a unit and holds an index without a value; 2 is hidden and holds one that is true.
abbrev pub valued3 : Table
valued3 = tab 3 1 3 2 3 2 (w3 2 0 0) (w3 0 1 0) (w3 0 1 2) (w3 2 3 0) (w3 0 2 0) (w3 14 15 2)

abbrev pub models : List Anchor
models =
    -- 1 before 2; 2 for the global words, and for the user literals
    does (model_of unsound_held 0 0) is turns 1 unsound_held
    ∷ does (model_of valued4 3 3) is turns 2 valued4
    ∷ does (model_of valued4 4 2) is turns 2 valued4
    ∷ does (model_of valued4 4 3) is writes (w2 4 3) valued4 (w4 0 1 2 1) (w3 1 3 4) []
    ∷ does (model_of valued3 3 0) is writes (w2 3 0) valued3 (w3 1 0 2) [] []
    ∷ does (model_of (lone 2 0) 1 1) is writes (w2 1 1) (lone 2 0) (w1 2) (w1 0) []
    ∷ does (model_of (lone 1 0) 1 1) is writes (w2 1 1) (lone 1 0) (w1 1) (w1 1) []
    ∷ does (model_of opened2 0 0) is writes (w2 0 0) opened2 [] [] []
    ∷ []

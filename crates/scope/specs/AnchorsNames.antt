-- Anchors of Open, Lookup, Map, New user, Grant and Pose. Where two refusals apply in a row, a remark names the later one.
use Rattle.std.specs.Prelude.{ℕ, false, true, List, [], ◌∷◌, get_or, replicate}
use Rattle.base.specs.Answer.{number_of, values_of}
use Rattle.scope.specs.Table.{Table}
use Rattle.scope.specs.Notes.{user+, solver+}
use Rattle.scope.specs.Open.{open_of}
use Rattle.scope.specs.Lookup.{global_from_user_of, user_from_global_of, solver_from_global_of, global_from_solver_of, record_word_of, assignment_word_of}
use Rattle.scope.specs.Map.{map_of, new_user_of}
use Rattle.scope.specs.Grant.{grant_of}
use Rattle.scope.specs.Pose.{pose_of}
use Rattle.scope.specs.Anchors.{Anchor, ◌is◌, does, words, number, w1, w2, w3, w4, w6, tab, turns, says, notes, fills}

-- No table is sound whose user watermark is above the global one.
abbrev pub unsound : Table
unsound = tab 1 1 0 0 1 0 (w1 0) (w1 0) (w1 0) (w1 0) (w1 0) (w1 9)

-- ---- Open: 10

abbrev pub opened2 : Table
opened2 = tab 2 0 0 0 0 0 (w2 0 0) (w2 0 0) (w2 0 0) (w2 0 0) (w2 0 0) (w2 47 47)

-- lent lists of any words
abbrev pub lent2 : Table
lent2 = tab 2 5 6 7 8 9 (w2 1 2) (w2 3 4) (w2 5 6) (w2 7 8) (w2 9 10) (w2 11 12)

-- the same with a capacity and the lengths of the six lists; and a fresh table
abbrev pub lengths : ℕ → ℕ → ℕ → ℕ → ℕ → ℕ → ℕ → Table
lengths n a b c d e f = tab n 0 0 0 0 0 (replicate a 1) (replicate b 1) (replicate c 1) (replicate d 1) (replicate e 1) (replicate f 1)

abbrev pub blank : ℕ → Table
blank n = tab n 0 0 0 0 0 (replicate n 0) (replicate n 0) (replicate n 0) (replicate n 0) (replicate n 0) (replicate n 47)

abbrev pub open_anchors : List Anchor
open_anchors =
    does (open_of lent2) is says [] opened2
    ∷ does (open_of (lengths 0 0 0 0 0 0 0)) is turns 10 (lengths 0 0 0 0 0 0 0)
    ∷ does (open_of (lengths 4096 4096 4096 4096 4096 4096 4096)) is says [] (blank 4096)
    ∷ does (open_of (lengths 4097 4097 4097 4097 4097 4097 4097)) is turns 10 (lengths 4097 4097 4097 4097 4097 4097 4097)
    ∷ does (open_of (tab 1 9 9 9 4294967295 9 (w1 1) (w1 2) (w1 3) (w1 4) (w1 5) (w1 6))) is says [] (tab 1 0 0 0 0 0 (w1 0) (w1 0) (w1 0) (w1 0) (w1 0) (w1 47))
    ∷ does (open_of (lengths 2 1 2 2 2 2 2)) is turns 10 (lengths 2 1 2 2 2 2 2)
    ∷ does (open_of (lengths 2 2 3 2 2 2 2)) is turns 10 (lengths 2 2 3 2 2 2 2)
    ∷ does (open_of (lengths 2 2 2 1 2 2 2)) is turns 10 (lengths 2 2 2 1 2 2 2)
    ∷ does (open_of (lengths 2 2 2 2 3 2 2)) is turns 10 (lengths 2 2 2 2 3 2 2)
    ∷ does (open_of (lengths 2 2 2 2 2 1 2)) is turns 10 (lengths 2 2 2 2 2 1 2)
    ∷ does (open_of (lengths 2 2 2 2 2 2 3)) is turns 10 (lengths 2 2 2 2 2 2 3)
    ∷ []

-- ---- Lookup: 1. Users 0, 1, 2 have globals 1, 2, 0; solver indices 0, 1 have globals 2, 0.

abbrev pub mixed : Table
mixed = tab 4 3 3 2 3 2 (w4 2 3 1 0) (w4 3 1 2 0) (w4 2 0 1 0) (w4 3 1 0 0) (w4 2 0 0 0) (w4 9 13 18 47)

-- the same globals, with user 1 and solver index 0 withdrawn, whose assignment word stays; global 2 hidden
abbrev pub holed : Table
holed = tab 4 3 3 2 3 0 (w4 2 0 1 0) (w4 3 1 0 0) (w4 2 0 0 0) (w4 0 1 0 0) (w4 2 0 0 0) (w4 9 13 2 47)

abbrev pub lookups : List Anchor
lookups =
    does (global_from_user_of mixed 0) is says (w1 1) mixed
    ∷ does (global_from_user_of mixed 1) is says (w1 2) mixed
    ∷ does (global_from_user_of mixed 2) is says (w1 0) mixed
    ∷ does (global_from_user_of mixed 3) is says [] mixed
    ∷ does (global_from_user_of mixed 4) is says [] mixed
    ∷ does (global_from_user_of holed 1) is says [] holed
    ∷ does (global_from_user_of unsound 0) is turns 1 unsound
    ∷ does (user_from_global_of mixed 0) is says (w1 2) mixed
    ∷ does (user_from_global_of mixed 1) is says (w1 0) mixed
    ∷ does (user_from_global_of mixed 2) is says (w1 1) mixed
    ∷ does (user_from_global_of mixed 3) is says [] mixed
    ∷ does (user_from_global_of holed 2) is says [] holed
    ∷ does (user_from_global_of unsound 0) is turns 1 unsound
    ∷ does (solver_from_global_of mixed 0) is says (w1 1) mixed
    ∷ does (solver_from_global_of mixed 1) is says [] mixed
    ∷ does (solver_from_global_of mixed 2) is says (w1 0) mixed
    ∷ does (solver_from_global_of mixed 3) is says [] mixed
    ∷ does (solver_from_global_of unsound 0) is turns 1 unsound
    ∷ does (global_from_solver_of mixed 0) is says (w1 2) mixed
    ∷ does (global_from_solver_of mixed 1) is says (w1 0) mixed
    ∷ does (global_from_solver_of mixed 2) is says [] mixed
    ∷ does (global_from_solver_of holed 0) is says [] holed
    ∷ does (global_from_solver_of unsound 0) is turns 1 unsound
    ∷ does (record_word_of mixed 0) is says (w1 9) mixed
    ∷ does (record_word_of mixed 1) is says (w1 13) mixed
    ∷ does (record_word_of mixed 3) is says [] mixed
    ∷ does (record_word_of unsound 0) is turns 1 unsound
    ∷ does (assignment_word_of mixed 0) is says (w1 2) mixed
    ∷ does (assignment_word_of mixed 1) is says (w1 0) mixed
    ∷ does (assignment_word_of mixed 2) is says [] mixed
    ∷ does (assignment_word_of unsound 0) is turns 1 unsound
    ∷ []

-- ---- Map: 1, 3, 4, 5, 2

-- users 0 and 1 of capacity 2 mapped
abbrev pub full2 : Table
full2 = tab 2 2 2 0 2 0 (w2 1 2) (w2 1 2) (w2 0 0) (w2 0 0) (w2 0 0) (w2 9 9)

-- global 0 hidden and used, no user yet
abbrev pub hidden2 : Table
hidden2 = tab 2 0 1 0 1 0 (w2 0 0) (w2 0 0) (w2 0 0) (w2 0 0) (w2 0 0) (w2 2 47)

abbrev pub hidden4 : Table
hidden4 = tab 4 0 1 0 1 0 (w4 0 0 0 0) (w4 0 0 0 0) (w4 0 0 0 0) (w4 0 0 0 0) (w4 0 0 0 0) (w4 2 47 47 47)

-- globals 0 and 1 deleted, users 0 and 1 unmapped below the watermark
abbrev pub deleted4 : Table
deleted4 = tab 4 2 2 0 0 0 (w4 0 0 0 0) (w4 0 0 0 0) (w4 0 0 0 0) (w4 0 0 0 0) (w4 0 0 0 0) (w4 47 71 47 47)

-- global 0 hidden and used, 1 and 2 deleted, user 0 unmapped below the watermark
abbrev pub spare4 : Table
spare4 = tab 4 1 3 0 1 0 (w4 0 0 0 0) (w4 0 0 0 0) (w4 0 0 0 0) (w4 0 0 0 0) (w4 0 0 0 0) (w4 2 47 71 47)

-- global 0 deleted, user 0 unmapped below the watermark
abbrev pub one4 : Table
one4 = tab 4 1 1 0 0 0 (w4 0 0 0 0) (w4 0 0 0 0) (w4 0 0 0 0) (w4 0 0 0 0) (w4 0 0 0 0) (w4 47 47 47 47)

-- the only global deleted, and its user unmapped: the watermarks stand at the capacity, and there is room for one
abbrev pub gone1 : Table
gone1 = tab 1 1 1 0 0 0 (w1 0) (w1 0) (w1 0) (w1 0) (w1 0) (w1 47)

-- the number, the values and the count of notes, which is the last value, alone
abbrev pub map_answers : List Anchor
map_answers =
    number (get_or (values_of (map_of opened2 1 false 6).answer) 1 9) is number 2
    ∷ number (get_or (values_of (map_of mixed 0 false 0).answer) 1 9) is number 0
    ∷ words (values_of (map_of mixed 0 true 0).answer) is words []
    ∷ number (number_of (map_of mixed 0 true 0).answer) is number 4
    ∷ number (number_of (map_of mixed 0 false 0).answer) is number 0
    ∷ []

abbrev pub maps : List Anchor
maps =
    -- 1 before 3; 3 before 5, at the capacity; 4, which is not for a Sample global nor where sampling is not required; 5 before 2
    does (map_of unsound 1 false 0) is turns 1 unsound
    ∷ does (map_of full2 2 false 0) is turns 3 full2
    ∷ does (map_of mixed 0 true 0) is turns 4 mixed
    ∷ does (map_of mixed 0 false 0) is says (w2 1 0) mixed
    ∷ does (map_of mixed 1 true 0) is says (w2 2 0) mixed
    ∷ does (map_of hidden2 1 false 0) is turns 5 hidden2
    ∷ does (map_of hidden2 1 true 6) is turns 5 hidden2
    ∷ does (map_of hidden2 0 false 2) is turns 2 hidden2
    ∷ does (map_of opened2 1 false 5) is turns 2 opened2
    -- the last index and the last global, with just enough room; the gap is filled first
    ∷ does (map_of opened2 1 false 6) is notes (w2 1 2) full2 (user+ 0 0 ∷ user+ 1 1 ∷ []) (w6 0 0 1 0 1 2)
    -- the watermark, since the user's own global is not deleted and no other is
    ∷ does (map_of hidden2 0 true 3)
    is notes (w2 1 1) (tab 2 1 2 0 2 0 (w2 2 0) (w2 0 1) (w2 0 0) (w2 0 0) (w2 0 0) (w2 2 9)) (user+ 1 0 ∷ []) (w3 0 1 1)
    ∷ does (map_of hidden4 2 false 9)
    is notes (w2 3 3) (tab 4 3 4 0 4 0 (w4 2 3 4 0) (w4 0 1 2 3) (w4 0 0 0 0) (w4 0 0 0 0) (w4 0 0 0 0) (w4 2 9 9 9))
    (user+ 1 0 ∷ user+ 2 1 ∷ user+ 3 2 ∷ [])
    (0 ∷ 1 ∷ 1 ∷ 0 ∷ 2 ∷ 2 ∷ 0 ∷ 3 ∷ 3 ∷ [])
    -- the user's own index, which is deleted, and not the lesser deleted one
    ∷ does (map_of deleted4 1 false 3)
    is notes (w2 1 1) (tab 4 2 2 0 1 0 (w4 0 2 0 0) (w4 0 2 0 0) (w4 0 0 0 0) (w4 0 0 0 0) (w4 0 0 0 0) (w4 47 9 47 47)) (user+ 1 1 ∷ []) (w3 0 1 2)
    -- the gap begins at the watermark: users 0 and 1 stay unmapped
    ∷ does (map_of deleted4 3 false 6)
    is notes (w2 3 2) (tab 4 4 4 0 2 0 (w4 0 0 3 4) (w4 0 0 3 4) (w4 0 0 0 0) (w4 0 0 0 0) (w4 0 0 0 0) (w4 47 71 9 9))
    (user+ 2 2 ∷ user+ 3 3 ∷ [])
    (w6 0 2 3 0 3 4)
    -- the least deleted one
    ∷ does (map_of spare4 0 false 3)
    is notes (w2 1 1) (tab 4 1 3 0 2 0 (w4 2 0 0 0) (w4 0 1 0 0) (w4 0 0 0 0) (w4 0 0 0 0) (w4 0 0 0 0) (w4 2 9 71 47)) (user+ 1 0 ∷ []) (w3 0 1 1)
    -- the user's own index at the global watermark, and not the deleted one below
    ∷ does (map_of one4 1 false 3)
    is notes (w2 1 1) (tab 4 2 2 0 1 0 (w4 0 2 0 0) (w4 0 2 0 0) (w4 0 0 0 0) (w4 0 0 0 0) (w4 0 0 0 0) (w4 47 9 47 47)) (user+ 1 1 ∷ []) (w3 0 1 2)
    -- 5 counts the undeleted, not the watermark
    ∷ does (map_of gone1 0 false 3) is notes (w2 0 1) (tab 1 1 1 0 1 0 (w1 1) (w1 1) (w1 0) (w1 0) (w1 0) (w1 9)) (user+ 0 0 ∷ []) (w3 0 0 1)
    ∷ []

-- ---- New user: 1, 5, 2

abbrev pub new_users : List Anchor
new_users =
    -- 1 before 5 before 2
    does (new_user_of unsound 0) is turns 1 unsound
    ∷ does (new_user_of full2 0) is turns 5 full2
    ∷ does (new_user_of opened2 2) is turns 2 opened2
    ∷ does (new_user_of opened2 3)
    is notes (w3 0 0 1) (tab 2 1 1 0 1 0 (w2 1 0) (w2 1 0) (w2 0 0) (w2 0 0) (w2 0 0) (w2 9 47)) (user+ 0 0 ∷ []) (w3 0 0 1)
    -- the least unmapped user below the watermark, with the last global; the watermark
    ∷ does (new_user_of holed 3)
    is notes (w3 1 3 1) (tab 4 3 4 2 4 0 (w4 2 4 1 0) (w4 3 1 0 2) (w4 2 0 0 0) (w4 0 1 0 0) (w4 2 0 0 0) (w4 9 13 2 9)) (user+ 3 1 ∷ []) (w3 0 3 2)
    ∷ does (new_user_of mixed 3)
    is notes (w3 3 3 1) (tab 4 4 4 2 4 2 (w4 2 3 1 4) (w4 3 1 2 4) (w4 2 0 1 0) (w4 3 1 0 0) (w4 2 0 0 0) (w4 9 13 18 9)) (user+ 3 3 ∷ []) (w3 0 3 4)
    -- 5 counts the undeleted, not the watermark
    ∷ does (new_user_of gone1 3) is notes (w3 0 0 1) (tab 1 1 1 0 1 0 (w1 1) (w1 1) (w1 0) (w1 0) (w1 0) (w1 9)) (user+ 0 0 ∷ []) (w3 0 0 1)
    ∷ []

-- ---- Grant: 1, 3, 6, 2

abbrev pub grant_anchors : List Anchor
grant_anchors =
    -- 1 before 3; 3 before 6, at the watermark; 6 before 2
    does (grant_of unsound 0 0) is turns 1 unsound
    ∷ does (grant_of mixed 3 0) is turns 3 mixed
    ∷ does (grant_of mixed 4 3) is turns 3 mixed
    ∷ does (grant_of deleted4 1 0) is turns 6 deleted4
    ∷ does (grant_of holed 2 2) is turns 2 holed
    -- the index held
    ∷ does (grant_of mixed 0 0) is says (w2 1 0) mixed
    -- the least free one, over an old assignment word, which becomes the unit: none, false
    ∷ does (grant_of holed 2 3)
    is notes (w2 0 1) (tab 4 3 3 2 3 2 (w4 2 0 1 0) (w4 3 1 0 0) (w4 2 0 1 0) (w4 3 1 0 0) (w4 0 0 0 0) (w4 9 13 2 47)) (solver+ 2 0 ∷ []) (w3 1 2 1)
    ∷ does (grant_of holed 1 3)
    is notes (w2 0 1) (tab 4 3 3 2 3 2 (w4 2 0 1 0) (w4 3 1 0 0) (w4 2 1 0 0) (w4 2 1 0 0) (w4 1 0 0 0) (w4 9 13 2 47)) (solver+ 1 0 ∷ []) (w3 1 1 1)
    -- the watermark; the unit true
    ∷ does (grant_of mixed 1 3)
    is notes (w2 2 1) (tab 4 3 3 3 3 3 (w4 2 3 1 0) (w4 3 1 2 0) (w4 2 3 1 0) (w4 3 1 2 0) (w4 2 0 1 0) (w4 9 13 18 47)) (solver+ 1 2 ∷ []) (w3 1 1 3)
    ∷ does (grant_of (tab 2 1 1 0 1 0 (w2 1 0) (w2 1 0) (w2 0 0) (w2 0 0) (w2 0 0) (w2 15 47)) 0 3)
    is notes (w2 0 1) (tab 2 1 1 1 1 1 (w2 1 0) (w2 1 0) (w2 1 0) (w2 1 0) (w2 2 0) (w2 15 47)) (solver+ 0 0 ∷ []) (w3 1 0 1)
    ∷ []

-- ---- Pose: 1, 3, 4, 5, 2

-- user 0 Witness, the other global hidden and used: no room for user 1
abbrev pub witness2 : Table
witness2 = tab 2 1 2 0 2 0 (w2 1 0) (w2 1 0) (w2 0 0) (w2 0 0) (w2 0 0) (w2 10 2)

-- users 0 and 1 unmapped below the watermark, both globals hidden and used
abbrev pub hidden3 : Table
hidden3 = tab 3 2 2 0 2 0 (w3 0 0 0) (w3 0 0 0) (w3 0 0 0) (w3 0 0 0) (w3 0 0 0) (w3 2 2 47)

-- users 0 and 1, which hold solver indices 1 and 0
abbrev pub posed2 : Table
posed2 = tab 2 2 2 2 2 2 (w2 1 2) (w2 1 2) (w2 2 1) (w2 2 1) (w2 0 0) (w2 9 9)

abbrev pub poses : List Anchor
poses =
    -- 1 before 3; 3 for an index at the capacity, or for the number of literals, before 4; 4 before 5; 5 before 2
    does (pose_of unsound (w1 2) false 0 0) is turns 1 unsound
    ∷ does (pose_of mixed (w2 0 8) true 0 0) is turns 3 mixed
    ∷ does (pose_of witness2 (replicate 8193 0) true 0 0) is turns 3 witness2
    ∷ does (pose_of witness2 (replicate 8192 0) true 0 0) is turns 4 witness2
    ∷ does (pose_of witness2 (w2 2 0) true 0 0) is turns 4 witness2
    ∷ does (pose_of witness2 (w2 2 0) false 0 0) is turns 5 witness2
    -- what 5 counts: gaps, unmapped users that are named, each once; not those below the watermark that are not named
    ∷ does (pose_of hidden2 (w1 2) false 0 0) is turns 5 hidden2
    ∷ does (pose_of hidden3 (w2 0 4) false 2 12) is turns 5 hidden3
    ∷ does (pose_of hidden3 (w2 5 4) false 2 6)
    is fills (w2 2 2) (tab 3 3 3 1 3 1 (w3 0 0 3) (w3 0 0 3) (w3 0 0 1) (w3 3 0 0) (w3 0 0 0) (w3 2 2 9))
    (user+ 2 2 ∷ solver+ 2 0 ∷ [])
    (w6 0 2 3 1 2 1)
    (w2 1 0)
    -- 2 for the literals, and for the notes
    ∷ does (pose_of opened2 (w3 3 0 2) false 2 12) is turns 2 opened2
    ∷ does (pose_of opened2 (w3 3 0 2) false 3 11) is turns 2 opened2
    -- a gap, the signs, a user named twice, with just enough room; sampling required changes nothing
    ∷ does (pose_of opened2 (w3 3 0 2) false 3 12)
    is fills (w2 3 4) posed2 (user+ 0 0 ∷ user+ 1 1 ∷ solver+ 1 0 ∷ solver+ 0 1 ∷ [])
    (0 ∷ 0 ∷ 1 ∷ 0 ∷ 1 ∷ 2 ∷ 1 ∷ 1 ∷ 1 ∷ 1 ∷ 0 ∷ 2 ∷ [])
    (w3 1 2 0)
    ∷ does (pose_of opened2 (w3 3 0 2) true 4 13)
    is fills (w2 3 4) posed2 (user+ 0 0 ∷ user+ 1 1 ∷ solver+ 1 0 ∷ solver+ 0 1 ∷ [])
    (0 ∷ 0 ∷ 1 ∷ 0 ∷ 1 ∷ 2 ∷ 1 ∷ 1 ∷ 1 ∷ 1 ∷ 0 ∷ 2 ∷ [])
    (w3 1 2 0)
    -- mapped ones are granted, granted ones are named; the last index
    ∷ does (pose_of mixed (w3 1 7 2) false 3 9)
    is fills (w2 3 3) (tab 4 4 4 4 4 4 (w4 2 3 1 4) (w4 3 1 2 4) (w4 2 3 1 4) (w4 3 1 2 4) (w4 2 0 1 0) (w4 9 13 18 9))
    (solver+ 1 2 ∷ user+ 3 3 ∷ solver+ 3 3 ∷ [])
    (1 ∷ 1 ∷ 3 ∷ 0 ∷ 3 ∷ 4 ∷ 1 ∷ 3 ∷ 4 ∷ [])
    (w3 5 7 0)
    ∷ does (pose_of mixed [] true 0 0) is fills (w2 0 0) mixed [] [] []
    -- 5 counts the undeleted, not the watermark
    ∷ does (pose_of gone1 (w1 1) false 1 6)
    is fills (w2 1 2) (tab 1 1 1 1 1 1 (w1 1) (w1 1) (w1 1) (w1 1) (w1 0) (w1 9)) (user+ 0 0 ∷ solver+ 0 0 ∷ []) (w6 0 0 1 1 0 1) (w1 1)
    ∷ []

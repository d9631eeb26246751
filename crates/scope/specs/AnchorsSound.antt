-- Anchors of soundness: each part of "A table is sound if" broken alone is refusal 1, and odd but sound tables are not turned away.
use Rattle.std.specs.Prelude.{ℕ, List, [], ◌∷◌}
use Rattle.scope.specs.Table.{Table}
use Rattle.scope.specs.Lookup.{record_word_of}
use Rattle.scope.specs.AnchorsNames.{blank}
use Rattle.scope.specs.Anchors.{Anchor, ◌is◌, does, w1, w2, tab, turns, says}

-- a Lookup at or beyond every watermark: 1, or none
abbrev pub refused : Table → Anchor
refused t = does (record_word_of t 9999) is turns 1 t

abbrev pub taken : Table → Anchor
taken t = does (record_word_of t 9999) is says [] t

-- capacity 1: user, global and solver watermark, undeleted globals and least unmapped solver index; global from user, user from global; solver from
-- global, global from solver; assignment; record
abbrev pub cell : ℕ → ℕ → ℕ → ℕ → ℕ → ℕ → ℕ → ℕ → ℕ → ℕ → ℕ → Table
cell u g s k m gu ug sg gs a r = tab 1 u g s k m (w1 gu) (w1 ug) (w1 sg) (w1 gs) (w1 a) (w1 r)

abbrev pub sounds : List Anchor
sounds =
    -- sizes: a capacity from 1 to 4,096, and six lists of that length
    refused (tab 0 0 0 0 0 0 [] [] [] [] [] [])
    ∷ taken (blank 2)
    ∷ refused (tab 1 0 0 0 0 0 [] (w1 0) (w1 0) (w1 0) (w1 0) (w1 47))
    ∷ refused (tab 1 0 0 0 0 0 (w2 0 0) (w1 0) (w1 0) (w1 0) (w1 0) (w1 47))
    ∷ refused (tab 1 0 0 0 0 0 (w1 0) [] (w1 0) (w1 0) (w1 0) (w1 47))
    ∷ refused (tab 1 0 0 0 0 0 (w1 0) (w2 0 0) (w1 0) (w1 0) (w1 0) (w1 47))
    ∷ refused (tab 1 0 0 0 0 0 (w1 0) (w1 0) [] (w1 0) (w1 0) (w1 47))
    ∷ refused (tab 1 0 0 0 0 0 (w1 0) (w1 0) (w2 0 0) (w1 0) (w1 0) (w1 47))
    ∷ refused (tab 1 0 0 0 0 0 (w1 0) (w1 0) (w1 0) [] (w1 0) (w1 47))
    ∷ refused (tab 1 0 0 0 0 0 (w1 0) (w1 0) (w1 0) (w2 0 0) (w1 0) (w1 47))
    ∷ refused (tab 1 0 0 0 0 0 (w1 0) (w1 0) (w1 0) (w1 0) [] (w1 47))
    ∷ refused (tab 1 0 0 0 0 0 (w1 0) (w1 0) (w1 0) (w1 0) (w2 0 0) (w1 47))
    ∷ refused (tab 1 0 0 0 0 0 (w1 0) (w1 0) (w1 0) (w1 0) (w1 0) [])
    ∷ refused (tab 1 0 0 0 0 0 (w1 0) (w1 0) (w1 0) (w1 0) (w1 0) (w2 47 47))
    -- words: no record above 71, no assignment word above 2
    ∷ refused (cell 0 1 0 0 0 0 0 0 0 0 83)
    ∷ taken (cell 0 1 0 0 0 0 0 0 0 0 71)
    ∷ refused (cell 0 1 1 1 0 0 0 0 0 3 2)
    ∷ taken (cell 0 1 1 1 0 0 0 0 0 2 2)
    -- watermarks: neither users nor solver indices reach further than globals, nor these than the capacity
    ∷ refused (cell 1 0 0 0 0 0 0 0 0 0 47)
    ∷ refused (cell 0 0 1 0 0 0 0 0 0 0 47)
    ∷ refused (cell 0 2 0 0 0 0 0 0 0 0 47)
    ∷ taken (cell 1 1 1 0 0 0 0 0 0 0 47)
    -- above the watermarks: maps and assignment 0, records fresh
    ∷ refused (cell 0 1 0 1 0 1 1 0 0 0 9)
    ∷ refused (cell 0 1 0 1 0 0 0 1 1 0 2)
    ∷ refused (cell 0 1 0 1 0 0 0 0 0 1 2)
    ∷ refused (cell 0 0 0 0 0 0 0 0 0 0 71)
    ∷ refused (cell 0 0 0 1 0 0 0 0 0 0 2)
    ∷ refused (tab 2 1 1 0 2 0 (w2 2 0) (w2 0 1) (w2 0 0) (w2 0 0) (w2 0 0) (w2 2 9))
    ∷ refused (tab 2 0 1 1 2 1 (w2 0 0) (w2 0 0) (w2 0 1) (w2 2 0) (w2 0 0) (w2 2 2))
    -- each map pair is mutually inverse
    ∷ refused (cell 1 1 0 1 0 1 0 0 0 0 2)
    ∷ refused (cell 1 1 0 1 0 0 1 0 0 0 9)
    ∷ refused (cell 0 1 1 1 0 0 0 1 0 0 2)
    ∷ refused (cell 0 1 1 1 1 0 0 0 1 0 2)
    ∷ refused (cell 1 1 0 1 0 2 0 0 0 0 2)
    ∷ refused (tab 2 2 2 0 2 0 (w2 1 1) (w2 1 0) (w2 0 0) (w2 0 0) (w2 0 0) (w2 9 2))
    ∷ refused (tab 2 1 2 0 2 0 (w2 1 0) (w2 1 1) (w2 0 0) (w2 0 0) (w2 0 0) (w2 9 9))
    ∷ refused (tab 2 0 2 2 2 2 (w2 0 0) (w2 0 0) (w2 1 0) (w2 1 1) (w2 0 0) (w2 2 2))
    ∷ refused (tab 2 0 2 1 2 1 (w2 0 0) (w2 0 0) (w2 1 1) (w2 1 0) (w2 0 0) (w2 2 2))
    ∷ taken (tab 2 2 2 2 2 2 (w2 2 1) (w2 2 1) (w2 2 1) (w2 2 1) (w2 0 0) (w2 9 9))
    -- users: those globals have one that are neither deleted nor hidden, and no others
    ∷ refused (cell 0 1 0 1 0 0 0 0 0 0 0)
    ∷ refused (cell 0 1 0 1 0 0 0 0 0 0 9)
    ∷ refused (cell 0 1 0 1 0 0 0 0 0 0 10)
    ∷ refused (cell 0 1 0 1 0 0 0 0 0 0 27)
    ∷ refused (cell 1 1 0 1 0 1 1 0 0 0 2)
    ∷ refused (cell 1 1 0 1 0 1 1 0 0 0 11)
    ∷ refused (cell 1 1 0 0 0 1 1 0 0 0 47)
    ∷ taken (cell 0 1 0 1 0 0 0 0 0 0 2)
    ∷ taken (cell 0 1 0 1 0 0 0 0 0 0 11)
    ∷ taken (cell 0 1 0 1 0 0 0 0 0 0 35)
    ∷ taken (cell 1 1 0 1 0 1 1 0 0 0 0)
    ∷ taken (cell 1 1 0 1 0 1 1 0 0 0 1)
    ∷ taken (cell 1 1 0 1 0 1 1 0 0 0 9)
    ∷ taken (cell 1 1 0 1 0 1 1 0 0 0 34)
    -- deleted globals: hidden, isolated, holding no solver index
    ∷ refused (cell 0 1 0 0 0 0 0 0 0 0 45)
    ∷ refused (cell 0 1 0 0 0 0 0 0 0 0 46)
    ∷ refused (cell 0 1 0 0 0 0 0 0 0 0 38)
    ∷ refused (cell 0 1 0 0 0 0 0 0 0 0 56)
    ∷ refused (cell 0 1 1 0 1 0 0 1 1 0 47)
    -- its unit and assumed parts may be anything
    ∷ taken (cell 0 1 0 0 0 0 0 0 0 0 47)
    ∷ taken (cell 0 1 0 0 0 0 0 0 0 0 50)
    ∷ taken (cell 0 1 0 0 0 0 0 0 0 0 53)
    ∷ taken (cell 0 1 0 0 0 0 0 0 0 0 65)
    ∷ taken (cell 0 1 0 0 0 0 0 0 0 0 68)
    -- a hidden global may hold an index; an index that nobody holds may keep its word
    ∷ taken (cell 0 1 1 1 1 0 0 1 1 2 2)
    ∷ taken (cell 1 1 1 1 1 1 1 1 1 1 9)
    ∷ taken (cell 1 1 1 1 0 1 1 0 0 1 9)
    -- the number of undeleted globals is that of the recount, which counts hidden ones
    ∷ refused (cell 0 0 0 1 0 0 0 0 0 0 47)
    ∷ refused (cell 0 1 0 1 0 0 0 0 0 0 47)
    ∷ refused (cell 1 1 0 0 0 1 1 0 0 0 9)
    ∷ refused (cell 1 1 0 2 0 1 1 0 0 0 9)
    ∷ refused (cell 1 1 0 4294967295 0 1 1 0 0 0 9)
    ∷ refused (cell 0 1 0 0 0 0 0 0 0 0 2)
    ∷ taken (tab 2 1 2 0 2 0 (w2 1 0) (w2 1 0) (w2 0 0) (w2 0 0) (w2 0 0) (w2 9 2))
    ∷ refused (tab 2 1 2 0 1 0 (w2 1 0) (w2 1 0) (w2 0 0) (w2 0 0) (w2 0 0) (w2 9 2))
    -- the least unmapped solver index is that of the recount: below the watermark, else the watermark; the capacity only where that is the watermark
    ∷ refused (cell 0 0 0 0 1 0 0 0 0 0 47)
    ∷ refused (cell 0 1 1 1 0 0 0 1 1 0 2)
    ∷ taken (cell 0 1 1 1 1 0 0 1 1 0 2)
    ∷ refused (cell 0 1 1 1 2 0 0 1 1 0 2)
    ∷ refused (cell 0 1 1 1 4294967295 0 0 1 1 0 2)
    ∷ taken (cell 0 1 1 1 0 0 0 0 0 0 2)
    ∷ refused (cell 0 1 1 1 1 0 0 0 0 0 2)
    ∷ taken (tab 2 0 2 2 2 0 (w2 0 0) (w2 0 0) (w2 2 0) (w2 0 1) (w2 0 0) (w2 2 2))
    ∷ refused (tab 2 0 2 2 2 1 (w2 0 0) (w2 0 0) (w2 2 0) (w2 0 1) (w2 0 0) (w2 2 2))
    ∷ refused (tab 2 0 2 2 2 2 (w2 0 0) (w2 0 0) (w2 2 0) (w2 0 1) (w2 0 0) (w2 2 2))
    ∷ taken (tab 2 0 1 1 1 1 (w2 0 0) (w2 0 0) (w2 1 0) (w2 1 0) (w2 0 0) (w2 2 47))
    ∷ refused (tab 2 0 1 1 1 2 (w2 0 0) (w2 0 0) (w2 1 0) (w2 1 0) (w2 0 0) (w2 2 47))
    ∷ []

-- Anchors of Simplify binary. Where two refusals apply in a row, a remark names the later one. A clause of a and b stands as b in the section of not a,
-- in short under not a, and as a under not b.
use Rattle.std.specs.Prelude.{ℕ, List, [], ◌∷◌, ◌++◌, replicate}
use Rattle.drat.specs.declared.Format.TheVariants.{Text, Binary}
use Rattle.scope.specs.Literals.{not_lit}
use Rattle.scope.specs.Table.{Table}
use Rattle.scope.specs.Binary.{binary_of}
use Rattle.scope.specs.Anchors.{Anchor, ◌is◌, does, words, w1, w2, w3, w4, tab, turns, writes}
use Rattle.scope.specs.AnchorsNames.{unsound, holed, opened2}
use Rattle.scope.specs.AnchorsSteps.{held4}

-- so many empty sections
abbrev pub empties : ℕ → List ℕ
empties n = replicate n 0

-- index 0 is held and index 1 is not, and neither has a value
abbrev pub holed1 : Table
holed1 = tab 2 0 2 2 2 1 (w2 0 0) (w2 0 0) (w2 1 0) (w2 1 0) (w2 0 0) (w2 2 2)

-- ---- 1, 15, 8, 2. Words; half the number of entries; bytes. `held4` has eight sections, `holed` four, of which index 0 is not held.

abbrev pub binaries : List Anchor
binaries =
    words (not_lit 0 ∷ not_lit 1 ∷ not_lit 6 ∷ not_lit 7 ∷ []) is words (w4 1 0 7 6)
    -- 1 before 15; a section missing; words left over; a section that runs past its words, by one or by far
    ∷ does (binary_of Text unsound (w1 7) 9 99) is turns 1 unsound
    ∷ does (binary_of Text held4 [] 9 99) is turns 15 held4
    ∷ does (binary_of Text held4 (empties 7) 9 99) is turns 15 held4
    ∷ does (binary_of Text held4 (empties 9) 9 99) is turns 15 held4
    ∷ does (binary_of Text held4 (empties 7 ++ w1 1) 9 99) is turns 15 held4
    ∷ does (binary_of Text held4 (empties 7 ++ w2 4294967295 0) 9 99) is turns 15 held4
    -- an entry without its mirror, in a lower section or the last; with it, but not as often; at the number of sections
    ∷ does (binary_of Text held4 (w3 0 1 6 ++ empties 6) 99 99) is turns 15 held4
    ∷ does (binary_of Text held4 (empties 7 ++ w2 1 0) 99 99) is turns 15 held4
    ∷ does (binary_of Text held4 (w4 0 2 6 6 ++ (empties 5 ++ w2 1 0)) 99 99) is turns 15 held4
    ∷ does (binary_of Text held4 (w2 1 8 ++ empties 7) 99 99) is turns 15 held4
    -- 15 before 8; 8 before 2; 8 for the first index of a clause, for the second, also where the clause stays; an empty section of an index that is not held
    ∷ does (binary_of Text holed (w2 1 2 ++ empties 3) 0 0) is turns 15 holed
    ∷ does (binary_of Text holed (w2 1 1 ++ empties 3) 0 0) is turns 8 holed
    ∷ does (binary_of Text holed (w3 0 1 2 ++ w3 0 1 0) 99 99) is turns 8 holed
    ∷ does (binary_of Text holed1 (w3 0 1 2 ++ w3 0 1 0) 9 99) is turns 8 holed1
    ∷ does (binary_of Text holed (w2 0 0 ++ w3 1 3 0) 5 0) is writes (w3 5 0 0) holed (w2 0 0 ++ w3 1 3 0) [] []
    -- 2 for the words, the counts alone or an entry more, and for the bytes
    ∷ does (binary_of Text held4 (empties 8) 7 0) is turns 2 held4
    ∷ does (binary_of Text held4 (w3 0 1 6 ++ (empties 5 ++ w2 1 0)) 9 0) is turns 2 held4
    ∷ does (binary_of Text held4 (w3 0 1 2 ++ w3 0 1 0 ++ empties 4) 8 7) is turns 2 held4
    ∷ does (binary_of Binary held4 (w3 0 1 2 ++ w3 0 1 0 ++ empties 4) 8 3) is turns 2 held4
    -- no section; no entry
    ∷ does (binary_of Text opened2 [] 0 0) is writes (w3 0 0 0) opened2 [] [] []
    ∷ does (binary_of Text opened2 (w1 0) 9 99) is turns 15 opened2
    ∷ does (binary_of Text held4 (empties 8) 8 0) is writes (w3 8 0 0) held4 (empties 8) [] []
    -- 0 and 6 have no value: their clause stays
    ∷ does (binary_of Text held4 (w3 0 1 6 ++ (empties 5 ++ w2 1 0)) 10 0) is writes (w3 10 1 0) held4 (w3 0 1 6 ++ (empties 5 ++ w2 1 0)) [] []
    -- 2 has a value, 0 has none: d 4 3 0
    ∷ does (binary_of Text held4 (w3 0 1 2 ++ w3 0 1 0 ++ empties 4) 8 8)
    is writes (w3 8 0 8) held4 (empties 8) [] (100 ∷ 32 ∷ 52 ∷ 32 ∷ 51 ∷ 32 ∷ 48 ∷ 10 ∷ [])
    ∷ does (binary_of Binary held4 (w3 0 1 2 ++ w3 0 1 0 ++ empties 4) 8 4) is writes (w3 8 0 4) held4 (empties 8) [] (w4 100 8 6 0)
    -- twice the same clause: twice d 4 3 0
    ∷ does (binary_of Binary held4 (w4 0 2 2 2 ++ w4 0 2 0 0 ++ empties 4) 8 8)
    is writes (w3 8 0 8) held4 (empties 8) [] (w4 100 8 6 0 ++ w4 100 8 6 0)
    -- 3 and 4 have values, both true: once d -3 1 0
    ∷ does (binary_of Text held4 (empties 2 ++ w2 1 4 ++ empties 2 ++ w2 1 3 ++ empties 2) 8 9)
    is writes (w3 8 0 9) held4 (empties 8) [] (100 ∷ 32 ∷ 45 ∷ 51 ∷ 32 ∷ 49 ∷ 32 ∷ 48 ∷ 10 ∷ [])
    -- not l under l, its own mirror: once, twice, and with a value, where it goes without a step
    ∷ does (binary_of Text held4 (w2 1 1 ++ empties 7) 9 0) is writes (w3 9 0 0) held4 (w2 1 1 ++ empties 7) [] []
    ∷ does (binary_of Text held4 (w3 2 1 1 ++ empties 7) 10 0) is writes (w3 10 1 0) held4 (w3 2 1 1 ++ empties 7) [] []
    ∷ does (binary_of Text held4 (empties 2 ++ w2 1 3 ++ empties 5) 8 0) is writes (w3 8 0 0) held4 (empties 8) [] []
    -- 2 under 2 and 3 under 3, the clause of 2 and 3: d 3 -3 0
    ∷ does (binary_of Binary held4 (empties 2 ++ w4 1 2 1 3 ++ empties 4) 8 4) is writes (w3 8 0 4) held4 (empties 8) [] (w4 100 6 7 0)
    -- entries keep their order, and so do the steps of a section: 7, 2, 6 and 4 under 1, with their mirrors; d 4 3 0, d 4 1 0
    ∷ does (binary_of Binary held4 (0 ∷ 4 ∷ 7 ∷ 2 ∷ 6 ∷ 4 ∷ 0 ∷ 1 ∷ 0 ∷ 0 ∷ 1 ∷ 0 ∷ 1 ∷ 0 ∷ 1 ∷ 0 ∷ []) 12 8)
    is writes (w3 12 2 8) held4 (w4 0 2 7 6 ++ empties 4 ++ w4 1 0 1 0) [] (w4 100 8 6 0 ++ w4 100 8 2 0)
    -- steps go by the sections, whether the literal of the section has the value or the entry: 2 under 1, 6 under 2; d 4 3 0, d -3 2 0
    ∷ does (binary_of Binary held4 (0 ∷ 1 ∷ 2 ∷ 1 ∷ 6 ∷ 1 ∷ 0 ∷ 0 ∷ 0 ∷ 0 ∷ 1 ∷ 3 ∷ []) 8 8)
    is writes (w3 8 0 8) held4 (empties 8) [] (w4 100 8 6 0 ++ w4 100 7 4 0)
    ∷ []

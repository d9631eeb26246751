-- Anchors of the count of distinct users (document 02, order 3).
use Rattle.std.specs.Prelude.{ℕ, List, [], ◌∷◌, replicate}
use Rattle.base.specs.Answer.{Answer, accepted, refused}
use Rattle.scope.specs.Anchors.{Anchor, answer, ◌is◌}
use Rattle.scope.specs.Distinct.{count_named, plain_count, Counting, users_by}

-- a clause with a watermark and maps, and what is to be answered
record UsersRow : Type 0 where
  pub gives : Counting → Answer
  pub says : Answer

-- both ways of counting give it
abbrev both_ways : List UsersRow → List Anchor
both_ways [] = []
both_ways (r ∷ rows) = answer (r.gives plain_count) is answer r.says ∷ answer (r.gives (count_named 4096)) is answer r.says ∷ both_ways rows

-- user 0 has a solver index, 1 is mapped, 2 and 3 are unmapped below the watermark 4
abbrev four : List ℕ → Counting → Answer
four lits k = users_by k 4 (1 ∷ 2 ∷ 0 ∷ 0 ∷ []) (1 ∷ 0 ∷ 0 ∷ 0 ∷ []) lits

infix 80 ◌to◌
abbrev ◌to◌ : (Counting → Answer) → Answer → UsersRow
f to a = record { gives = f; says = a }

-- how many are to be mapped, and how many to be granted
abbrev two : ℕ → ℕ → Answer
two users grants = accepted (users ∷ grants ∷ [])

abbrev pub user_counts : List Anchor
user_counts = both_ways
    (four [] to two 0 0
    -- an unmapped user; both its signs; two such, each twice; one between the two signs of the other
    ∷ four (4 ∷ []) to two 1 1
    ∷ four (4 ∷ 5 ∷ []) to two 1 1
    ∷ four (4 ∷ 6 ∷ 7 ∷ 5 ∷ []) to two 2 2
    ∷ four (5 ∷ 6 ∷ 4 ∷ []) to two 2 2
    -- a mapped user is only to be granted, one with a solver index is not
    ∷ four (3 ∷ []) to two 0 1
    ∷ four (3 ∷ 2 ∷ 0 ∷ []) to two 0 1
    ∷ four (0 ∷ 1 ∷ []) to two 0 0
    -- at the watermark; above it, with the gap, which counts once
    ∷ four (8 ∷ []) to two 1 1
    ∷ four (12 ∷ []) to two 3 1
    ∷ four (8 ∷ 12 ∷ []) to two 3 2
    ∷ four (12 ∷ 8 ∷ 13 ∷ 4 ∷ []) to two 4 3
    -- the last index that may be named, and the first that may not
    ∷ four (8191 ∷ []) to two 4092 1
    ∷ four (4 ∷ 8192 ∷ []) to refused 3 []
    -- and the last number of literals, here with a count that counts none
    ∷ (λ k. users_by (λ p lits. 0) 4 [] [] (replicate 8192 4)) to two 0 0
    ∷ four (replicate 8193 4) to refused 3 []
    -- any watermark and maps: none, with the watermark above all, or above every capacity; a user mapped at the watermark, or to a global above every
    -- capacity
    ∷ (λ k. users_by k 9 [] [] (4 ∷ 4 ∷ [])) to two 1 1
    ∷ (λ k. users_by k 5000 [] [] (8190 ∷ [])) to two 1 1
    ∷ (λ k. users_by k 0 (7 ∷ []) [] (0 ∷ 1 ∷ [])) to two 1 1
    ∷ (λ k. users_by k 1 (5000 ∷ []) [] (0 ∷ [])) to two 0 1
    ∷ [])

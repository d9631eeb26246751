-- The distinct users of a clause (document 02, order 3): how many Pose is to map, and to grant a solver index, by the user watermark, the user map and
-- the solver indices of the globals. They are counted in two ways, by the users that are named and plainly.
use Rattle.std.specs.Prelude.{ℕ, ◌+◌, ◌-◌, ◌<◌, max, Bool, true, ◌&&◌, ◌||◌, not, List, [], ◌∷◌, eqb, ltb, leb, length, get_or, take}
use Rattle.base.specs.Answer.{Answer, accepted, refused}
use Rattle.base.specs.Bounded.{count, any_of}
use Rattle.base.specs.Choice.{pick}
use Rattle.scope.specs.Literals.{index_of}
use Rattle.scope.specs.Table.{word}

-- the user v is named by a literal
abbrev pub named : List ℕ → ℕ → Bool
named lits v = any_of (λ c. eqb (index_of c) v) lits

-- how many named users below n pass the test
unfoldable pub count_named : ℕ → (ℕ → Bool) → List ℕ → ℕ
count_named n p lits = count n (λ v. named lits v && p v)

-- the user of literal i passes the test, and no earlier literal names it
unfoldable pub is_first : (ℕ → Bool) → List ℕ → ℕ → Bool
is_first p lits i = not (named (take i lits) (index_of (get_or lits i 0))) && p (index_of (get_or lits i 0))

-- The plain count: a user counts at the first literal that names it, found by looking through those before.
unfoldable pub plain_count : (ℕ → Bool) → List ℕ → ℕ
plain_count p lits = count (length lits) (is_first p lits)

-- an unmapped user below the watermark
unfoldable pub is_low : List ℕ → ℕ → ℕ → Bool
is_low gu mark v = ltb v mark && eqb (get_or gu v 0) 0

-- a user that is unmapped, or whose global has no solver index
unfoldable pub needs_grant : List ℕ → List ℕ → ℕ → Bool
needs_grant gu sg v = word true (λ g. eqb (get_or sg g 0) 0) (get_or gu v 0)

-- the watermark after: the least that is at or above the mark and above every user named
unfoldable pub top_of : ℕ → List ℕ → ℕ
top_of mark [] = mark
top_of mark (c ∷ cs) = max (top_of mark cs) (index_of c + 1)

-- a way to count the users of literals that pass a test: `count_named 4096`, or `plain_count`
abbrev pub Counting : Type 0
Counting = (ℕ → Bool) → List ℕ → ℕ

-- 3 for more than 8,192 literals or an index of 4,096 or more. Else how many users are to be mapped, those below the watermark that are unmapped and
-- named and all from there to the greatest that is named; and how many of those named are to be granted a solver index.
unfoldable pub users_by : Counting → ℕ → List ℕ → List ℕ → List ℕ → Answer
users_by k mark gu sg lits =
    pick (ltb 8192 (length lits) || any_of (λ c. leb 4096 (index_of c)) lits) (refused 3 [])
    (accepted ((k (is_low gu mark) lits + (top_of mark lits - mark)) ∷ k (needs_grant gu sg) lits ∷ []))

-- every user of the literals is below n
pub record Within (lits : List ℕ) (n : ℕ) : Type 0 where
  pub at : (i : ℕ) → i < length lits → index_of (get_or lits i 0) < n

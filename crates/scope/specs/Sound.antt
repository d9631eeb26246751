-- When a table is sound (document 01, "Words used"; document 02, order 5): as a test, and as facts.
use Rattle.std.specs.Prelude.{ℕ, ◌+◌, ◌-◌, ◌≤◌, ◌<◌, ◌≡◌, Bool, ◌&&◌, ◌||◌, not, ◌↔◌, ◌≢◌, List, eqb, ltb, leb, length, get_or}
use Rattle.std.specs.Bool.{beq}
use Rattle.base.specs.Bounded.{all_below}
use Rattle.scope.specs.declared.Counts.{Counts}
use Rattle.scope.specs.Table.{Table, mode_of, isolated_of, is_shown, next_solver, undeleted}

-- ---- the test

-- Sizes: a capacity from 1 to 4,096, and six lists of that length.
unfoldable pub sizesb : Table → Bool
sizesb t =
    leb 1 t.counts.capacity
    && leb t.counts.capacity 4096
    && eqb (length t.global_from_user) t.counts.capacity
    && eqb (length t.user_from_global) t.counts.capacity
    && eqb (length t.solver_from_global) t.counts.capacity
    && eqb (length t.global_from_solver) t.counts.capacity
    && eqb (length t.assignment) t.counts.capacity
    && eqb (length t.records) t.counts.capacity

-- Watermarks: neither users nor solver indices reach further than globals, nor these than the capacity.
unfoldable pub marksb : Counts → Bool
marksb c = leb c.user c.global && leb c.solver c.global && leb c.global c.capacity

-- Every word is at most m.
unfoldable pub at_mostb : ℕ → List ℕ → Bool
at_mostb m xs = all_below (length xs) (λ i. leb (get_or xs i 0) m)

-- At or above the watermark the list holds the blank.
unfoldable pub tailb : ℕ → ℕ → List ℕ → Bool
tailb mark blank xs = all_below (length xs) (λ i. ltb i mark || eqb (get_or xs i blank) blank)

-- What the first map takes i to, the second takes back to i.
unfoldable pub backb : List ℕ → List ℕ → Bool
backb a b = all_below (length a) (λ i. eqb (get_or a i 0) 0 || eqb (get_or b (get_or a i 0 - 1) 0) (i + 1))

-- Those globals have a user that are neither deleted nor hidden, and no others.
unfoldable pub namedb : List ℕ → List ℕ → Bool
namedb records users = all_below (length records) (λ g. beq (not (eqb (get_or users g 0) 0)) (is_shown (get_or records g 47)))

-- Every deleted global is hidden and isolated and holds no solver index.
unfoldable pub deletedb : List ℕ → List ℕ → Bool
deletedb records solvers =
    all_below (length records)
    (λ g. ltb (get_or records g 47) 36 || (eqb (mode_of (get_or records g 47)) 2 && eqb (isolated_of (get_or records g 47)) 1 && eqb (get_or solvers g 0) 0))

unfoldable pub tailsb : Table → Bool
tailsb t =
    tailb t.counts.user 0 t.global_from_user
    && tailb t.counts.global 0 t.user_from_global
    && tailb t.counts.global 0 t.solver_from_global
    && tailb t.counts.solver 0 t.global_from_solver
    && tailb t.counts.solver 0 t.assignment
    && tailb t.counts.global 47 t.records

unfoldable pub pairsb : Table → Bool
pairsb t =
    backb t.global_from_user t.user_from_global
    && backb t.user_from_global t.global_from_user
    && backb t.solver_from_global t.global_from_solver
    && backb t.global_from_solver t.solver_from_global

-- The maps, the records and the assignment, with the watermarks.
unfoldable pub listsb : Table → Bool
listsb t =
    sizesb t
    && marksb t.counts
    && at_mostb 71 t.records
    && at_mostb 2 t.assignment
    && tailsb t
    && pairsb t
    && namedb t.records t.user_from_global
    && deletedb t.records t.solver_from_global

-- The stored numbers are those of the recount (document 02, order 5).
unfoldable pub storedb : Table → Bool
storedb t = eqb t.counts.used (undeleted t) && eqb t.counts.next (next_solver t)

unfoldable pub soundb : Table → Bool
soundb t = listsb t && storedb t

-- ---- the facts. A word past the end of a list reads as the blank, so that they hold of every index.

pub record Sizes (t : Table) : Type 0 where
  pub positive : 1 ≤ t.counts.capacity
  pub at_most : t.counts.capacity ≤ 4096
  pub global_from_user : length t.global_from_user ≡ t.counts.capacity
  pub user_from_global : length t.user_from_global ≡ t.counts.capacity
  pub solver_from_global : length t.solver_from_global ≡ t.counts.capacity
  pub global_from_solver : length t.global_from_solver ≡ t.counts.capacity
  pub assignment : length t.assignment ≡ t.counts.capacity
  pub records : length t.records ≡ t.counts.capacity
  pub users : t.counts.user ≤ t.counts.global
  pub solvers : t.counts.solver ≤ t.counts.global
  pub globals : t.counts.global ≤ t.counts.capacity

-- each is the inverse of the other
abbrev pub Inverse : List ℕ → List ℕ → Type 0
Inverse a b = (i j : ℕ) → (get_or a i 0 ≡ j + 1) ↔ (get_or b j 0 ≡ i + 1)

-- two mutually inverse maps, each 0 from its watermark up
pub record Pair (a b : List ℕ) (amark bmark : ℕ) : Type 0 where
  pub inverse : Inverse a b
  pub atail : (i : ℕ) → amark ≤ i → get_or a i 0 ≡ 0
  pub btail : (i : ℕ) → bmark ≤ i → get_or b i 0 ≡ 0

-- undeleted and not Hide
abbrev pub Shown : ℕ → Type 0
Shown r = (r < 36) × (mode_of r ≢ 2)

-- the record r of a global, with its user word and its solver word
pub record Row (r user solver : ℕ) : Type 0 where
  pub small : r ≤ 71
  pub named : user ≢ 0 → Shown r
  pub seen : Shown r → user ≢ 0
  pub gone : 36 ≤ r → (mode_of r ≡ 2) × (isolated_of r ≡ 1) × (solver ≡ 0)

pub record Rows (records users solvers : List ℕ) (mark : ℕ) : Type 0 where
  pub row : (g : ℕ) → Row (get_or records g 47) (get_or users g 0) (get_or solvers g 0)
  pub tail : (g : ℕ) → mark ≤ g → get_or records g 47 ≡ 47

pub record Values (assignment : List ℕ) (mark : ℕ) : Type 0 where
  pub small : (s : ℕ) → get_or assignment s 0 ≤ 2
  pub tail : (s : ℕ) → mark ≤ s → get_or assignment s 0 ≡ 0

-- what `storedb` tests
pub record Stored (t : Table) : Type 0 where
  pub used : t.counts.used ≡ undeleted t
  pub next : t.counts.next ≡ next_solver t

pub record Sound (t : Table) : Type 0 where
  pub sizes : Sizes t
  pub user : Pair t.global_from_user t.user_from_global t.counts.user t.counts.global
  pub solver : Pair t.global_from_solver t.solver_from_global t.counts.solver t.counts.global
  pub rows : Rows t.records t.user_from_global t.solver_from_global t.counts.global
  pub values : Values t.assignment t.counts.solver
  pub stored : Stored t

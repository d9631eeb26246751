-- The table of names (document 01, "Words used"), its records, and the single changes that the calls make.
use Rattle.std.specs.Prelude.{ℕ, zero, suc, ◌+◌, ◌-◌, ◌*◌, ◌/◌, ◌%◌, max, Bool, ◌&&◌, not, List, eqb, ltb, leb, get_or, set}
use Rattle.base.specs.Choice.{pick}
use Rattle.base.specs.Bounded.{least, count}
use Rattle.scope.specs.declared.Counts.{Counts}

-- The counts with the six lists. A map holds 0 for none, else index + 1.
pub record Table : Type 0 where
  pub counts : Counts
  pub global_from_user : List ℕ
  pub user_from_global : List ℕ
  pub solver_from_global : List ℕ
  pub global_from_solver : List ℕ
  pub assignment : List ℕ
  pub records : List ℕ

-- a table from its parts
abbrev pub table_of : Counts → List ℕ → List ℕ → List ℕ → List ℕ → List ℕ → List ℕ → Table
table_of c gu ug sg gs a r =
    record {
      counts = c;
      global_from_user = gu;
      user_from_global = ug;
      solver_from_global = sg;
      global_from_solver = gs;
      assignment = a;
      records = r;
    }

-- What a map's word says: none, or an index.
unfoldable pub word {ℓ} : {A : Type ℓ} → A → (ℕ → A) → ℕ → A
word none some zero = none
word none some (suc i) = some i

-- ---- records: mode + 3 × unit + 9 if isolated + 18 if assumed + 36 if deleted

abbrev pub mode_of : ℕ → ℕ
mode_of r = r % 3

abbrev pub unit_of : ℕ → ℕ
unit_of r = r / 3 % 3

abbrev pub isolated_of : ℕ → ℕ
isolated_of r = r / 9 % 2

abbrev pub assumed_of : ℕ → ℕ
assumed_of r = r / 18 % 2

abbrev pub is_deleted : ℕ → Bool
is_deleted r = leb 36 r

-- undeleted and not Hide
unfoldable pub is_shown : ℕ → Bool
is_shown r = ltb r 36 && not (eqb (mode_of r) 2)

-- a fresh record, which is deleted, Hide and isolated, and a new user's, which is Sample and isolated
abbrev pub fresh_record : ℕ
fresh_record = 47

abbrev pub user_record : ℕ
user_record = 9

-- the record with another mode
abbrev pub with_mode : ℕ → ℕ → ℕ
with_mode r m = r / 3 * 3 + m

-- the record with the unit v, isolated
abbrev pub with_unit : ℕ → ℕ → ℕ
with_unit r v = r / 18 * 18 + 9 + 3 * v + mode_of r

-- the record of a global; one that is not there is fresh
abbrev pub record_of : Table → ℕ → ℕ
record_of t g = get_or t.records g fresh_record

-- ---- the recount: the least free solver index, and how many globals are undeleted

-- the least unmapped index of a map, which is its watermark where none below is free
unfoldable pub least_free : List ℕ → ℕ → ℕ
least_free xs mark = least mark (λ i. eqb (get_or xs i 0) 0)

unfoldable pub next_solver : Table → ℕ
next_solver t = least_free t.global_from_solver t.counts.solver

-- the global g is undeleted
abbrev pub is_undeleted : List ℕ → ℕ → Bool
is_undeleted records g = ltb (get_or records g fresh_record) 36

unfoldable pub undeleted : Table → ℕ
undeleted t = count t.counts.capacity (is_undeleted t.records)

-- The counts store both, as `used` and `next`: the stored numbers (document 02, order 5). The counts with another of either:
abbrev pub with_used : ℕ → Counts → Counts
with_used n c = record { capacity = c.capacity; user = c.user; global = c.global; solver = c.solver; used = n; next = c.next }

abbrev pub with_next : ℕ → Counts → Counts
with_next n c = record { capacity = c.capacity; user = c.user; global = c.global; solver = c.solver; used = c.used; next = n }

-- ---- single changes

-- Inserting raises the watermarks to cover the two indices.
abbrev pub cover_user : Counts → ℕ → ℕ → Counts
cover_user c u g =
    record { capacity = c.capacity; user = max c.user (u + 1); global = max c.global (g + 1); solver = c.solver; used = c.used; next = c.next }

abbrev pub cover_solver : Counts → ℕ → ℕ → Counts
cover_solver c s g =
    record { capacity = c.capacity; user = c.user; global = max c.global (g + 1); solver = max c.solver (s + 1); used = c.used; next = c.next }

-- A user goes to a global, whose record was `was`: one that was deleted is counted.
abbrev pub map_counts : Counts → ℕ → ℕ → ℕ → Counts
map_counts c u g was = with_used (c.used + pick (is_deleted was) 1 0) (cover_user c u g)

-- A solver index goes to a global, or is withdrawn, and the map of solver indices becomes gs.
abbrev pub grant_counts : Counts → ℕ → ℕ → List ℕ → Counts
grant_counts c s g gs = with_next (least_free gs (max c.solver (s + 1))) (cover_solver c s g)

abbrev pub remove_counts : Counts → List ℕ → Counts
remove_counts c gs = with_next (least_free gs c.solver) c

-- A global is deleted, and counted no more.
abbrev pub drop_counts : Counts → Counts
drop_counts c = with_used (c.used - 1) c

-- the user u and the record r go to the global g
unfoldable pub give_user : ℕ → ℕ → ℕ → Table → Table
give_user g u r t =
    table_of
    (map_counts t.counts u g (record_of t g))
    (set t.global_from_user u (g + 1))
    (set t.user_from_global g (u + 1))
    t.solver_from_global
    t.global_from_solver
    t.assignment
    (set t.records g r)

-- the user u of the global g is withdrawn, and the record becomes r
unfoldable pub take_user : ℕ → ℕ → ℕ → Table → Table
take_user g u r t =
    table_of t.counts
    (set t.global_from_user u 0)
    (set t.user_from_global g 0)
    t.solver_from_global
    t.global_from_solver
    t.assignment
    (set t.records g r)

-- the solver index s goes to the global g; its assignment becomes the record's unit
unfoldable pub give_solver : ℕ → ℕ → Table → Table
give_solver g s t =
    table_of
    (grant_counts t.counts s g (set t.global_from_solver s (g + 1)))
    t.global_from_user
    t.user_from_global
    (set t.solver_from_global g (s + 1))
    (set t.global_from_solver s (g + 1))
    (set t.assignment s (unit_of (record_of t g)))
    t.records

-- the solver index s of the global g is withdrawn; its assignment word stays
unfoldable pub take_solver : ℕ → ℕ → Table → Table
take_solver g s t =
    table_of (remove_counts t.counts (set t.global_from_solver s 0))
    t.global_from_user
    t.user_from_global
    (set t.solver_from_global g 0)
    (set t.global_from_solver s 0)
    t.assignment
    t.records

-- the record of g becomes r
unfoldable pub put_record : ℕ → ℕ → Table → Table
put_record g r t =
    table_of t.counts t.global_from_user t.user_from_global t.solver_from_global t.global_from_solver t.assignment (set t.records g r)

-- the assignment word of s becomes v
unfoldable pub put_value : ℕ → ℕ → Table → Table
put_value s v t =
    table_of t.counts t.global_from_user t.user_from_global t.solver_from_global t.global_from_solver (set t.assignment s v) t.records

-- the global g is deleted
unfoldable pub drop_global : ℕ → Table → Table
drop_global g t =
    table_of
    (drop_counts t.counts)
    t.global_from_user
    t.user_from_global
    t.solver_from_global
    t.global_from_solver
    t.assignment
    (set t.records g (record_of t g + 36))

-- The test of soundness and the facts of soundness say the same. Each small test is taken apart once, over plain lists; a word past the end
-- of a list reads as the blank, so that what holds of every index below the length holds of every index.
use Prim.Native.Nat.{ℕ, ◌+◌, ◌-◌, ◌≤◌, ◌<◌}
use mathlib.Core.Path.{◌≡◌, refl}
use mathlib.Core.Bool.{Bool, true, false}
use mathlib.Core.Logic.{◌≢◌, ⊎_elim}
use mathlib.Core.List.{List}
use native.Mathlib.Omega.{arith}
use lib.Dec.{ltb}
use lib.ListN.{length, get_or, get_or-eq_default}
use borrow.Author.Tests.{ltb-true, lt-ltb, ne_eqb}
use Rattle.base.proofs.BelowLaws.{and_left, and_right, and_both, all_at, all_intro}
use Rattle.base.proofs.MemberLaws.{get_d_default}
use Rattle.base.proofs.Truth.{truth, split}
use Rattle.scope.specs.Table.{Table, mode_of, isolated_of, is_shown}
use Rattle.scope.specs.Sound.{sizesb, marksb, at_mostb, tailb, backb, namedb, deletedb, tailsb, pairsb, listsb, storedb, soundb}
use Rattle.scope.specs.Sound.{Sizes, Pair, Shown, Row, Stored, Sound}

-- ---- shown

pub shown_of : (r : ℕ) → is_shown r ≡ true → Shown r
unfolding is_shown
shown_of r h = let k = simp truth at h in (ltb-true r 36 (and_left (ltb r 36) _ h), k.1)

pub shown_to : (r : ℕ) → Shown r → is_shown r ≡ true
unfolding is_shown
shown_to r h = rw (lt-ltb r 36 h.0, ne_eqb (mode_of r) 2 h.1)

pub hidden_to : (r : ℕ) → ¬ (Shown r) → is_shown r ≡ false
hidden_to r n = go (is_shown r) refl
  where
    go : (b : Bool) → is_shown r ≡ b → b ≡ false
    go true e = absurd (n (shown_of r e))
    go false e = refl

-- ---- the tests of lists

-- what holds of each index below the length, and of the blank, holds of every index
everywhere : (P : ℕ → ℕ → Type 0) (xs : List ℕ) (d : ℕ) → ((i : ℕ) → i < length xs → P i (get_or xs i d)) → ((i : ℕ) → length xs ≤ i → P i d) → (i : ℕ)
    → P i (get_or xs i d)
everywhere P xs d f g i = ⊎_elim (λ (l : i < length xs). f i l) (λ (l : length xs ≤ i). rw (get_or-eq_default xs d l) (g i l)) (split i (length xs))

at_most_of : (m d : ℕ) (xs : List ℕ) → d ≤ m → at_mostb m xs ≡ true → (i : ℕ) → get_or xs i d ≤ m
unfolding at_mostb
at_most_of m d xs k h =
    everywhere (λ (i x : ℕ). x ≤ m) xs d
    (λ i l. rw (get_d_default xs i d 0 l) (let z = simp truth at (all_at (length xs) _ h i l) in z))
    (λ i l. k)

at_most_to : (m d : ℕ) (xs : List ℕ) → ((i : ℕ) → get_or xs i d ≤ m) → at_mostb m xs ≡ true
unfolding at_mostb
at_most_to m d xs h = all_intro (length xs) _ (λ i l. simp truth (rw (get_d_default xs i 0 d l) (h i)))

pub tail_of : (mark blank : ℕ) (xs : List ℕ) → tailb mark blank xs ≡ true → (i : ℕ) → mark ≤ i → get_or xs i blank ≡ blank
unfolding tailb
tail_of mark blank xs h =
    everywhere (λ (i x : ℕ). mark ≤ i → x ≡ blank) xs blank
    (λ i l. let z = simp truth at (all_at (length xs) _ h i l) in z)
    (λ i l k. refl)

tail_to : (mark blank : ℕ) (xs : List ℕ) → ((i : ℕ) → mark ≤ i → get_or xs i blank ≡ blank) → tailb mark blank xs ≡ true
unfolding tailb
tail_to mark blank xs h = all_intro (length xs) _ (λ i l. simp truth (h i))

back_of : (a b : List ℕ) → backb a b ≡ true → (i j : ℕ) → get_or a i 0 ≡ j + 1 → get_or b j 0 ≡ i + 1
unfolding backb
back_of a b h =
    everywhere (λ (i x : ℕ). (j : ℕ) → x ≡ j + 1 → get_or b j 0 ≡ i + 1) a 0
    (λ i l j e.
    let z = simp truth at (all_at (length a) _ h i l) in
    let q : get_or a i 0 - 1 ≡ j = omega arith in
    rw q at (z (λ n. omega arith)))
    (λ i l j e. absurd (omega arith))

back_to : (a b : List ℕ) → ((i j : ℕ) → get_or a i 0 ≡ j + 1 → get_or b j 0 ≡ i + 1) → backb a b ≡ true
unfolding backb
back_to a b h = all_intro (length a) _ (λ i l. simp truth (λ n. h i (get_or a i 0 - 1) (omega arith)))

-- ---- sizes

pub sizes_of : (t : Table) → sizesb t ≡ true → marksb t.counts ≡ true → Sizes t
unfolding sizesb marksb
sizes_of t h m = let k = simp truth at h in let l = simp truth at m in omega arith

sizes_to : (t : Table) → Sizes t → sizesb t ≡ true
unfolding sizesb
sizes_to t s = simp truth (omega arith)

marks_to : (t : Table) → Sizes t → marksb t.counts ≡ true
unfolding marksb
marks_to t s = simp truth (omega arith)

-- ---- the parts

pair_of : (a b : List ℕ) (amark bmark : ℕ) → backb a b ≡ true → backb b a ≡ true → tailb amark 0 a ≡ true → tailb bmark 0 b ≡ true
    → Pair a b amark bmark
pair_of a b amark bmark f g p q =
    record { inverse = λ i j. (back_of a b f i j, back_of b a g j i); atail = tail_of amark 0 a p; btail = tail_of bmark 0 b q }

row_of : (records users solvers : List ℕ) → length users ≡ length records → length solvers ≡ length records
    → at_mostb 71 records ≡ true → namedb records users ≡ true → deletedb records solvers ≡ true
    → (g : ℕ) → Row (get_or records g 47) (get_or users g 0) (get_or solvers g 0)
unfolding namedb deletedb
row_of records users solvers lu ls m n d g = ⊎_elim
    (λ (l : g < length records).
    let x = simp truth at (all_at (length records) _ n g l) in
    let y = simp truth at (all_at (length records) _ d g l) in
    record {
      small = at_most_of 71 47 records (omega arith) m g;
      named = λ u. shown_of (get_or records g 47) (x.0 u);
      seen = λ s. x.1 (shown_to (get_or records g 47) s);
      gone = λ k. let z = y k in (z.0.0, z.0.1, z.1);
    })
    (λ (l : length records ≤ g).
    rw (get_or-eq_default records 47 l, get_or-eq_default users 0 {n = g} (omega arith), get_or-eq_default solvers 0 {n = g} (omega arith))
    (omega arith))
    (split g (length records))

named_to : (records users : List ℕ) → ((g : ℕ) → get_or users g 0 ≢ 0 → Shown (get_or records g 47))
    → ((g : ℕ) → Shown (get_or records g 47) → get_or users g 0 ≢ 0) → namedb records users ≡ true
unfolding namedb
named_to records users f k =
    all_intro (length records) _ (λ g l. simp truth (λ n. shown_to (get_or records g 47) (f g n), λ e. k g (shown_of (get_or records g 47) e)))

deleted_to : (records solvers : List ℕ)
    → ((g : ℕ) → 36 ≤ get_or records g 47 → (mode_of (get_or records g 47) ≡ 2) × (isolated_of (get_or records g 47) ≡ 1) × (get_or solvers g 0 ≡ 0))
    → deletedb records solvers ≡ true
unfolding deletedb
deleted_to records solvers f = all_intro (length records) _ (λ g l. simp truth (λ k. let z = f g k in ((z.0, z.1), z.2)))

-- ---- the stored numbers

stored_of : (t : Table) → storedb t ≡ true → Stored t
unfolding storedb
stored_of t h = let k = simp truth at h in record { used = omega (arith, k.0); next = omega (arith, k.1) }

stored_to : (t : Table) → Stored t → storedb t ≡ true
unfolding storedb
stored_to t p = simp truth (omega (arith, p.used), omega (arith, p.next))

-- ---- the whole

-- the tests of `soundb`, and of its two lists of tests
pub record Tests (t : Table) : Type 0 where
  pub sizes : sizesb t ≡ true
  pub marks : marksb t.counts ≡ true
  pub records : at_mostb 71 t.records ≡ true
  pub values : at_mostb 2 t.assignment ≡ true
  pub tails : tailsb t ≡ true
  pub pairs : pairsb t ≡ true
  pub named : namedb t.records t.user_from_global ≡ true
  pub deleted : deletedb t.records t.solver_from_global ≡ true
  pub stored : storedb t ≡ true

pub tests_of : (t : Table) → soundb t ≡ true → Tests t
unfolding soundb listsb
tests_of t h =
    let k = simp truth at (and_left (listsb t) (storedb t) h) in
    record {
      sizes = k.0.0.0.0.0.0.0;
      marks = k.0.0.0.0.0.0.1;
      records = k.0.0.0.0.0.1;
      values = k.0.0.0.0.1;
      tails =
          k.0.0.0.1;
      pairs = k.0.0.1;
      named = k.0.1;
      deleted = k.1;
      stored = and_right (listsb t) (storedb t) h;
    }

pub tests_to : (t : Table) → Tests t → soundb t ≡ true
unfolding soundb listsb
tests_to t k =
    and_both {a = listsb t} {b = storedb t}
    (simp truth (((((((k.sizes, k.marks), k.records), k.values), k.tails), k.pairs), k.named), k.deleted)) k.stored

-- A table that passes the test is sound,
pub sound_of : (t : Table) → soundb t ≡ true → Sound t
unfolding tailsb pairsb
sound_of t h =
    let k = tests_of t h in
    let z = sizes_of t k.sizes k.marks in
    let x = simp truth at k.tails in
    let y = simp truth at k.pairs in
    record {
      sizes = z;
      user = pair_of t.global_from_user t.user_from_global t.counts.user t.counts.global y.0.0.0 y.0.0.1 x.0.0.0.0.0
          x.0.0.0.0.1;
      solver = pair_of t.global_from_solver t.solver_from_global t.counts.solver t.counts.global y.1 y.0.1 x.0.0.1 x.0.0.0.1;
      rows = record {
        row = row_of t.records t.user_from_global t.solver_from_global (omega arith) (omega arith) k.records k.named k.deleted;
        tail = tail_of t.counts.global 47 t.records x.1;
      };
      values = record { small = at_most_of 2 0 t.assignment (omega arith) k.values; tail = tail_of t.counts.solver 0 t.assignment x.0.1 };
      stored = stored_of t k.stored;
    }

-- and a sound table passes it.
pub sound_to : (t : Table) → Sound t → soundb t ≡ true
unfolding tailsb pairsb
sound_to t p =
    tests_to t (record {
      sizes = sizes_to t p.sizes;
      marks = marks_to t p.sizes;
      records = at_most_to 71 47 t.records (λ g. (p.rows.row g).small);
      values = at_most_to 2 0 t.assignment p.values.small;
      tails = simp truth ((
        (
          (
            ((tail_to _ _ _ p.user.atail, tail_to _ _ _ p.user.btail), tail_to _ _ _ p.solver.btail),
            tail_to _ _ _
                p.solver.atail,
          ),
          tail_to _ _ _ p.values.tail,
        ),
        tail_to _ _ _ p.rows.tail,
      ));
      pairs = simp truth (
        (
          (back_to _ _ (λ i j. (p.user.inverse i j).0), back_to _ _ (λ i j. (p.user.inverse j i).1)),
          back_to _ _
              (λ i j. (p.solver.inverse j i).1),
        ),
        back_to _ _ (λ i j. (p.solver.inverse i j).0),
      );
      named = named_to t.records t.user_from_global (λ g. (p.rows.row g).named) (λ g. (p.rows.row g).seen);
      deleted = deleted_to t.records t.solver_from_global (λ g. (p.rows.row g).gone);
      stored = stored_to t p.stored;
    })

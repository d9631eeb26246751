-- The stored numbers through a single change: the recount of the records with one record put, and the least free index of a map with one word put.
use Prim.Native.Nat.{ℕ, ◌+◌, ◌-◌, ◌<◌, ◌≤◌, max, min}
use mathlib.Core.Path.{◌≡◌, refl, sym, ap, ◌∙◌}
use mathlib.Core.Bool.{Bool, true, false}
use mathlib.Core.List.{List}
use mathlib.Core.Logic.{⊎_elim}
use native.Mathlib.Omega.{arith}
use native.Mathlib.Decide.{dec_lt}
use lib.Dec.{eqb, ltb, leb}
use lib.ListN.{length, get_or, set, length-set}
use lib.Seq.{get_or-set_same, get_or-set_other}
use borrow.Author.Tests.{lt-ltb, le-ltb, leb-true, leb-false, ne_eqb}
use Rattle.base.specs.Choice.{pick}
use Rattle.base.specs.Bounded.{count}
use Rattle.base.proofs.CountLaws.{count_same, count_more}
use Rattle.base.proofs.LeastLaws.{Least, least_is, least_has}
use Rattle.base.proofs.Truth.{same}
use Rattle.scope.specs.declared.Counts.{Counts}
use Rattle.scope.specs.Table.{is_undeleted, is_deleted, least_free, cover_user, cover_solver, with_used, with_next, map_counts, grant_counts, remove_counts}
use Rattle.scope.specs.Cursor.{AllMapped}

-- ---- how many records are undeleted

other : (rs : List ℕ) (g r k : ℕ) → (k ≡ g → ⊥) → is_undeleted rs k ≡ is_undeleted (set rs g r) k
other rs g r k n = rw (get_or-set_other rs g k r 47 n)

here : (rs : List ℕ) (g r : ℕ) → g < length rs → is_undeleted (set rs g r) g ≡ ltb r 36
here rs g r h = rw (get_or-set_same rs g r 47 h)

-- an undeleted record for an undeleted one
pub count_kept : (n : ℕ) (rs : List ℕ) (g r : ℕ) → g < length rs → get_or rs g 47 < 36 → r < 36
    → count n (is_undeleted rs) ≡ count n (is_undeleted (set rs g r))
count_kept n rs g r h a b = count_same n (is_undeleted rs) (is_undeleted (set rs g r)) (λ k l. ⊎_elim
    (λ (e : k ≡ g). rw (e, get_or-set_same rs g r 47 h, lt-ltb (get_or rs g 47) 36 a, lt-ltb r 36 b))
    (λ (e : k ≡ g → ⊥). other rs g r k e)
    (same k g))

-- an undeleted record for any
pub count_given : (n : ℕ) (rs : List ℕ) (g r : ℕ) → g < n → g < length rs → r < 36
    → count n (is_undeleted rs) + pick (is_deleted (get_or rs g 47)) 1 0 ≡ count n (is_undeleted (set rs g r))
count_given n rs g r m h b = go (leb 36 (get_or rs g 47)) refl
  where
    go : (t : Bool) → leb 36 (get_or rs g 47) ≡ t → count n (is_undeleted rs) + pick t 1 0 ≡ count n (is_undeleted (set rs g r))
    go true e =
        let x = count_more n g (is_undeleted rs) (is_undeleted (set rs g r)) m (λ k z. other rs g r k z) (le-ltb (get_or rs g 47) 36 (leb-true 36 (get_or rs g 47) e))
        (here rs g r h ∙ lt-ltb r 36 b) in
        omega arith
    go false e = let x = count_kept n rs g r h (leb-false 36 (get_or rs g 47) e) b in omega arith

-- a deleted record for an undeleted one
pub count_dropped : (n : ℕ) (rs : List ℕ) (g r : ℕ) → g < n → g < length rs → get_or rs g 47 < 36 → 36 ≤ r
    → count n (is_undeleted rs) - 1 ≡ count n (is_undeleted (set rs g r))
count_dropped n rs g r m h a b =
    let x = count_more n g (is_undeleted (set rs g r)) (is_undeleted rs) m (λ k z. sym (other rs g r k z)) (here rs g r h ∙ le-ltb r 36 b)
    (lt-ltb (get_or rs g 47) 36 a) in
    omega arith

-- one undeleted record is counted
pub count_one : (n : ℕ) (rs : List ℕ) (g : ℕ) → g < n → g < length rs → get_or rs g 47 < 36 → 1 ≤ count n (is_undeleted rs)
count_one n rs g m h a =
    let x = count_more n g (is_undeleted (set rs g 47)) (is_undeleted rs) m (λ k z. sym (other rs g 47 k z)) (here rs g 47 h ∙ le-ltb 47 36 (omega arith))
    (lt-ltb (get_or rs g 47) 36 a) in
    omega arith

-- ---- the least free index

-- where an index was given, the next is searched from the one after it
pub given_from : (xs : List ℕ) (mark s g : ℕ) → s < length xs → AllMapped xs mark s → AllMapped (set xs s (g + 1)) (max mark (s + 1)) (s + 1)
given_from xs mark s g l h =
    record {
      within = omega arith;
      below = λ k m. ⊎_elim
          (λ (e : k ≡ s). rw (e, get_or-set_same xs s (g + 1) 0 l) (ne_eqb (g + 1) 0 (λ z. omega arith)))
          (λ (e : k ≡ s → ⊥). rw (get_or-set_other xs s k (g + 1) 0 e) (h.below k (omega arith)))
          (same k s);
    }

-- where one was withdrawn, the least is the smaller of it and the least before
pub taken_least : (xs : List ℕ) (mark s : ℕ) → s < length xs → s < mark → min (least_free xs mark) s ≡ least_free (set xs s 0) mark
unfolding least_free
taken_least xs mark s l m = go (dec_lt (least_free xs mark) s)
  where
    free : List ℕ → ℕ → Bool
    free ys k = eqb (get_or ys k 0) 0

    was : Least mark (free xs) (least_free xs mark)
    was = least_has mark (free xs)

    below : (k : ℕ) → k < least_free xs mark → (k ≡ s → ⊥) → free (set xs s 0) k ≡ false
    below k h n = rw (get_or-set_other xs s k 0 0 n) (was.before k h)

    go : Dec (least_free xs mark < s) → min (least_free xs mark) s ≡ least_free (set xs s 0) mark
    go (yes h) =
        let e = least_is mark (free (set xs s 0)) (least_free xs mark) was.within (λ k z. below k z (λ q. omega arith))
        (λ z. rw (get_or-set_other xs s (least_free xs mark) 0 0 (λ q. omega arith)) (was.here z)) in
        omega arith
    go (no n) =
        let e = least_is mark (free (set xs s 0)) s (omega arith) (λ k z. below k (omega arith) (λ q. omega arith))
        (λ z. rw (get_or-set_same xs s 0 0 l)) in
        omega arith

-- ---- the counts after a change, as the code has them

pub mapped_is : (c d : Counts) (u g w n : ℕ) → d ≡ cover_user c u g → n ≡ c.used + pick (is_deleted w) 1 0 → with_used n d ≡ map_counts c u g w
mapped_is c d u g w n p q = ap (with_used n) p ∙ ap (λ (m : ℕ). with_used m (cover_user c u g)) q

pub granted_is : (c d : Counts) (s g n : ℕ) (xs : List ℕ) → d ≡ cover_solver c s g → n ≡ least_free xs d.solver → with_next n d ≡ grant_counts c s g xs
granted_is c d s g n xs p q =
    ap (with_next n) p ∙ ap (λ (m : ℕ). with_next m (cover_solver c s g)) (q ∙ ap (λ (e : Counts). least_free xs e.solver) p)

pub grant_from : (c d : Counts) (s g n : ℕ) (xs xs' : List ℕ) → d ≡ cover_solver c s g → xs' ≡ set xs s (g + 1) → s < length xs → c.solver ≤ length xs
    → AllMapped xs c.solver s → n ≡ s + 1 → (d.solver ≤ length xs') × AllMapped xs' d.solver n
grant_from c d s g n xs xs' p q l m h k = rw (k, p, q, length-set xs s (g + 1)) (omega arith, given_from xs c.solver s g l h)

pub removed_is : (c : Counts) (s n : ℕ) (xs xs' : List ℕ) → s < length xs → s < c.solver → c.next ≡ least_free xs c.solver → xs' ≡ set xs s 0
    → n ≡ min c.next s → with_next n c ≡ remove_counts c xs'
removed_is c s n xs xs' l m h p q =
    ap (λ (k : ℕ). with_next k c)
    (q ∙ ap (λ (k : ℕ). min k s) h ∙ taken_least xs c.solver s l m ∙ ap (λ (ys : List ℕ). least_free ys c.solver) (sym p))

-- The users that are to be mapped, counted: for one user, and for one literal more.
use Prim.Native.Nat.{ℕ, zero, suc, ◌+◌, ◌-◌, ◌<◌, ◌≤◌, min, max}
use mathlib.Core.Path.{◌≡◌, refl, sym}
use mathlib.Core.Bool.{Bool, true, false, ◌&&◌, ◌||◌, not, true≢false}
use native.Mathlib.Omega.{arith}
use native.Mathlib.Decide.{dec_le, dec_lt, ℕ_discrete}
use lib.Dec.{eqb, ltb, leb}
use lib.ListN.{get_or}
use borrow.Author.Tests.{eq-eqb, ne_eqb, le-leb, lt-leb, lt-ltb, le-ltb, ltb-true}
use Rattle.base.specs.Choice.{pick}
use Rattle.base.specs.Bounded.{count}
use Rattle.base.proofs.BelowLaws.{and_not_right}
use Rattle.base.proofs.CountLaws.{count_same}
use Rattle.scope.specs.Table.{Table}
use Rattle.scope.specs.Sound.{Sound}
use Rattle.scope.specs.Outcome.{Result}
use Rattle.scope.specs.Map.{to_map}
use Rattle.scope.proofs.PairLaws.{below_mark}
use Rattle.scope.proofs.MapLaws.{Mapped, to_map_free, to_map_has}

-- ---- counts

-- two tests of which never both pass
pub count_either : (n : ℕ) (p q r : ℕ → Bool) → ((i : ℕ) → r i ≡ p i || q i) → ((i : ℕ) → p i ≡ true → q i ≡ false)
    → count n r ≡ count n p + count n q
unfolding count
count_either zero p q r h d = refl
count_either (suc n) p q r h d = rw (h n) (go (p n) (q n) (d n) (count_either n p q r h d))
  where
    go : (a b : Bool) → (a ≡ true → b ≡ false) → count n r ≡ count n p + count n q
        → pick (a || b) (suc (count n r)) (count n r) ≡ pick a (suc (count n p)) (count n p) + pick b (suc (count n q)) (count n q)
    go true true f e = absurd (true≢false (f refl))
    go true false f e = omega arith
    go false true f e = omega arith
    go false false f e = e

pub count_within : (n : ℕ) (p q : ℕ → Bool) → ((i : ℕ) → p i ≡ true → q i ≡ true) → count n p ≤ count n q
unfolding count
count_within zero p q h = omega arith
count_within (suc n) p q h = go (p n) (q n) (h n) (count_within n p q h)
  where
    go : (a b : Bool) → (a ≡ true → b ≡ true) → count n p ≤ count n q → pick a (suc (count n p)) (count n p) ≤ pick b (suc (count n q)) (count n q)
    go true true f l = omega arith
    go true false f l = absurd (true≢false (sym (f refl)))
    go false true f l = omega arith
    go false false f l = l

-- the numbers from a up and below b
pub count_range : (n a b : ℕ) → count n (λ i. leb a i && ltb i b) ≡ min n b - a
unfolding count
count_range zero a b = omega arith
count_range (suc n) a b = go (dec_lt n a) (dec_lt n b) (count_range n a b)
  where
    go : Dec (n < a) → Dec (n < b) → count n (λ i. leb a i && ltb i b) ≡ min n b - a
        → pick (leb a n && ltb n b) (suc (count n (λ i. leb a i && ltb i b))) (count n (λ i. leb a i && ltb i b)) ≡ min (suc n) b - a
    go (yes x) d e = rw (lt-leb a n x) (omega arith)
    go (no x) (yes y) e = rw (le-leb a n (omega arith), lt-ltb n b y) (omega arith)
    go (no x) (no y) e = rw (le-leb a n (omega arith), le-ltb n b (omega arith)) (omega arith)

-- two tests that pass together are the same
pub both_ways_lem : (a b : Bool) → (a ≡ true → b ≡ true) → (b ≡ true → a ≡ true) → a ≡ b
both_ways_lem true b f g = sym (f refl)
both_ways_lem false true f g = g refl
both_ways_lem false false f g = refl

-- ---- one user

-- the user v has no global
abbrev pub is_free : Table → ℕ → Bool
is_free t v = eqb (get_or t.global_from_user v 0) 0

-- mapping u takes in v: v is u, or between the watermark and u
abbrev pub takes_in : ℕ → ℕ → ℕ → Bool
takes_in mark u v = eqb u v || (leb mark v && ltb v u)

-- the users to be mapped for u are the free ones that it takes in
pub to_map_count : (t : Table) (u : ℕ) → Sound t → u < t.counts.capacity
    → to_map t u ≡ count t.counts.capacity (λ v. is_free t v && takes_in t.counts.user u v)
to_map_count t u p h = go (get_or t.global_from_user u 0) refl
  where
    n : ℕ
    n = t.counts.capacity

    free : (v : ℕ) → Dec (v ≡ u) → Dec (t.counts.user ≤ v) → get_or t.global_from_user u 0 ≡ 0
        → is_free t v && takes_in t.counts.user u v ≡ leb (min u t.counts.user) v && ltb v (u + 1)
    free v (yes e) d z =
        let w : get_or t.global_from_user v 0 ≡ 0 = rw e z in
        rw (eq-eqb (get_or t.global_from_user v 0) 0 w, eq-eqb u v (sym e), le-leb (min u t.counts.user) v (omega arith), lt-ltb v (u + 1) (omega arith))
    free v (no e) (yes d) z =
        rw (
          eq-eqb (get_or t.global_from_user v 0) 0 (p.user.atail v d),
          ne_eqb u v (λ q. e (sym q)),
          le-leb t.counts.user v d,
          le-leb
              (min u t.counts.user) v (omega arith),
        )
        (both_ways_lem (ltb v u) (ltb v (u + 1)) (λ q. let k = ltb-true v u q in lt-ltb v (u + 1) (omega arith)) (λ q. let k = ltb-true v (u + 1) q in
        lt-ltb v u (omega arith)))
    free v (no e) (no d) z =
        rw (ne_eqb u v (λ q. e (sym q)), lt-leb t.counts.user v (omega arith)) (neither (is_free t v) (dec_lt v u))
      where
        neither : (b : Bool) → Dec (v < u) → b && false ≡ leb (min u t.counts.user) v && ltb v (u + 1)
        neither b (yes l) = rw (lt-leb (min u t.counts.user) v (omega arith)) (and_not_right b false refl)
        neither b (no l) = rw (le-ltb v (u + 1) (omega arith), and_not_right (leb (min u t.counts.user) v) false refl) (and_not_right b false refl)

    taken : (v g : ℕ) → get_or t.global_from_user u 0 ≡ g + 1 → Dec (v ≡ u) → is_free t v && takes_in t.counts.user u v ≡ leb 0 v && ltb v 0
    taken v g z (yes e) =
        let w : get_or t.global_from_user v 0 ≡ g + 1 = rw e z in
        rw (ne_eqb (get_or t.global_from_user v 0) 0 (omega arith), le-leb 0 v (omega arith), le-ltb v 0 (omega arith))
    taken v g z (no e) =
        let l = below_mark u g p.user z in
        rw (ne_eqb u v (λ q. e (sym q)), le-leb 0 v (omega arith), le-ltb v 0 (omega arith)) (off (is_free t v) (dec_lt v u) l)
      where
        off : (b : Bool) → Dec (v < u) → u < t.counts.user → b && (leb t.counts.user v && ltb v u) ≡ false
        off b (yes k) l = rw (lt-leb t.counts.user v (omega arith)) (and_not_right b false refl)
        off b (no k) l = rw (le-ltb v u (omega arith), and_not_right (leb t.counts.user v) false refl) (and_not_right b false refl)

    go : (w : ℕ) → get_or t.global_from_user u 0 ≡ w → to_map t u ≡ count n (λ v. is_free t v && takes_in t.counts.user u v)
    go zero e =
        let a = to_map_free t u e in
        let b = count_same n (λ v. is_free t v && takes_in t.counts.user u v) (λ v. leb (min u t.counts.user) v && ltb v (u + 1))
        (λ v l. free v (ℕ_discrete v u) (dec_le t.counts.user v) e) in
        let c = count_range n (min u t.counts.user) (u + 1) in
        omega arith
    go (suc g) e =
        let q : get_or t.global_from_user u 0 ≡ g + 1 = omega arith in
        let a = to_map_has t u g q in
        let b = count_same n (λ v. is_free t v && takes_in t.counts.user u v) (λ v. leb 0 v && ltb v 0) (λ v l. taken v g q (ℕ_discrete v u)) in
        let c = count_range n 0 0 in
        omega arith

-- after it these are mapped, and the others as they were
pub map_frees : (t : Table) (u : ℕ) (x : Result ℕ) → Sound t → Mapped t u x → (v : ℕ)
    → is_free x.table v ≡ is_free t v && not (takes_in t.counts.user u v)
map_frees t u x p m v = go (ℕ_discrete v u) (dec_lt v t.counts.user) (dec_lt v u)
  where
    go : Dec (v ≡ u) → Dec (v < t.counts.user) → Dec (v < u) → is_free x.table v ≡ is_free t v && not (takes_in t.counts.user u v)
    go (yes e) b c =
        let h = m.has in
        let w : get_or x.table.global_from_user v 0 ≡ x.value + 1 = rw e h in
        rw (ne_eqb (get_or x.table.global_from_user v 0) 0 (omega arith), eq-eqb u v (sym e)) (sym (and_not_right (is_free t v) false refl))
    go (no e) (yes b) c =
        rw (m.other v e b, ne_eqb u v (λ q. e (sym q)), lt-leb t.counts.user v b) (stays (is_free t v))
      where
        stays : (b : Bool) → b ≡ b && true
        stays true = refl
        stays false = refl
    go (no e) (no b) (yes c) =
        rw (
          ne_eqb (get_or x.table.global_from_user v 0) 0 (m.gap v (omega arith) c),
          ne_eqb u v (λ q. e (sym q)),
          le-leb t.counts.user v (omega arith),
          lt-ltb v u c,
        )
        (sym (and_not_right (is_free t v) false refl))
    go (no e) (no b) (no c) =
        let k = m.user in
        let a : get_or x.table.global_from_user v 0 ≡ 0 = m.sound.user.atail v (omega arith) in
        let d : get_or t.global_from_user v 0 ≡ 0 = p.user.atail v (omega arith) in
        rw (a, d, ne_eqb u v (λ q. e (sym q)), le-ltb v u (omega arith), and_not_right (leb t.counts.user v) false refl)

-- and the watermark covers it
pub map_covers : (t : Table) (u : ℕ) (x : Result ℕ) → Mapped t u x → (v : ℕ)
    → leb x.table.counts.user v ≡ leb t.counts.user v && not (eqb u v || ltb v u)
map_covers t u x m v = rw m.user (go (dec_lt v t.counts.user) (ℕ_discrete v u) (dec_lt v u))
  where
    go : Dec (v < t.counts.user) → Dec (v ≡ u) → Dec (v < u)
        → leb (max t.counts.user (u + 1)) v ≡ leb t.counts.user v && not (eqb u v || ltb v u)
    go (yes a) b c = rw (lt-leb (max t.counts.user (u + 1)) v (omega arith), lt-leb t.counts.user v a)
    go (no a) (yes b) c = rw (lt-leb (max t.counts.user (u + 1)) v (omega arith), le-leb t.counts.user v (omega arith), eq-eqb u v (sym b))
    go (no a) (no b) (yes c) =
        rw (lt-leb (max t.counts.user (u + 1)) v (omega arith), le-leb t.counts.user v (omega arith), ne_eqb u v (λ q. b (sym q)), lt-ltb v u c)
    go (no a) (no b) (no c) =
        rw (
          le-leb (max t.counts.user (u + 1)) v (omega arith),
          le-leb t.counts.user v (omega arith),
          ne_eqb u v (λ q. b (sym q)),
          le-ltb v u
              (omega arith),
        )

-- at most one number is u
pub count_point : (n u : ℕ) (p : ℕ → Bool) → u < n → count n (λ v. eqb u v && p v) ≡ pick (p u) 1 0
count_point n u p h = go (p u) refl
  where
    here : (v : ℕ) → p u ≡ true → Dec (u ≡ v) → eqb u v && p v ≡ leb u v && ltb v (u + 1)
    here v e (yes q) = let w : p v ≡ true = rw (← q) e in rw (eq-eqb u v q, w, le-leb u v (omega arith), lt-ltb v (u + 1) (omega arith))
    here v e (no q) = rw (ne_eqb u v q) (off (dec_lt v u))
      where
        off : Dec (v < u) → false ≡ leb u v && ltb v (u + 1)
        off (yes l) = rw (lt-leb u v l)
        off (no l) = rw (le-ltb v (u + 1) (omega arith)) (sym (and_not_right (leb u v) false refl))

    none : (v : ℕ) → p u ≡ false → Dec (u ≡ v) → eqb u v && p v ≡ leb 0 v && ltb v 0
    none v e (yes q) = let w : p v ≡ false = rw (← q) e in rw (w, le-leb 0 v (omega arith), le-ltb v 0 (omega arith)) (and_not_right (eqb u v) false refl)
    none v e (no q) = rw (ne_eqb u v q, le-leb 0 v (omega arith), le-ltb v 0 (omega arith))

    go : (b : Bool) → p u ≡ b → count n (λ v. eqb u v && p v) ≡ pick b 1 0
    go true e =
        let a = count_same n (λ v. eqb u v && p v) (λ v. leb u v && ltb v (u + 1)) (λ v l. here v e (ℕ_discrete u v)) in
        let b = count_range n u (u + 1) in
        omega arith
    go false e =
        let a = count_same n (λ v. eqb u v && p v) (λ v. leb 0 v && ltb v 0) (λ v l. none v e (ℕ_discrete u v)) in
        let b = count_range n 0 0 in
        omega arith

-- The two counts answer the same, whatever the table and the literals; and on a sound table they are what refusals 5 and 2 of Pose count.
use Prim.Native.Nat.{ℕ, ◌+◌, ◌-◌, ◌≤◌, ◌<◌}
use mathlib.Core.Path.{◌≡◌, refl, sym, ◌∙◌}
use mathlib.Core.Bool.{Bool, true, false, ◌&&◌, ◌||◌, true≢false}
use mathlib.Core.List.{List, [], ◌∷◌}
use mathlib.Core.Logic.{⊎_elim}
use native.Mathlib.Omega.{arith}
use lib.Dec.{eqb, ltb, leb}
use lib.ListN.{length, get_or}
use borrow.Author.Tests.{lt-ltb, le-ltb, le-leb, lt-leb, leb-false, ltb-false, eqb-false, ne_eqb, eq-eqb}
use Rattle.base.proofs.CountLaws.{count_past}
use Rattle.base.specs.Answer.{accepted, refused}
use Rattle.base.specs.Choice.{pick}
use Rattle.base.specs.Bounded.{count, any_of}
use Rattle.base.proofs.Truth.{split}
use Rattle.base.proofs.BelowLaws.{and_not_left, and_not_right}
use Rattle.base.proofs.MemberLaws.{any_none, any_intro, or_left, or_right, or_neither}
use Rattle.scope.specs.Literals.{index_of}
use Rattle.scope.specs.Table.{Table}
use Rattle.scope.specs.Sound.{Sizes, soundb}
use Rattle.scope.specs.Pose.{wanted, users_to_map}
use Rattle.scope.proofs.SoundLaws.{sound_of}
use Rattle.scope.proofs.MapLaws.{is_ungranted}
use Rattle.scope.proofs.PoseLaws.{is_passed, users_to_grant}
use Rattle.scope.proofs.WantedLaws.{count_either, count_range}
use Rattle.scope.specs.Distinct.{named, count_named, plain_count, top_of, is_low, needs_grant, users_by, Within}
use Rattle.scope.proofs.DistinctLaws.{plain_count_lem, top_over, top_tight}

-- ---- the literals' bounds

pub within_of : (lits : List ℕ) (n : ℕ) → any_of (λ c. leb n (index_of c)) lits ≡ false → Within lits n
within_of lits n e = record { at = λ i l. leb-false n _ (any_none (λ c. leb n (index_of c)) lits i 0 e l) }

pub within_up : (lits : List ℕ) (n m : ℕ) → n ≤ m → Within lits n → Within lits m
within_up lits n m l w = record { at = λ i k. let x = w.at i k in omega arith }

pub within_none : (lits : List ℕ) (n : ℕ) → Within lits n → any_of (λ c. leb n (index_of c)) lits ≡ false
within_none lits n w = any_intro (λ c. leb n (index_of c)) lits 0 (λ i l. lt-leb n _ (w.at i l))

-- ---- the two counts

-- The two ways to count answer the same, of any watermark, maps and literals.
pub plain_users : (mark : ℕ) (gu sg lits : List ℕ) → users_by plain_count mark gu sg lits ≡ users_by (count_named 4096) mark gu sg lits
unfolding users_by
plain_users mark gu sg lits = go (ltb 8192 (length lits)) (any_of (λ c. leb 4096 (index_of c)) lits) refl
  where
    go : (many outside : Bool) → any_of (λ c. leb 4096 (index_of c)) lits ≡ outside
        → pick (many || outside) (refused 3 [])
        (accepted ((plain_count (is_low gu mark) lits + (top_of mark lits - mark)) ∷ plain_count (needs_grant gu sg) lits ∷ []))
        ≡ pick (many || outside) (refused 3 [])
        (accepted ((count_named 4096 (is_low gu mark) lits + (top_of mark lits - mark)) ∷ count_named 4096 (needs_grant gu sg) lits ∷ []))
    go true outside e = refl
    go false true e = refl
    go false false e =
        let a = plain_count_lem (is_low gu mark) lits (within_of lits 4096 e) in
        let b = plain_count_lem (needs_grant gu sg) lits (within_of lits 4096 e) in
        λ i. accepted ((a i + (top_of mark lits - mark)) ∷ b i ∷ [])

-- ---- what Pose counts

-- no user is named at or above a bound of the literals
unnamed : (lits : List ℕ) (n : ℕ) → Within lits n → (v : ℕ) → n ≤ v → named lits v ≡ false
unnamed lits n w v l = any_intro (λ c. eqb (index_of c) v) lits 0 (λ i k. ne_eqb _ v (let x = w.at i k in λ e. omega arith))

count_capped : (p : ℕ → Bool) (lits : List ℕ) (n : ℕ) → n ≤ 4096 → Within lits n → count_named 4096 p lits ≡ count n (λ v. named lits v && p v)
unfolding count_named
count_capped p lits n l w = count_past (λ v. named lits v && p v) n 4096 l (λ v k. and_not_left (named lits v) (p v) (unnamed lits n w v k))

-- from the watermark up, a user is named or passed exactly below the watermark after
covered : (mark : ℕ) (lits : List ℕ) (v : ℕ) → mark ≤ v → named lits v || is_passed lits v ≡ ltb v (top_of mark lits)
covered mark lits v m = ⊎_elim
    (λ (l : v < top_of mark lits). go l (named lits v || is_passed lits v) refl ∙ sym (lt-ltb v (top_of mark lits) l))
    (λ (l : top_of mark lits ≤ v).
    or_neither
    (any_intro (λ c. eqb (index_of c) v) lits 0 (λ i k. ne_eqb _ v (let x = top_over mark lits i k in λ e. omega arith)))
    (any_intro (λ c. ltb v (index_of c)) lits 0 (λ i k. le-ltb v _ (let x = top_over mark lits i k in omega arith)))
    ∙ sym (le-ltb v (top_of mark lits) l))
    (split v (top_of mark lits))
  where
    below : named lits v || is_passed lits v ≡ false → (i : ℕ) → i < length lits → index_of (get_or lits i 0) < v
    below e i k =
        let a = eqb-false (index_of (get_or lits i 0)) v (any_none (λ c. eqb (index_of c) v) lits i 0 (or_left (named lits v) (is_passed lits v) e) k) in
        let b = ltb-false v (index_of (get_or lits i 0)) (any_none (λ c. ltb v (index_of c)) lits i 0 (or_right (named lits v) (is_passed lits v) e) k) in
        omega arith

    go : v < top_of mark lits → (b : Bool) → named lits v || is_passed lits v ≡ b → b ≡ true
    go l true e = refl
    go l false e = let x = top_tight mark lits v m (below e) in absurd (omega arith)

-- F free, N named, P passed, B below the watermark after
wanted_above : (F N P B : Bool) → (N || P ≡ B) → F ≡ true → F && (N || (true && P)) ≡ (N && (false && F)) || (true && B)
wanted_above F true P B e f = rw f e
wanted_above F false P B e f = rw f e

wanted_below : (F N P B : Bool) → F && (N || (false && P)) ≡ (N && (true && F)) || (false && B)
wanted_below true true P B = refl
wanted_below true false P B = refl
wanted_below false true P B = refl
wanted_below false false P B = refl

module _ (t : Table) (lits : List ℕ) (y : soundb t ≡ true) (w : Within lits t.counts.capacity) where
  sizes : Sizes t
  sizes = (sound_of t y).sizes

  after : ℕ
  after = top_of t.counts.user lits

  -- distinct users to map: those below the watermark, and all from there to the watermark after
  wanted_is : (v : ℕ)
      → wanted t lits v ≡ (named lits v && is_low t.global_from_user t.counts.user v) || (leb t.counts.user v && ltb v after)
  unfolding wanted is_low after
  wanted_is v = ⊎_elim
      (λ (l : v < t.counts.user).
      rw (lt-leb t.counts.user v l, lt-ltb v t.counts.user l)
      (wanted_below (eqb (get_or t.global_from_user v 0) 0) (named lits v) (is_passed lits v) (ltb v after)))
      (λ (l : t.counts.user ≤ v).
      rw (le-leb t.counts.user v l, le-ltb v t.counts.user l)
      (wanted_above (eqb (get_or t.global_from_user v 0) 0) (named lits v) (is_passed lits v) (ltb v after) (covered t.counts.user lits v l)
      (eq-eqb _ 0 ((sound_of t y).user.atail v l))))
      (split v t.counts.user)

  low_apart : (v : ℕ) → named lits v && is_low t.global_from_user t.counts.user v ≡ true → leb t.counts.user v && ltb v after ≡ false
  unfolding is_low
  low_apart v e = ⊎_elim
      (λ (l : v < t.counts.user). rw (lt-leb t.counts.user v l))
      (λ (l : t.counts.user ≤ v). absurd (true≢false (sym e ∙ rw (le-ltb v t.counts.user l) (and_not_right (named lits v) false refl))))
      (split v t.counts.user)

  pub after_most : top_of t.counts.user lits ≤ t.counts.capacity
  after_most = let z = sizes in top_tight t.counts.user lits t.counts.capacity (omega arith) w.at

  pub users_are : count_named 4096 (is_low t.global_from_user t.counts.user) lits + (top_of t.counts.user lits - t.counts.user) ≡ users_to_map t lits
  unfolding users_to_map after
  users_are =
      let z = sizes in
      let n = t.counts.capacity in
      let a =
      count_either n (λ v. named lits v && is_low t.global_from_user t.counts.user v) (λ v. leb t.counts.user v && ltb v after) (wanted t lits)
      wanted_is low_apart in
      let b = count_range n t.counts.user after in
      let d = count_capped (is_low t.global_from_user t.counts.user) lits n (omega arith) w in
      let m = after_most in
      omega arith

  pub grants_are : count_named 4096 (needs_grant t.global_from_user t.solver_from_global) lits ≡ users_to_grant t lits
  unfolding users_to_grant needs_grant is_ungranted
  grants_are = let z = sizes in count_capped (needs_grant t.global_from_user t.solver_from_global) lits t.counts.capacity (omega arith) w

  -- On a sound table the count is the one of refusal 5 (`users_to_map`), and, with `users_to_grant`, of the notes of refusal 2.
  pub counts_posed : length lits ≤ 8192
      → users_by (count_named 4096) t.counts.user t.global_from_user t.solver_from_global lits ≡ accepted (users_to_map t lits ∷ users_to_grant t lits ∷ [])
  unfolding users_by
  counts_posed l =
      let z = sizes in
      rw (le-ltb 8192 (length lits) l, within_none lits 4096 (within_up lits t.counts.capacity 4096 (omega arith) w))
      (λ i. accepted (users_are i ∷ grants_are i ∷ []))

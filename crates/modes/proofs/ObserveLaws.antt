-- The observation of one global, and of all: how many users and notes, and what a turn leaves.
use Prim.Native.Nat.{ℕ, zero, suc, ◌+◌, ◌*◌, ◌≤◌, ◌<◌, max}
use mathlib.Core.Path.{◌≡◌, refl, sym, ap, ◌∙◌, subst}
use mathlib.Core.Bool.{Bool, true, false}
use mathlib.Core.List.{List, []}
use mathlib.Core.Logic.{⊎_elim}
use native.Mathlib.Nat.{eq-or-lt_of_le}
use native.Mathlib.Numerals.{add-one}
use native.Mathlib.Omega.{arith}
use lib.ListN.{length, get_or, set, length-append}
use lib.Seq.{sets}
use Rattle.base.specs.Bounded.{count}
use Rattle.base.proofs.SetsLaws.{sets_append}
use Rattle.base.proofs.CountLaws.{count_none}
use Rattle.scope.specs.Table.{Table, mode_of, record_of, give_user, least_free}
use Rattle.scope.specs.Sound.{Sound}
use Rattle.scope.specs.Outcome.{Result, stay, choose, joined, each}
use Rattle.scope.specs.Map.{next_user}
use Rattle.scope.specs.Modes.{show, is_hidden, observe_one, observe}
use Rattle.scope.proofs.ResultLaws.{each_zero, each_value, each_notes, choose_then, choose_else}
use Rattle.scope.proofs.ModeLaws.{hidden_of, next_user_below, observe_passed}
use Rattle.scope.specs.Cursor.{AllMapped}
use Rattle.changes.specs.Leaves.{Leaves, Room}
use Rattle.changes.specs.Solvers.{solvers_of}
use Rattle.changes.proofs.LeavesLaws.{leaves_stay}
use Rattle.changes.proofs.DeletionLaws.{record_read}
use Rattle.modes.specs.Asks.{ShowAsks, UsersFilled, Observes}
use Rattle.modes.proofs.CursorLaws.{mapped_more}
use Rattle.modes.proofs.HiddenLaws.{one_if, hidden_at, count_next, none_last}

-- ---- how many

-- the users of one more turn
pub values_more : (t : Table) (g : ℕ) → length (each (g + 1) observe_one t).value ≡ length (each g observe_one t).value + length
    (observe_one g (each g observe_one t).table).value
values_more t g = ap length (each_value observe_one t g) ∙ length-append (each g observe_one t).value (observe_one g (each g observe_one t).table).value

one_count : (g : ℕ) (t : Table) → (length (observe_one g t).value ≡ one_if (is_hidden (record_of t g)))
    × (length (observe_one g t).notes ≡ 2 * one_if (is_hidden (record_of t g)))
unfolding observe_one choose show
one_count g t = go (is_hidden (record_of t g))
  where
    go : (b : Bool) → (length (choose b (show g 1 t) (stay [] t)).value ≡ one_if b) × (length (choose b (show g 1 t) (stay [] t)).notes ≡ 2 * one_if b)
    go true = (refl, refl)
    go false = (refl, refl)

-- n hidden globals: n users, 2 n notes
turns_count : (t : Table) → Sound t → (i : ℕ) → (length (each i observe_one t).value ≡ count i (hidden_at t.records))
    × (length (each i observe_one t).notes ≡ 2 * count i (hidden_at t.records))
turns_count t p zero =
    let z = count_none (hidden_at t.records) in
    let a = ap (λ (x : Result (List ℕ)). length x.value) (each_zero observe_one t) in
    let b = ap (λ (x : Result (List ℕ)). length x.notes) (each_zero observe_one t) in
    omega arith
turns_count t p (suc i) =
    let h = turns_count t p i in
    let o = observe_passed t p i in
    let k = one_count i (each i observe_one t).table in
    let r : one_if (is_hidden (record_of (each i observe_one t).table i)) ≡ one_if (hidden_at t.records i) =
    ap (λ (w : ℕ). one_if (is_hidden w)) (o.records i (omega arith)) in
    let n = count_next i (hidden_at t.records) in
    let a = values_more t i in
    let b = ap length (each_notes observe_one t i) ∙ length-append (each i observe_one t).notes (observe_one i (each i observe_one t).table).notes in
    rw (← add-one i) (omega arith)

pub observe_count : (t : Table) → Sound t → (length (observe t).value ≡ count t.counts.global (hidden_at t.records))
    × (length (observe t).notes ≡ 2 * count t.counts.global (hidden_at t.records))
unfolding observe
observe_count t p = turns_count t p t.counts.global

-- without a hidden global nothing is done
turns_stay : (t : Table) (i : ℕ) → count i (hidden_at t.records) ≡ 0 → each i observe_one t ≡ stay [] t
unfolding each observe_one
turns_stay t zero e = refl
turns_stay t (suc i) e =
    let h = none_last i (hidden_at t.records) e in
    ap (λ (x : Result (List ℕ)). joined x (observe_one i)) (turns_stay t i h.0) ∙ choose_else _ _ _ h.1

pub observe_stays : (t : Table) → count t.counts.global (hidden_at t.records) ≡ 0 → observe t ≡ stay [] t
unfolding observe
observe_stays t e = turns_stay t t.counts.global e

-- ---- users in a row

pub filled_none : (t : Table) (words : List ℕ) → UsersFilled (each 0 observe_one t) 0 0 words words
filled_none t words = subst (λ (x : Result (List ℕ)). UsersFilled x 0 0 words words) (sym (each_zero observe_one t)) (record { values = refl; moved = refl })

pub filled_more : (t : Table) (g n next : ℕ) (left : Table) (words words2 words3 : List ℕ) → left ≡ (each g observe_one t).table
    → UsersFilled (each g observe_one t) 0 n words words2 → UsersFilled (observe_one g left) n next words2 words3
    → UsersFilled (each (g + 1) observe_one t) 0 next words words3
filled_more t g n next left words words2 words3 e h k =
    let k2 = subst (λ (s : Table). UsersFilled (observe_one g s) n next words2 words3) e k in
    let xs = (each g observe_one t).value in
    let ys = (observe_one g (each g observe_one t).table).value in
    let a = h.moved in
    let b = k2.moved in
    let l = values_more t g in
    let m : n ≡ 0 + length xs = omega arith in
    record {
      values = k2.values
          ∙ ap (λ (w : List ℕ). sets w n ys) h.values
          ∙ ap (λ (i : ℕ). sets (sets words 0 xs) i ys) m
          ∙ sym (sets_append xs ys words 0)
          ∙ ap (λ (w : List ℕ). sets words 0 w) (sym (each_value observe_one t g));
      moved = omega arith;
    }

-- more turns answer no fewer users
pub values_up : (t : Table) (n m : ℕ) → n ≤ m → length (each n observe_one t).value ≤ length (each m observe_one t).value
unfolding each
values_up t n zero l = let e : n ≡ 0 = omega arith in rw e (omega arith)
values_up t n (suc m) l = ⊎_elim
    (λ (e : n ≡ suc m). rw e (omega arith))
    (λ (k : n < suc m). let x = values_up t n m (omega arith) in simp length-append (omega arith))
    (eq-or-lt_of_le l)

-- ---- one global, of any table with these records

module _ (t : Table) (g : ℕ) (l : g < length t.records) (b : Bool) (e : b ≡ is_hidden (get_or t.records g 0)) where
  hidden_is : is_hidden (record_of t g) ≡ b
  hidden_is = ap is_hidden (sym (record_read t g l)) ∙ sym e

  stays : b ≡ false → observe_one g t ≡ stay [] t
  unfolding observe_one
  stays q = choose_else _ _ _ (hidden_is ∙ q)

  shows : b ≡ true → observe_one g t ≡ show g 1 t
  unfolding observe_one
  shows q = choose_then _ _ _ (hidden_is ∙ q)

  pub stays_leaves : b ≡ false → (at : ℕ) (words : List ℕ) → Leaves (observe_one g t) at at t words words
  stays_leaves q at words = subst (λ (x : Result (List ℕ)). Leaves x at at t words words) (sym (stays q)) (leaves_stay t at words)

  pub stays_filled : b ≡ false → (n : ℕ) (users : List ℕ) → UsersFilled (observe_one g t) n n users users
  stays_filled q n users =
      subst (λ (x : Result (List ℕ)). UsersFilled x n n users users) (sym (stays q)) (record { values = refl; moved = omega arith })

  pub shows_leaves : b ≡ true → (at next : ℕ) (left : Table) (words words2 : List ℕ) → Leaves (show g 1 t) at next left words words2
      → Leaves (observe_one g t) at next left words words2
  shows_leaves q at next left words words2 k = subst (λ (x : Result (List ℕ)). Leaves x at next left words words2) (sym (shows q)) k

  pub shows_filled : b ≡ true → (n u : ℕ) (users : List ℕ) → u ≡ least_free t.global_from_user t.counts.user
      → UsersFilled (observe_one g t) n (n + 1) users (set users n u)
  unfolding show next_user
  shows_filled q n u users p = subst (λ (x : Result (List ℕ)). UsersFilled x n (n + 1) users (set users n u)) (sym (shows q))
      (record { values = ap (λ (v : ℕ). set users n v) p; moved = refl })

-- what a turn asks, and the cursor after it

pub observe_words : (t : Table) (g from n outs : ℕ) → Observes t g from n outs → g < length t.records
observe_words t g from n outs h = let z = h.sound.sizes in let l = h.below in omega arith

module _ (t : Table) (g from n outs : ℕ) (h : Observes t g from n outs) (b : Bool) (e : b ≡ is_hidden (get_or t.records g 0)) (q : b ≡ true) where
  words_there : g < length t.records
  words_there = observe_words t g from n outs h

  hidden_there : (record_of t g < 36) × (mode_of (record_of t g) ≡ 2)
  hidden_there = hidden_of (record_of t g) (hidden_is t g words_there b e ∙ q)

  pub observe_one_asks : (at room : ℕ) → Room (observe_one g t) at room
      → ShowAsks t.counts t.global_from_user t.user_from_global t.records g 1 from at room
  unfolding show
  observe_one_asks at room r =
      let w = (subst (λ (x : Result (List ℕ)). Room x at room) (shows t g words_there b e q) r).words in
      record {
        solvers = solvers_of t;
        shows = record {
          there = record { sound = h.sound; undeleted = hidden_there.0 };
          hidden = hidden_there.1;
          mode = omega arith;
          mapped = h.mapped;
        };
        words = omega arith;
      }

  -- there is a place for the user
  pub one_room : n < outs
  unfolding show
  one_room = let w = h.words in let x = ap (λ (y : Result (List ℕ)). length y.value) (shows t g words_there b e q) in omega arith

  next_below : (u : ℕ) → u ≡ least_free t.global_from_user t.counts.user → u < t.counts.capacity
  unfolding next_user
  next_below u p = let k = next_user_below t g h.sound hidden_there.0 hidden_there.1 in omega arith

  pub one_small : (u : ℕ) → u ≡ least_free t.global_from_user t.counts.user → u < 4096
  one_small u p = let l = next_below u p in let z = h.sound.sizes in omega arith

  pub shows_mapped : (u from2 at next : ℕ) (left : Table) (words words2 : List ℕ) → u ≡ least_free t.global_from_user t.counts.user
      → Leaves (show g 1 t) at next left words words2 → from2 ≡ u + 1
      → AllMapped left.global_from_user left.counts.user from2
  unfolding show give_user next_user
  shows_mapped u from2 at next left words words2 p k d =
      let z = h.sound.sizes in
      let l = next_below u p in
      subst (λ (v : ℕ). AllMapped left.global_from_user left.counts.user v) (sym d)
      (subst (λ (s : Table). AllMapped s.global_from_user s.counts.user (u + 1)) (sym k.table)
      (subst (λ (v : ℕ). AllMapped (set t.global_from_user v (g + 1)) (max t.counts.user (v + 1)) (u + 1)) p
      (mapped_more t.global_from_user t.counts.user u g p (omega arith))))

-- Observe: the refusals, by the tests that the code makes, the loop, and the call.
use Rattle.std.specs.Prelude.{Ok, Err}
use Rattle.std.specs.Prelude as P
use Prim.Native.Nat.{ℕ, ◌+◌, ◌*◌, ◌/◌, ◌≤◌, ◌<◌, ◌^◌}
use mathlib.Core.Path.{◌≡◌, refl, sym, ap, ◌∙◌, subst}
use mathlib.Core.Bool.{Bool, true, false, ◌||◌, not}
use mathlib.Core.List.{List, [], ◌∷◌}
use native.Mathlib.Omega.{arith}
use lib.Dec.{ltb}
use lib.ListN.{length}
use lib.Seq.{sets, length-sets}
use borrow.Author.Tests.{le-ltb, ltb-false, not-false}
use Rattle.base.specs.Bounded.{all_below, count}
use Rattle.base.specs.Answer.{accepted}
use Rattle.base.proofs.CountLaws.{count_most}
use Rattle.base.proofs.MemberLaws.{or_left, or_right}
use Rattle.scope.specs.declared.Counts.{Counts}
use Rattle.scope.specs.Table.{Table}
use Rattle.scope.specs.Sound.{soundb, Sound}
use Rattle.scope.specs.Outcome.{Result, stay, each}
use Rattle.scope.specs.Modes.{observe_one, observe, observe_refusal, observe_of}
use Rattle.scope.specs.Contract.{Does}
use Rattle.scope.proofs.SoundLaws.{sound_of}
use Rattle.scope.proofs.ResultLaws.{past}
use Rattle.scope.proofs.ModeLaws.{Observed as ObservedTable, observe_passed}
use Rattle.scope.specs.Cursor.{AllMapped}
use Rattle.changes.specs.Leaves.{Leaves}
use Rattle.changes.specs.Solvers.{solvers_of}
use Rattle.scope.proofs.CursorLaws.{cursor_start}
use Rattle.changes.proofs.LeavesLaws.{leaves_stay, notes_told, notes_fit}
use Rattle.changes.proofs.TurnLaws.{turns_none, turns_more, turns_room}
use Rattle.changes.proofs.CallLaws.{call_refused, call_accepted, refused_words, accepted_words}
use Rattle.modes.specs.Asks.{UsersFilled, ObservesAll, ObserveAsks, ObserveAllAsks}
use Rattle.scope.specs.declared.Refusal.{Refusal}
use Rattle.scope.specs.declared.Refusal.TheVariants.{Unsound}
use Rattle.scope.specs.Refusals.{number, refused_by}
use Rattle.scope.proofs.RefusedLaws.{number_not_0, refused_err}
use Rattle.modes.specs.Answers.{observed}
use Rattle.modes.proofs.HiddenLaws.{fine, hidden_at, none_fine}
use Rattle.modes.proofs.ObserveLaws.{observe_count, observe_stays, filled_none, filled_more, values_up, values_more}

-- ---- refusals

-- the watermark is within the records
pub mark_words : (t : Table) → soundb t ≡ true → t.counts.global ≤ length t.records
mark_words t y = let z = (sound_of t y).sizes in omega arith

module _ (t : Table) (outs room : ℕ) where
  observe_1 : soundb t ≡ false → 1 ≡ observe_refusal t outs room
  unfolding observe_refusal
  observe_1 n = rw n

  module _ (y : soundb t ≡ true) where
    pub observe_7 : (b : Bool) → b ≡ all_below t.counts.global (fine t.records) → b ≡ false → 7 ≡ observe_refusal t outs room
    unfolding observe_refusal
    observe_7 b e q = rw (y, sym e ∙ q)

    module _ (b : Bool) (e : b ≡ all_below t.counts.global (fine t.records)) (q : b ≡ true) (n : ℕ)
        (k : n ≡ count t.counts.global (hidden_at t.records)) where
      observe_short : (ltb outs (length (observe t).value) || ltb room (3 * length (observe t).notes)) ≡ (ltb outs n || ltb room (6 * n))
      observe_short =
          let x = observe_count t (sound_of t y) in
          let v : length (observe t).value ≡ n = omega arith in
          let w : 3 * length (observe t).notes ≡ 6 * n = omega arith in
          rw (v, w)

      pub observe_2 : ltb outs n || ltb room (6 * n) ≡ true → 2 ≡ observe_refusal t outs room
      unfolding observe_refusal
      observe_2 r = rw (y, sym e ∙ q, observe_short, r)

      pub observe_0 : ltb outs n || ltb room (6 * n) ≡ false → 0 ≡ observe_refusal t outs room
      unfolding observe_refusal
      observe_0 r = rw (y, sym e ∙ q, observe_short, r)

-- ---- the loop

-- a loop that has observed the globals below g
pub record Observing (t : Table) (g from n at : ℕ) (left : Table) (users users2 words words2 : List ℕ) : Type 0 where
  pub leaves : Leaves (each g observe_one t) 0 at left words words2
  pub filled : UsersFilled (each g observe_one t) 0 n users users2
  pub mapped : AllMapped left.global_from_user left.counts.user from

pub observing_none : (t : Table) (from : ℕ) (users words : List ℕ) → AllMapped t.global_from_user t.counts.user from
    → Observing t 0 from 0 0 t users users words words
observing_none t from users words h = record { leaves = turns_none observe_one t words; filled = filled_none t users; mapped = h }

module _ (t : Table) (g from n at : ℕ) (left : Table) (users users2 words words2 : List ℕ) (h : Observing t g from n at left users users2 words words2) where
  pub observing_more : (from2 n2 at2 : ℕ) (left2 : Table) (users3 words3 : List ℕ)
      → Leaves (observe_one g left) at at2 left2 words2 words3
      × (UsersFilled (observe_one g left) n n2 users2 users3 × AllMapped left2.global_from_user left2.counts.user from2)
      → Observing t (g + 1) from2 n2 at2 left2 users users3 words words3
  observing_more from2 n2 at2 left2 users3 words3 k = record {
    leaves = turns_more g observe_one t at at2 left left2 words words2 words3 h.leaves k.0;
    filled = filled_more t g n n2 left users users2 users3 h.leaves.table h.filled k.1.0;
    mapped = k.1.1;
  }

  pub observing_users : length users2 ≡ length users
  observing_users = ap length h.filled.values ∙ length-sets users 0 (each g observe_one t).value

  module _ (start outs room : ℕ) (a : ObservesAll t start outs room) where
    pub observing_asks : outs ≡ length users → room ≡ length words → g < t.counts.global
        → ObserveAsks left.counts left.global_from_user left.user_from_global left.records g from n (length users2) at (length words2)
    unfolding observe
    observing_asks eo er l = record {
      solvers = solvers_of left;
      observes = record {
        sound = subst (λ (s : Table). Sound s) (sym h.leaves.table) o.sound;
        below = below;
        mapped = h.mapped;
        words = room_users;
      };
      words = turns_room g t.counts.global observe_one t at left words words2 (record { words = let w = a.words in omega arith }) l h.leaves;
    }
      where
        o : ObservedTable t g (each g observe_one t).table
        o = observe_passed t a.sound g

        below : g < left.counts.global
        below = let e = ap (λ (s : Table). s.counts.global) h.leaves.table in let k = o.global in omega arith

        room_users : n + length (observe_one g left).value ≤ length users2
        room_users =
            let m = h.filled.moved in
            let u = values_up t (g + 1) t.counts.global (omega arith) in
            let v = values_more t g in
            let w = ap (λ (s : Table). length (observe_one g s).value) h.leaves.table in
            let x = observing_users in
            let y = a.users in
            omega arith

  pub observing_end : g ≡ t.counts.global → Leaves (observe t) 0 at left words words2 × UsersFilled (observe t) 0 n users users2
  unfolding observe
  observing_end e = (
    subst (λ (i : ℕ). Leaves (each i observe_one t) 0 at left words words2) e h.leaves,
    subst (λ (i : ℕ). UsersFilled (each i observe_one t) 0 n users users2) e h.filled,
  )

-- ---- the call

pub observe_refused : {A : Type 0} (t : Table) (x : P.Result A Refusal) (r : Refusal) (users words : List ℕ)
    → refused_by x ≡ observe_refusal t (length users) (length words) → x ≡ Err r
    → Does (observe_of t (length users) (length words)) (observed (Err r) t.counts) t words words
    × (users ≡ sets users 0 (observe_of t (length users) (length words)).words)
unfolding observe_of
observe_refused t x r users words e w =
    let q : number r ≡ observe_refusal t (length users) (length words) = sym (refused_err x r w) ∙ e in (
      call_refused (observe_refusal t (length users) (length words)) (number r) t _ words q (number_not_0 r),
      ap (sets users 0) (sym (refused_words (observe_refusal t (length users) (length words)) (number r) t _ q (number_not_0 r))),
    )

pub observe_unsound : (t : Table) (users words : List ℕ) → soundb t ≡ false
    → Does (observe_of t (length users) (length words)) (observed (Err Unsound) t.counts) t words words
    × (users ≡ sets users 0 (observe_of t (length users) (length words)).words)
observe_unsound t users words n =
    observe_refused {A = Unit {0}} t (Err Unsound) Unsound users words (observe_1 t (length users) (length words) n) refl

module _ (t : Table) (outs room n : ℕ) (e : n ≡ observe_refusal t outs room) (z : n ≡ 0) where
  -- what an accepted call knows, with a cursor
  passed : (from : ℕ) → AllMapped t.global_from_user t.counts.user from → ObservesAll t from outs room
  unfolding observe_refusal
  passed from m =
      let a = past (not (soundb t)) 1 _ (omega arith) (sym e ∙ z) in
      let b = past (not (all_below t.counts.global (fine t.records))) 7 _ (omega arith) a.1 in
      let d = past (ltb outs (length (observe t).value) || ltb room (3 * length (observe t).notes)) 2 0 (omega arith) b.1 in
      record {
        sound = sound_of t (not-false (soundb t) a.0);
        mapped = m;
        users = ltb-false outs (length (observe t).value) (or_left _ _ d.0);
        words = ltb-false room (3 * length (observe t).notes) (or_right (ltb outs (length (observe t).value)) _ d.0);
      }

  pub observe_asks : (from : ℕ) → AllMapped t.global_from_user t.counts.user from
      → ObserveAllAsks t.counts t.global_from_user t.user_from_global t.records from outs room
  observe_asks from m = record { solvers = solvers_of t; observes = passed from m }

  -- both counts fit
  pub observe_fits : (k at : ℕ) (left : Table) (users users2 words words2 : List ℕ) → Leaves (observe t) 0 at left words words2
      × UsersFilled (observe t) 0 k users users2
      → (k < 2 ^ 32) × (at / 3 < 2 ^ 32)
  observe_fits k at left users users2 words words2 h =
      let s = (passed 0 (cursor_start _ _)).sound in
      let x = observe_count t s in
      let m = count_most t.counts.global (hidden_at t.records) in
      let w = s.sizes in
      let b = h.1.moved in
      (omega arith, notes_fit h.0 (omega arith))

  pub observe_does : (k at : ℕ) (d : Counts) (left : Table) (users users2 words words2 : List ℕ) → Leaves (observe t) 0 at left words words2
      × UsersFilled (observe t) 0 k users users2
      → Does (observe_of t outs room) (observed (Ok (record { users = k; counts = d; notes = at / 3 })) d) left words words2 × (users2 ≡ sets users 0 (observe_of t outs room).words)
  unfolding observe_of
  observe_does k at d left users users2 words words2 h =
      let b = h.1.moved in
      let p : k ≡ length (observe t).value = omega arith in
      let q = notes_told h.0 in (
        call_accepted (observe_refusal t outs room) n t _ _ left words words2 e z
            (record { answer = λ i. accepted (p i ∷ q i ∷ []); table = h.0.table; noted = h.0.noted }),
        h.1.values ∙ ap (sets users 0) (sym (accepted_words (observe_refusal t outs room) n t _ e z)),
      )

-- without a hidden global
pub observe_none : (t : Table) (k : ℕ) (users words : List ℕ) → soundb t ≡ true → k ≡ count t.counts.global (hidden_at t.records) → k ≡ 0
    → Does (observe_of t (length users) (length words)) (observed (Ok (record { users = 0; counts = t.counts; notes = 0 })) t.counts) t words words
    × (users ≡ sets users 0 (observe_of t (length users) (length words)).words)
observe_none t k users words y e z = observe_does t (length users) (length words) 0 none_refused refl 0 0 t.counts t users users words words (
  subst (λ (x : Result (List ℕ)). Leaves x 0 0 t words words) (sym stays) (leaves_stay t 0 words),
  subst (λ (x : Result (List ℕ)). UsersFilled x 0 0 users users) (sym stays) (record { values = refl; moved = refl }),
)
  where
    stays : observe t ≡ stay [] t
    stays = observe_stays t (sym e ∙ z)

    none_refused : 0 ≡ observe_refusal t (length users) (length words)
    none_refused = observe_0 t (length users) (length words) y true (sym (none_fine t.records t.counts.global (sym e ∙ z))) refl 0 (sym z ∙ e)
        (rw (le-ltb (length users) 0 (omega arith), le-ltb (length words) 0 (omega arith)))

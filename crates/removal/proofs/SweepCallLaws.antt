-- The loop of a sweep, and the call.
use Rattle.std.specs.Prelude.{Ok, Err, Result}
use Prim.Native.Nat.{ℕ, ◌+◌, ◌*◌, ◌/◌, ◌≤◌, ◌<◌, ◌^◌}
use mathlib.Core.Path.{◌≡◌, refl, sym, ◌∙◌, subst}
use mathlib.Core.Bool.{true, false, not}
use mathlib.Core.List.{List, []}
use native.Mathlib.Omega.{arith}
use lib.Dec.{ltb}
use lib.ListN.{length}
use borrow.Author.Tests.{ltb-false, not-false, lt-ltb, le-ltb}
use Rattle.scope.specs.declared.Counts.{Counts}
use Rattle.scope.specs.Table.{Table}
use Rattle.scope.specs.Sound.{soundb, Sound}
use Rattle.scope.specs.Outcome.{each}
use Rattle.scope.specs.Remove.{sweep_one, sweep, sweep_refusal, sweep_of}
use Rattle.scope.specs.Contract.{Does}
use Rattle.scope.proofs.SoundLaws.{sound_of}
use Rattle.scope.proofs.ResultLaws.{past}
use Rattle.scope.proofs.RemoveLaws.{sweep_passed}
use Rattle.changes.specs.Leaves.{Leaves, Room}
use Rattle.changes.proofs.TurnLaws.{turns_none, turns_more, turns_room}
use Rattle.changes.proofs.CallLaws.{call_refused, call_accepted, call_noted}
use Rattle.removal.specs.Asks.{SweepAsks, SweepAllAsks}
use Rattle.scope.specs.declared.Refusal.{Refusal}
use Rattle.scope.specs.declared.Refusal.TheVariants.{Unsound}
use Rattle.scope.specs.Refusals.{number, refused_by}
use Rattle.scope.proofs.RefusedLaws.{number_not_0, refused_err}
use Rattle.removal.specs.Answers.{removed}
use Rattle.removal.proofs.SweepLaws.{sweep_few, one_notes}
use Rattle.removal.proofs.HeldLaws.{holding_of}

-- ---- the loop

pub sweep_start : (t : Table) (words : List ℕ) → Leaves (each 0 sweep_one t) 0 0 t words words
sweep_start t words = turns_none sweep_one t words

pub sweep_turn : (t : Table) (s at next : ℕ) (left left2 : Table) (words words2 words3 : List ℕ)
    → Leaves (each s sweep_one t) 0 at left words words2 → Leaves (sweep_one s left) at next left2 words2 words3
    → Leaves (each (s + 1) sweep_one t) 0 next left2 words words3
sweep_turn t s at next left left2 words words2 words3 h k = turns_more s sweep_one t at next left left2 words words2 words3 h k

pub sweep_end : (t : Table) (s at : ℕ) (left : Table) (words words2 : List ℕ) → s ≡ t.counts.solver
    → Leaves (each s sweep_one t) 0 at left words words2 → Leaves (sweep t) 0 at left words words2
unfolding sweep
sweep_end t s at left words words2 e h = subst (λ (i : ℕ). Leaves (each i sweep_one t) 0 at left words words2) e h

module _ (t : Table) (y : soundb t ≡ true) (s at : ℕ) (left : Table) (words words2 : List ℕ) (h : Leaves (each s sweep_one t) 0 at left words words2) where
  pub sweep_asks : (room : ℕ) → s < t.counts.solver → Room (sweep t) 0 room → room ≡ length words
      → SweepAsks left.counts left.user_from_global left.solver_from_global left.global_from_solver left.assignment left.records s at
      (length words2)
  unfolding sweep
  sweep_asks room l r e =
      let p = subst (λ (u : Table). Sound u) (sym h.table) (sweep_passed t (sound_of t y) s).sound in
      let n = one_notes s left (λ g q. (holding_of left p s g q).held.live.words) in
      let w = (turns_room s t.counts.solver sweep_one t at left words words2
      (subst (λ (m : ℕ). Room (each t.counts.solver sweep_one t) 0 m) e r) l h).words in
      record { sweepable = holding_of left p s; words = omega arith }

-- ---- the call

module _ (t : Table) (room : ℕ) where
  sweep_1 : soundb t ≡ false → 1 ≡ sweep_refusal t room
  unfolding sweep_refusal
  sweep_1 n = rw n

  module _ (y : soundb t ≡ true) (n : ℕ) (e : n ≡ length (sweep t).notes) where
    pub sweep_2 : room < 3 * n → 2 ≡ sweep_refusal t room
    unfolding sweep_refusal
    sweep_2 l = rw (y, lt-ltb room (3 * length (sweep t).notes) (omega arith))

    pub sweep_0 : 3 * n ≤ room → 0 ≡ sweep_refusal t room
    unfolding sweep_refusal
    sweep_0 l = rw (y, le-ltb room (3 * length (sweep t).notes) (omega arith))

pub sweep_refused : {A : Type 0} (t : Table) (x : Result A Refusal) (r : Refusal) (words : List ℕ)
    → refused_by x ≡ sweep_refusal t (length words) → x ≡ Err r → Does (sweep_of t (length words)) (removed (Err r) t.counts) t words words
unfolding sweep_of
sweep_refused t x r words e w =
    call_refused (sweep_refusal t (length words)) (number r) t _ words (sym (refused_err x r w) ∙ e) (number_not_0 r)

pub sweep_unsound : (t : Table) (words : List ℕ) → soundb t ≡ false → Does (sweep_of t (length words)) (removed (Err Unsound) t.counts) t words words
unfolding sweep_of
sweep_unsound t words n = call_refused _ 1 t _ words (sweep_1 t (length words) n) (λ z. omega arith)

module _ (t : Table) (room n : ℕ) (e : n ≡ sweep_refusal t room) (z : n ≡ 0) where
  passed : (soundb t ≡ true) × (3 * length (sweep t).notes ≤ room)
  unfolding sweep_refusal
  passed =
      let a = past (not (soundb t)) 1 _ (omega arith) (sym e ∙ z) in
      let b = past (ltb room (3 * length (sweep t).notes)) 2 0 (omega arith) a.1 in
      (not-false (soundb t) a.0, ltb-false room (3 * length (sweep t).notes) b.0)

  pub all_asks : SweepAllAsks t.counts t.user_from_global t.solver_from_global t.global_from_solver t.assignment t.records room
  all_asks = let w = passed.1 in record { gu = t.global_from_user; sound = passed.0; words = record { words = omega arith } }

  pub all_fits : (next : ℕ) (left : Table) (words words2 : List ℕ) → Leaves (sweep t) 0 next left words words2 → next / 3 < 2 ^ 32
  all_fits next left words words2 k =
      let m = k.moved in
      let f = sweep_few t (sound_of t passed.0) in
      let s = (sound_of t passed.0).sizes in
      omega arith

  pub sweep_does : (next : ℕ) (d : Counts) (left : Table) (words words2 : List ℕ) → Leaves (sweep t) 0 next left words words2
      → Does (sweep_of t room) (removed (Ok (record { counts = d; notes = next / 3 })) d) left words words2
  unfolding sweep_of
  sweep_does next d left words words2 k =
      call_accepted (sweep_refusal t room) n t _ _ left words words2 e z (call_noted (λ us. []) [] (sweep t) next d left words words2 k refl)

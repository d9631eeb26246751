-- The removal of a held solver index: S(g,-), then D if unused.
use Rattle.std.specs.Prelude.{Some, Ok, Err}
use Rattle.std.specs.Prelude as P
use Prim.Native.Nat.{ℕ, ◌+◌, ◌*◌, ◌/◌, ◌≤◌, ◌<◌, ◌^◌}
use mathlib.Core.Path.{◌≡◌, refl, sym, ap, ◌∙◌, subst}
use mathlib.Core.Bool.{true, false, not}
use mathlib.Core.List.{List, [], ◌∷◌}
use native.Mathlib.Omega.{arith}
use lib.Dec.{eqb, ltb}
use lib.ListN.{length, get_or, set, length-set}
use lib.Seq.{sets}
use borrow.Author.Tests.{ltb-false, not-false}
use Rattle.scope.specs.declared.Counts.{Counts}
use Rattle.scope.specs.declared.Global.{Global}
use Rattle.scope.specs.Table.{Table, table_of, record_of, assumed_of, fresh_record, take_solver, remove_counts}
use Rattle.scope.specs.Sound.{soundb}
use Rattle.scope.specs.Notes.{solver-, notes_words}
use Rattle.scope.specs.Outcome.{Result}
use Rattle.scope.specs.Modes.{delete_if_unused}
use Rattle.scope.specs.Marks.{not_held, holder_of}
use Rattle.scope.specs.Remove.{remove_held, remove, remove_refusal, remove_of}
use Rattle.scope.specs.Contract.{Does}
use Rattle.table.specs.Found.{found_global}
use Rattle.scope.proofs.ResultLaws.{past}
use Rattle.changes.specs.Leaves.{Leaves, Room}
use Rattle.changes.specs.Live.{Live}
use Rattle.changes.proofs.LeavesLaws.{leaves_then}
use Rattle.changes.proofs.DeletionLaws.{delete_any}
use Rattle.changes.proofs.CallLaws.{call_refused, call_accepted, call_noted}
use Rattle.removal.specs.Asks.{RemoveAsks}
use Rattle.scope.specs.declared.Refusal.{Refusal}
use Rattle.scope.specs.declared.Refusal.TheVariants.{Unsound}
use Rattle.scope.specs.Refusals.{number, refused_by}
use Rattle.scope.proofs.RefusedLaws.{number_not_0, refused_err}
use Rattle.removal.specs.Answers.{removed}
use Rattle.removal.proofs.CountingLaws.{removal_notes_lem, removal_few, removal_some}
use Rattle.scope.proofs.MarkLaws.{held_past}
use Rattle.removal.proofs.RefusalLaws.{remove_is, remove_holding, remove_1}

-- S(g,-) alone
abbrev taken : ℕ → ℕ → Table → Result (List ℕ)
taken g s t = record { value = []; table = take_solver g s t; notes = solver- g ∷ [] }

module _ (t : Table) (g s : ℕ) (d : Counts) (sg gs : List ℕ)
    (e : (d ≡ remove_counts t.counts gs) × ((sg ≡ set t.solver_from_global g 0) × (gs ≡ set t.global_from_solver s 0))) where
  mid : Table
  mid = table_of d t.global_from_user t.user_from_global sg gs t.assignment t.records

  mid_is : mid ≡ take_solver g s t
  unfolding mid take_solver
  mid_is =
      let k = e.0 ∙ ap (remove_counts t.counts) e.1.1 in
      λ i. table_of (k i) t.global_from_user t.user_from_global (e.1.0 i) (e.1.1 i) t.assignment t.records

  taken_leaves : (at : ℕ) (words words2 : List ℕ) → words2 ≡ sets words at (1 ∷ g ∷ 0 ∷ []) → Leaves (taken g s t) at (at + 3) mid words words2
  unfolding notes_words
  taken_leaves at words words2 q = record { table = mid_is; noted = q; moved = omega arith }

  pub remove_leaves : (at next past : ℕ) (left : Table) (words words2 words3 : List ℕ) → words2 ≡ sets words at (1 ∷ g ∷ 0 ∷ [])
      → Leaves (delete_if_unused g (table_of d t.global_from_user t.user_from_global sg gs t.assignment t.records)) (at + 3) past left words2 words3
      → next ≡ past → Leaves (remove_held g s t) at next left words words3
  unfolding remove_held mid
  remove_leaves at next past left words words2 words3 q k e =
      subst (λ (n : ℕ). Leaves (remove_held g s t) at n left words words3) (sym e) (leaves_then (delete_if_unused g) (taken_leaves at words words2 q) k)

  pub remove_asks : (at room room2 : ℕ)
      → RemoveAsks t.counts t.user_from_global t.solver_from_global t.global_from_solver t.records g s at room → room2 ≡ room
      → Live d t.user_from_global sg t.records g
      × ((gu2 gs2 a : List ℕ) → Room (delete_if_unused g (table_of d gu2 t.user_from_global sg gs2 a t.records)) (at + 3) room2)
  unfolding remove_held mid
  remove_asks at room room2 h q = (live, delete_any g mid (at + 3) room2 (subst (λ (u : Table). Room (delete_if_unused g u) (at + 3) room2) (sym mid_is) words))
    where
      live : Live d t.user_from_global sg t.records g
      live =
          let l = h.held.live in
          let n : d.used ≡ t.counts.used = ap (λ (k : Counts). k.used) e.0 in
          let m = l.used in
          let x : length sg ≡ length t.solver_from_global = ap length e.1.0 ∙ length-set t.solver_from_global g 0 in
          record { user = l.user; solver = omega arith; words = l.words; small = l.small; undeleted = l.undeleted; used = omega arith }

      words : Room (delete_if_unused g (take_solver g s t)) (at + 3) room2
      words = let a = h.words in let k = removal_notes_lem g s t in record { words = omega arith }

-- there is room for S(g,-)
pub remove_room : (c : Counts) (ug sg gs records : List ℕ) (g s at room : ℕ) → RemoveAsks c ug sg gs records g s at room → at + 3 ≤ room
remove_room c ug sg gs records g s at room h = let a = h.words in let k = removal_some (get_or ug g 0) (get_or records g fresh_record) in omega arith

-- ---- the call

-- what an accepted call knows
pub record Removable (t : Table) (s room : ℕ) : Type 0 where
  pub sound : soundb t ≡ true
  pub words : 3 * length (remove s t).notes ≤ room

pub removable : (t : Table) (s room n : ℕ) → n ≡ remove_refusal t s room → n ≡ 0 → Removable t s room
unfolding remove_refusal not_held
removable t s room n e z =
    let a = past (not (soundb t)) 1 _ (omega arith) (sym e ∙ z) in
    let b = held_past t s _ a.1 in
    let c = past (eqb (assumed_of (record_of t (holder_of t s))) 1) 16 _ (omega arith) b.1 in
    let k = past (ltb room (3 * length (remove s t).notes)) 2 0 (omega arith) c.1 in
    record { sound = not-false (soundb t) a.0; words = ltb-false _ _ k.0 }

module _ (t : Table) (s room : ℕ) (h : Removable t s room) where
  module _ (g : Global) (e : Some g ≡ found_global (get_or t.global_from_solver s 0)) where
    pub held_asks : RemoveAsks t.counts t.user_from_global t.solver_from_global t.global_from_solver t.records g.0 s 0 room
    held_asks =
        let k = remove_holding t s g e h.sound in
        let n = removal_notes_lem g.0 s t in
        let x = ap (λ (y : Result (List ℕ)). length y.notes) (remove_is t s g e) in
        let w = h.words in
        record { held = k.held; words = omega arith }

    -- its notes are at most two
    pub held_fits : (next : ℕ) (left : Table) (words words2 : List ℕ) → Leaves (remove_held g.0 s t) 0 next left words words2 → next / 3 < 2 ^ 32
    held_fits next left words words2 k =
        let m = k.moved in
        let n = removal_notes_lem g.0 s t in
        let b = removal_few (get_or t.user_from_global g.0 0) (record_of t g.0) in
        omega arith

    held_leaves : (next : ℕ) (left : Table) (words words2 : List ℕ) → Leaves (remove_held g.0 s t) 0 next left words words2
        → Leaves (remove s t) 0 next left words words2
    held_leaves next left words words2 k = subst (λ (x : Result (List ℕ)). Leaves x 0 next left words words2) (sym (remove_is t s g e)) k

    pub remove_does : (n next : ℕ) (d : Counts) (left : Table) (words words2 : List ℕ) → n ≡ remove_refusal t s room → n ≡ 0
        → Leaves (remove_held g.0 s t) 0 next left words words2
        → Does (remove_of t s room) (removed (Ok (record { counts = d; notes = next / 3 })) d) left words words2
    unfolding remove_of
    remove_does n next d left words words2 p q k =
        call_accepted (remove_refusal t s room) n t _ _ left words words2 p q
        (call_noted (λ us. []) [] (remove s t) next d left words words2 (held_leaves next left words words2 k) refl)

pub remove_refused : {A : Type 0} (t : Table) (s : ℕ) (x : P.Result A Refusal) (r : Refusal) (words : List ℕ)
    → refused_by x ≡ remove_refusal t s (length words) → x ≡ Err r
    → Does (remove_of t s (length words)) (removed (Err r) t.counts) t words words
unfolding remove_of
remove_refused t s x r words e w =
    call_refused (remove_refusal t s (length words)) (number r) t _ words (sym (refused_err x r w) ∙ e) (number_not_0 r)

pub remove_unsound : (t : Table) (s : ℕ) (words : List ℕ) → soundb t ≡ false
    → Does (remove_of t s (length words)) (removed (Err Unsound) t.counts) t words words
unfolding remove_of
remove_unsound t s words n = call_refused _ 1 t _ words (remove_1 t s (length words) n) (λ z. omega arith)

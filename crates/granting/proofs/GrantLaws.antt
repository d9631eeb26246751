-- Laws of Grant.
use Rattle.std.specs.Prelude.{Option, Some, None, Result, Ok, Err}
use Prim.Native.Nat.{ℕ, zero, suc, ◌+◌, ◌*◌, ◌/◌, ◌^◌, ◌≤◌, ◌<◌}
use mathlib.Core.Path.{◌≡◌, refl, sym, ap, ◌∙◌, subst}
use mathlib.Core.Bool.{Bool, true, false, ◌&&◌, not}
use mathlib.Core.List.{List, [], ◌∷◌}
use native.Mathlib.Omega.{arith}
use lib.Dec.{eqb, ltb, leb}
use lib.ListN.{length, get_or, set}
use lib.Seq.{sets}
use borrow.Author.Tests.{le-ltb, le-leb, lt-leb, ne_eqb, leb-true, leb-false, ltb-false, not-false}
use Rattle.base.specs.Answer.{Answer, accepted, refused}
use Rattle.base.proofs.MemberLaws.{get_d_default}
use Rattle.scope.specs.declared.Counts.{Counts}
use Rattle.scope.specs.declared.Solver.{Solver}
use Rattle.scope.specs.Table.{Table, table_of, word, unit_of, record_of, is_deleted, grant_counts, give_solver, least_free, next_solver}
use Rattle.scope.specs.Sound.{soundb, Sound}
use Rattle.scope.specs.Notes.{notes_words}
use Rattle.scope.specs.Outcome.{short}
use Rattle.scope.specs.Grant.{grant_one, grant, grant_refusal, grant_of}
use Rattle.scope.specs.Contract.{Does}
use Rattle.scope.proofs.SoundLaws.{sound_of}
use Rattle.scope.proofs.PairLaws.{below_mark, pair_flip}
use Rattle.scope.proofs.GrantLaws.{next_solver_below, grant_free, grant_has, to_grant, grant_count}
use Rattle.scope.proofs.ResultLaws.{past, word_none}
use Rattle.table.specs.Found.{found_solver}
use Rattle.table.proofs.FoundLaws.{solver_word, solver_word_lem}
use Rattle.changes.specs.AtOnce.{solver_found, AtOnce}
use Rattle.changes.specs.Leaves.{Leaves}
use Rattle.changes.proofs.LeavesLaws.{leaves_stay}
use Rattle.changes.proofs.AtOnceLaws.{at_once_found, at_once_noted}
use Rattle.changes.proofs.CallLaws.{call_refused, call_accepted, call_noted}
use Rattle.granting.specs.declared.Granted.{Granted}
use Rattle.scope.specs.declared.Refusal.{Refusal}
use Rattle.scope.specs.declared.Refusal.TheVariants.{Unsound}
use Rattle.scope.specs.Refusals.{number, refused_by}
use Rattle.scope.proofs.RefusedLaws.{number_not_0, refused_err, refusal_at, refusal_back}
use Rattle.table.proofs.AnswerLaws.{one_of}
use Rattle.granting.specs.Asks.{GrantAsks}
use Rattle.granting.specs.Answers.{granted}

-- ---- what a fresh grant asks

-- The stored index is the least free one; it is below the capacity, and there is room for a note.
abbrev pub NextAsks : Table → ℕ → ℕ → ℕ → Type 0
NextAsks t g at room =
    (t.counts.solver ≤ length t.global_from_solver)
    × ((t.counts.next ≡ least_free t.global_from_solver t.counts.solver)
    × ((t.counts.next < length t.global_from_solver)
    × ((t.counts.next < length t.assignment)
    × ((t.counts.next < t.counts.capacity)
    × ((g < length t.solver_from_global)
    × ((g < t.counts.capacity)
    × (at + 3 ≤ room)))))))

pub next_asks : (t : Table) (g at room : ℕ) → GrantAsks t g at room → get_or t.solver_from_global g 0 ≡ 0 → NextAsks t g at room
unfolding grant_one next_solver
next_asks t g at room h e =
    let s = sound_of t h.sound in
    let z = s.sizes in
    let n = s.stored.next in
    let f = next_solver_below t g s h.below e in
    let b = h.below in
    let w : at + 3 * 1 ≤ room = rw (grant_free t g e) at h.words in
    (omega arith, (n, (omega arith, (omega arith, (omega arith, (omega arith, (omega arith, omega arith)))))))

-- ---- what it leaves

-- the solver index s went to the global
abbrev pub NextLeft : Table → ℕ → ℕ → ℕ → ℕ → Solver → Counts → ℕ → List ℕ → List ℕ → List ℕ → List ℕ → List ℕ → Type 0
NextLeft t g unit at s solver c next sg gs a notes noted =
    (solver.0 ≡ s)
    × ((c ≡ grant_counts t.counts s g gs)
    × ((next ≡ at + 3)
    × ((sg ≡ set t.solver_from_global g (s + 1))
    × ((gs ≡ set t.global_from_solver s (g + 1))
    × ((a ≡ set t.assignment s unit)
    × (noted ≡ sets notes at (1 ∷ g ∷ (s + 1) ∷ [])))))))

next_leaves : (t : Table) (g at : ℕ) (solver : Solver) (c : Counts) (next : ℕ) (sg gs a notes noted : List ℕ)
    → g < length t.records
    → get_or t.solver_from_global g 0 ≡ 0
    → NextLeft t g (unit_of (get_or t.records g 0)) at (next_solver t) solver c next sg gs a notes noted
    → (solver.0 ≡ (grant g t).value) × Leaves (grant g t) at next (table_of c t.global_from_user t.user_from_global sg gs a t.records) notes noted
unfolding grant_one give_solver notes_words
next_leaves t g at solver c next sg gs a notes noted l e h =
    let u = ap unit_of (get_d_default t.records g 0 47 l) in
    let left = h.1.1.1 in
    rw (grant_free t g e) (
      h.0,
      record {
        table = λ i. table_of ((h.1.0 ∙ ap (λ (x : List ℕ). grant_counts t.counts (next_solver t) g x) left.1.0) i)
            t.global_from_user t.user_from_global (left.0 i) (left.1.0 i)
            ((left.1.1.0 ∙ ap (λ (v : ℕ). set t.assignment (next_solver t) v) u) i) t.records;
        noted = left.1.1.1;
        moved = let x = h.1.1.0 in omega arith;
      },
    )

-- the index held
kept_leaves : (t : Table) (g at s : ℕ) (notes : List ℕ) → get_or t.solver_from_global g 0 ≡ s + 1
    → (s ≡ (grant g t).value) × Leaves (grant g t) at at t notes notes
kept_leaves t g at s notes e = rw (grant_has t g s e) (refl, leaves_stay t at notes)

-- both, whatever the maps of users are
module _ (c : Counts) (sg gs a records : List ℕ) (g at : ℕ) where
  pub next_done : (solver : Solver) (d : Counts) (next : ℕ) (sg2 gs2 a2 notes noted : List ℕ) → g < length records → get_or sg g 0 ≡ 0
      → c.next ≡ least_free gs c.solver
      → NextLeft (table_of c [] [] sg gs a records) g (unit_of (get_or records g 0)) at c.next solver d next sg2 gs2 a2 notes noted
      → ((gu ug : List ℕ) → solver.0 ≡ (grant g (table_of c gu ug sg gs a records)).value)
      × ((gu ug : List ℕ) → Leaves (grant g (table_of c gu ug sg gs a records)) at next (table_of d gu ug sg2 gs2 a2 records) notes noted)
  unfolding next_solver
  next_done solver d next sg2 gs2 a2 notes noted l e q h =
      let k = subst (λ (s : ℕ). NextLeft (table_of c [] [] sg gs a records) g (unit_of (get_or records g 0)) at s solver d next sg2 gs2 a2 notes noted) q h in (
        λ gu ug. (next_leaves (table_of c gu ug sg gs a records) g at solver d next sg2 gs2 a2 notes noted l e k).0,
        λ gu ug. (next_leaves (table_of c gu ug sg gs a records) g at solver d next sg2 gs2 a2 notes noted l e k).1,
      )

  pub kept_done : (s : ℕ) (notes : List ℕ) → get_or sg g 0 ≡ s + 1
      → ((gu ug : List ℕ) → s ≡ (grant g (table_of c gu ug sg gs a records)).value)
      × ((gu ug : List ℕ) → Leaves (grant g (table_of c gu ug sg gs a records)) at at (table_of c gu ug sg gs a records) notes notes)
  kept_done s notes e = (
    λ gu ug. (kept_leaves (table_of c gu ug sg gs a records) g at s notes e).0,
    λ gu ug. (kept_leaves (table_of c gu ug sg gs a records) g at s notes e).1,
  )

pub reads_below : (t : Table) (g at room : ℕ) → GrantAsks t g at room → g < length t.records
reads_below t g at room h = let z = (sound_of t h.sound).sizes in let b = h.below in omega arith

-- ---- refusals

grant_short : (t : Table) (g room : ℕ) → short room (grant g t).notes ≡ eqb (get_or t.solver_from_global g 0) 0 && ltb room 3
unfolding to_grant word
grant_short t g room = ap (λ (n : ℕ). ltb room (3 * n)) (grant_count t g) ∙ go (get_or t.solver_from_global g 0)
  where
    go : (w : ℕ) → ltb room (3 * word 1 (λ s. 0) w) ≡ eqb w 0 && ltb room 3
    go zero = refl
    go (suc s) = rw (ne_eqb (suc s) 0 (λ z. omega arith), le-ltb room 0 (omega arith))

module _ (t : Table) (g room : ℕ) where
  grant_1 : soundb t ≡ false → 1 ≡ grant_refusal t g room
  unfolding grant_refusal
  grant_1 n = rw n

  module _ (y : soundb t ≡ true) where
    pub grant_3 : t.counts.global ≤ g → 3 ≡ grant_refusal t g room
    unfolding grant_refusal
    grant_3 l = rw (y, le-leb t.counts.global g l)

    module _ (l : g < t.counts.global) where
      pub below_records : g < length t.records
      below_records = let z = (sound_of t y).sizes in omega arith

      pub below_solvers : g < length t.solver_from_global
      below_solvers = let z = (sound_of t y).sizes in omega arith

      deleted_is : leb 36 (get_or t.records g 0) ≡ is_deleted (record_of t g)
      deleted_is = ap is_deleted (get_d_default t.records g 0 47 below_records)

      pub grant_6 : 36 ≤ get_or t.records g 0 → 6 ≡ grant_refusal t g room
      unfolding grant_refusal
      grant_6 d = rw (y, lt-leb t.counts.global g l, ← deleted_is, le-leb 36 (get_or t.records g 0) d)

      module _ (d : get_or t.records g 0 < 36) where
        pub grant_2 : eqb (get_or t.solver_from_global g 0) 0 && ltb room 3 ≡ true → 2 ≡ grant_refusal t g room
        unfolding grant_refusal
        grant_2 e = rw (y, lt-leb t.counts.global g l, ← deleted_is, lt-leb 36 (get_or t.records g 0) d, grant_short t g room, e)

        pub grant_0 : eqb (get_or t.solver_from_global g 0) 0 && ltb room 3 ≡ false → 0 ≡ grant_refusal t g room
        unfolding grant_refusal
        grant_0 e = rw (y, lt-leb t.counts.global g l, ← deleted_is, lt-leb 36 (get_or t.records g 0) d, grant_short t g room, e)

-- no refusal is what the grant inside asks
pub grant_asks : (t : Table) (g n room : ℕ) → n ≡ grant_refusal t g room → n ≡ 0 → GrantAsks t g 0 room
unfolding grant_refusal
grant_asks t g n room q e =
    let a = past (not (soundb t)) 1 _ (omega arith) (sym q ∙ e) in
    let b = past (leb t.counts.global g) 3 _ (omega arith) a.1 in
    let d = past (is_deleted (record_of t g)) 6 _ (omega arith) b.1 in
    let f = past (short room (grant g t).notes) 2 0 (omega arith) d.1 in
    record {
      sound = not-false (soundb t) a.0;
      below = leb-false t.counts.global g b.0;
      alive = leb-false 36 (record_of t g) d.0;
      words = let w = ltb-false room (3 * length (grant g t).notes) f.0 in omega arith;
    }

-- its notes are one at most
pub grant_few : (t : Table) (g : ℕ) → length (grant g t).notes < 2 ^ 32
unfolding to_grant word
grant_few t g = let e = grant_count t g in let x = go (get_or t.solver_from_global g 0) in omega arith
  where
    go : (w : ℕ) → word {A = ℕ} 1 (λ s. 0) w ≤ 1
    go zero = omega arith
    go (suc s) = omega arith

-- ---- the call

pub grant_refused : {A : Type 0} (t : Table) (g : ℕ) (x : Result A Refusal) (r : Refusal) (words : List ℕ)
    → refused_by x ≡ grant_refusal t g (length words) → x ≡ Err r → Does (grant_of t g (length words)) (granted (Err r) t.counts) t words words
unfolding grant_of
grant_refused t g x r words q e =
    call_refused (grant_refusal t g (length words)) (number r) t _ words (sym (refused_err x r e) ∙ q) (number_not_0 r)

pub grant_unsound : (t : Table) (g : ℕ) (words : List ℕ) → soundb t ≡ false
    → Does (grant_of t g (length words)) (granted (Err Unsound) t.counts) t words words
grant_unsound t g words n = grant_refused {A = Unit {0}} t g (Err Unsound) Unsound words (grant_1 t g (length words) n) refl

pub grant_done : (t : Table) (g n at : ℕ) (s : Solver) (left : Table) (words words' : List ℕ) → n ≡ grant_refusal t g (length words) → n ≡ 0
    → s.0 ≡ (grant g t).value → Leaves (grant g t) 0 at left words words'
    → Does (grant_of t g (length words)) (granted (Ok (record { solver = s; counts = left.counts; notes = at / 3 })) t.counts) left words words'
unfolding grant_of
grant_done t g n at s left words words' q e v h =
    call_accepted (grant_refusal t g (length words)) n t _ _ left words words' q e
    (call_noted (λ s. s ∷ []) (s.0 ∷ []) (grant g t) at left.counts left words words' h (ap (λ (i : ℕ). i ∷ []) v))

-- The number and the values tell the answer.
abbrev granted_from : Answer → Counts → Result Granted Refusal
granted_from (accepted []) d = Err Unsound
granted_from (accepted (s ∷ [])) d = Err Unsound
granted_from (accepted (s ∷ n ∷ ns)) d = Ok (record { solver = record { 0 = s }; counts = d; notes = n })
granted_from (refused n vs) d = Err (refusal_at n)

granted_back : (c : Counts) (x : Result Granted Refusal) → granted_from (granted x c).answer (granted x c).counts ≡ x
granted_back c (Ok x) = refl
granted_back c (Err r) = ap Err (refusal_back r)

pub granted_one : (x y : Result Granted Refusal) (c : Counts) → granted x c ≡ granted y c → x ≡ y
granted_one x y c = one_of (λ z. granted z c) (λ s. granted_from s.answer s.counts) (granted_back c) x y

-- ---- a solver index held already

-- the holder is below the watermark and not deleted
held_below : (t : Table) (g s : ℕ) → Sound t → get_or t.solver_from_global g 0 ≡ s + 1 → g < t.counts.global
held_below t g s p h = below_mark g s (pair_flip p.solver) h

held_alive : (t : Table) (g s : ℕ) → Sound t → get_or t.solver_from_global g 0 ≡ s + 1 → record_of t g < 36
held_alive t g s p h = go (leb 36 (record_of t g)) refl
  where
    go : (b : Bool) → leb 36 (record_of t g) ≡ b → record_of t g < 36
    go true e = let z = ((p.rows.row g).gone (leb-true 36 (record_of t g) e)).2 in absurd (omega arith)
    go false e = leb-false 36 (record_of t g) e

module _ (t : Table) (g : ℕ) (k : soundb t ≡ true) where
  held_found : (s : ℕ) → get_or t.solver_from_global g 0 ≡ s + 1 → AtOnce (λ room. grant_of t g room) t (s ∷ [])
  unfolding grant_of
  held_found s h =
      let p = sound_of t k in
      let l = held_below t g s p h in
      let d : get_or t.records g 0 < 36 = let a = held_alive t g s p h in let e = get_d_default t.records g 0 47 (below_records t g 0 k l) in omega arith in
      at_once_found (grant_refusal t g) t (grant g t) s
      (λ room. sym (grant_0 t g room k l d (rw (ne_eqb (get_or t.solver_from_global g 0) 0 (λ z. omega arith))))) (grant_has t g s h)

  free_nothing : get_or t.solver_from_global g 0 ≡ 0 → AtOnce (λ room. grant_of t g room) t []
  unfolding grant_of to_grant
  free_nothing h = at_once_noted (grant_refusal t g) t (grant g t) 0 (grant_count t g ∙ word_none 1 (λ s. 0) _ h)

pub grant_at_once : (g : ℕ) (sg : List ℕ) (f : Option Solver) → f ≡ found_solver (get_or sg g 0) → (t : Table) → soundb t ≡ true → t.solver_from_global ≡ sg
    → AtOnce (λ room. grant_of t g room) t (solver_found f)
grant_at_once g sg f e t k p = go f (ap (λ (l : List ℕ). get_or l g 0) p ∙ solver_word_lem (get_or sg g 0) f e)
  where
    go : (f : Option Solver) → get_or t.solver_from_global g 0 ≡ solver_word f → AtOnce (λ room. grant_of t g room) t (solver_found f)
    go (Some s) h = held_found t g k s.0 h
    go None h = free_nothing t g k h

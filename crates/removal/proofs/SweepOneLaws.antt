-- The sweep of one solver index, and its notes, by the tests that the code makes.
use Rattle.std.specs.Prelude.{Some, None}
use Prim.Native.Nat.{ℕ, zero, suc, ◌+◌, ◌*◌, ◌/◌, ◌%◌, ◌≤◌, ◌<◌}
use mathlib.Core.Path.{◌≡◌, refl, sym, ap, ◌∙◌, subst}
use mathlib.Core.Bool.{true, false, ◌&&◌}
use mathlib.Core.Logic.{⊎_elim}
use mathlib.Core.List.{List, []}
use native.Mathlib.Numerals.{add-one}
use native.Mathlib.Omega.{arith}
use lib.Dec.{leb, ltb}
use lib.ListN.{length, get_or, set, length-set}
use borrow.Author.Tests.{lt-leb, le-leb, lt-ltb, le-ltb, eq-eqb, ne_eqb}
use Rattle.base.proofs.Truth.{split}
use lib.Seq.{set-get_or, get_or-set_same}
use Rattle.scope.specs.declared.Counts.{Counts}
use Rattle.scope.specs.declared.Global.{Global}
use Rattle.scope.specs.Table.{Table, table_of, word, record_of, with_unit, put_record}
use Rattle.scope.specs.Outcome.{Result, stay}
use Rattle.scope.specs.Remove.{remove_held, learn, sweep_held, sweep_one}
use Rattle.scope.proofs.ResultLaws.{choose_then, choose_else}
use Rattle.base.proofs.MemberLaws.{get_d_default}
use Rattle.table.specs.Found.{found_global}
use Rattle.table.proofs.FoundLaws.{global_word_lem}
use Rattle.changes.specs.Leaves.{Leaves}
use Rattle.changes.proofs.LeavesLaws.{leaves_stay}
use Rattle.removal.specs.Counting.{removal_notes, learnt, is_loose, swept_notes, notes_by}
use Rattle.removal.specs.Asks.{Holding, RemoveAsks}

-- ---- a record

-- isolated and not assumed is a range
pub loose_range : (w : ℕ) → w < 36 → (leb 9 w && ltb w 18) ≡ is_loose w
loose_range w l = ⊎_elim (λ (k : w < 9). rw (lt-leb 9 w k, ne_eqb (w / 9 % 2) 1 (omega arith)))
    (λ (k : 9 ≤ w). ⊎_elim (λ (m : w < 18). rw (le-leb 9 w k, lt-ltb w 18 m, eq-eqb (w / 9 % 2) 1 (omega arith), eq-eqb (w / 18 % 2) 0 (omega arith)))
    (λ (m : 18 ≤ w). ⊎_elim (λ (n : w < 27). rw (le-leb 9 w k, le-ltb w 18 m, ne_eqb (w / 9 % 2) 1 (omega arith)))
    (λ (n : 27 ≤ w). rw (le-leb 9 w k, le-ltb w 18 m, eq-eqb (w / 9 % 2) 1 (omega arith), ne_eqb (w / 18 % 2) 0 (omega arith))) (split w 27)) (split w 18)) (split w 9)

pub learnt_none : (w v : ℕ) → v ≡ 0 → w ≡ learnt w v
unfolding learnt word
learnt_none w v e = rw e

pub learnt_some : (w v : ℕ) → (v ≡ 0 → ⊥) → w / 18 * 18 + 9 + 3 * v + w % 3 ≡ learnt w v
unfolding learnt word
learnt_some w zero n = absurd (n refl)
learnt_some w (suc v) n = refl

pub learnt_small : (w v : ℕ) → w < 36 → v ≤ 2 → learnt w v < 36
unfolding learnt word
learnt_small w zero l k = l
learnt_small w (suc v) l k = omega arith

-- the global of a held index, as the code reads it
pub learn_asks : (c : Counts) (ug sg gs assignment records : List ℕ) (g s : ℕ) → Holding c ug sg gs assignment records g s
    → (get_or records g 0 < 36) × (get_or assignment s 0 ≤ 2)
learn_asks c ug sg gs assignment records g s h =
    let e = get_d_default records g 0 47 h.held.live.words in
    let l = h.held.live.undeleted in
    (omega arith, h.small)

held : (gs : List ℕ) (s : ℕ) (g : Global) → Some g ≡ found_global (get_or gs s 0) → get_or gs s 0 ≡ suc g.0
held gs s g e = global_word_lem _ (Some g) e ∙ add-one g.0

learnt_is : (assignment records : List ℕ) (g s w : ℕ) → g < length records → w ≡ learnt (get_or records g 0) (get_or assignment s 0)
    → learnt (get_or records g 47) (get_or assignment s 0) ≡ w
learnt_is assignment records g s w l p = ap (λ (r : ℕ). learnt r (get_or assignment s 0)) (sym (get_d_default records g 0 47 l)) ∙ sym p

-- ---- notes

module _ (ug gs assignment records : List ℕ) (s : ℕ) where
  pub notes_none : None ≡ found_global (get_or gs s 0) → 0 ≡ notes_by ug gs assignment records s
  unfolding notes_by word
  notes_none e = rw (global_word_lem (get_or gs s 0) None e)

  module _ (g : Global) (e : Some g ≡ found_global (get_or gs s 0)) (l : g.0 < length records)
      (w : ℕ) (p : w ≡ learnt (get_or records g.0 0) (get_or assignment s 0)) where
    pub notes_kept : is_loose w ≡ false → 0 ≡ notes_by ug gs assignment records s
    unfolding notes_by swept_notes word
    notes_kept b = rw (held gs s g e, learnt_is assignment records g.0 s w l p, b)

    pub notes_removed : is_loose w ≡ true → (n : ℕ) → n ≡ removal_notes (get_or ug g.0 0) w → n ≡ notes_by ug gs assignment records s
    unfolding notes_by swept_notes word
    notes_removed b n q = rw (held gs s g e, learnt_is assignment records g.0 s w l p, b) q

-- what the removal asks once the value is learnt
pub one_asks : (c : Counts) (ug sg gs assignment records : List ℕ) (s : ℕ) (g : Global) → Some g ≡ found_global (get_or gs s 0)
    → Holding c ug sg gs assignment records g.0 s → (w : ℕ) → w ≡ learnt (get_or records g.0 0) (get_or assignment s 0) → is_loose w ≡ true
    → (at room : ℕ) → at + 3 * notes_by ug gs assignment records s ≤ room → RemoveAsks c ug sg gs (set records g.0 w) g.0 s at room
one_asks c ug sg gs assignment records s g e h w p b at room r =
    let l = h.held.live in
    let x = length-set records g.0 w in
    let q = get_or-set_same records g.0 w 47 l.words in
    let i = learnt_is assignment records g.0 s w l.words p in
    let f = learnt_small (get_or records g.0 47) (get_or assignment s 0) l.undeleted h.small in
    let n = notes_removed ug gs assignment records s g e l.words w p b (removal_notes (get_or ug g.0 0) w) refl in
    record {
      held = record {
        live = record { user = l.user; solver = l.solver; words = omega arith; small = l.small; undeleted = omega arith; used = l.used };
        solver = h.held.solver;
        below = h.held.below;
        next = h.held.next;
      };
      words = subst (λ (v : ℕ). at + 3 * removal_notes (get_or ug g.0 0) v ≤ room) (sym q) (omega arith);
    }

-- ---- the sweep

module _ (t : Table) (s at : ℕ) where
  pub one_none : (words : List ℕ) → None ≡ found_global (get_or t.global_from_solver s 0) → Leaves (sweep_one s t) at at t words words
  unfolding sweep_one word
  one_none words e = rw (global_word_lem (get_or t.global_from_solver s 0) None e) (leaves_stay t at words)

  module _ (g : Global) (e : Some g ≡ found_global (get_or t.global_from_solver s 0))
      (h : Holding t.counts t.user_from_global t.solver_from_global t.global_from_solver t.assignment t.records g.0 s)
      (w : ℕ) (p : w ≡ learnt (get_or t.records g.0 0) (get_or t.assignment s 0)) where
    mid : Table
    mid = table_of t.counts t.global_from_user t.user_from_global t.solver_from_global t.global_from_solver t.assignment (set t.records g.0 w)

    -- a value that is none leaves the record
    mid_is : mid ≡ learn g.0 s t
    unfolding mid learn learnt word put_record
    mid_is = ap at_record (sym (learnt_is t.assignment t.records g.0 s w h.held.live.words p)) ∙ go (get_or t.assignment s 0)
      where
        at_record : ℕ → Table
        at_record r = table_of t.counts t.global_from_user t.user_from_global t.solver_from_global t.global_from_solver t.assignment
            (set t.records g.0 r)

        go : (v : ℕ) → at_record (learnt (record_of t g.0) v) ≡ word t (λ i. put_record g.0 (with_unit (record_of t g.0) v) t) v
        go zero = ap (λ (l : List ℕ). table_of t.counts t.global_from_user t.user_from_global t.solver_from_global t.global_from_solver t.assignment l)
            (set-get_or t.records g.0 47)
        go (suc v) = refl

    mid_record : record_of mid g.0 ≡ w
    unfolding mid
    mid_record = get_or-set_same t.records g.0 w 47 h.held.live.words

    -- the sweep of the index is that of its global, on the table that has learnt the value
    one_is : sweep_one s t ≡ sweep_held g.0 s mid
    unfolding sweep_one word
    one_is = ap (λ (k : ℕ). word (stay [] t) (λ i. sweep_held i s (learn i s t)) k) (held t.global_from_solver s g e) ∙ ap (sweep_held g.0 s) (sym mid_is)

    stay_is : is_loose w ≡ false → sweep_one s t ≡ stay [] mid
    unfolding sweep_held
    stay_is b = one_is ∙ choose_else (is_loose (record_of mid g.0)) _ _ (ap is_loose mid_record ∙ b)

    remove_is : is_loose w ≡ true → sweep_one s t ≡ remove_held g.0 s mid
    unfolding sweep_held
    remove_is b = one_is ∙ choose_then (is_loose (record_of mid g.0)) _ _ (ap is_loose mid_record ∙ b)

    pub one_kept : (words : List ℕ) → is_loose w ≡ false
        → Leaves (sweep_one s t) at at (table_of t.counts t.global_from_user t.user_from_global t.solver_from_global t.global_from_solver t.assignment
        (set t.records g.0 w)) words words
    unfolding mid
    one_kept words b = subst (λ (x : Result (List ℕ)). Leaves x at at mid words words) (sym (stay_is b)) (leaves_stay mid at words)

    pub one_removed : (next : ℕ) (left : Table) (words words2 : List ℕ) → is_loose w ≡ true
        → Leaves (remove_held g.0 s (table_of t.counts t.global_from_user t.user_from_global t.solver_from_global t.global_from_solver t.assignment
        (set t.records g.0 w))) at next left words words2
        → Leaves (sweep_one s t) at next left words words2
    unfolding mid
    one_removed next left words words2 b k = subst (λ (x : Result (List ℕ)). Leaves x at next left words words2) (sym (remove_is b)) k

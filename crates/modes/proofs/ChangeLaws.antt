-- A change of mode: C between Sample and Witness; C and U from Hide; U(g,-), and D if unused, to Hide.
use Prim.Native.Nat.{ℕ, ◌+◌, ◌*◌, ◌/◌, ◌-◌, ◌≤◌, ◌<◌, ◌^◌}
use mathlib.Core.Path.{◌≡◌, sym, ap, ◌∙◌, subst}
use mathlib.Core.Bool.{Bool}
use mathlib.Core.List.{List, [], ◌∷◌}
use native.Mathlib.Omega.{arith}
use lib.Dec.{eqb}
use lib.ListN.{length, get_or, set, length-set}
use lib.Seq.{sets, get_or-set_same}
use Rattle.base.specs.Choice.{pick}
use Rattle.base.proofs.SetsLaws.{sets_append}
use Rattle.scope.specs.declared.Counts.{Counts}
use Rattle.scope.specs.Table.{Table, table_of, record_of, with_mode, map_counts, give_user, take_user, put_record, least_free}
use Rattle.scope.specs.Notes.{user-, notes_words}
use Rattle.scope.specs.Outcome.{Result}
use Rattle.scope.specs.Map.{next_user}
use Rattle.scope.specs.Modes.{delete_if_unused, show, hide, change}
use Rattle.scope.proofs.PairLaws.{below_mark}
use Rattle.scope.proofs.MoveLaws.{undeleted_below, used_most}
use Rattle.scope.proofs.ModeLaws.{next_user_below}
use Rattle.changes.specs.Leaves.{Leaves, Room}
use Rattle.changes.specs.Live.{Live}
use Rattle.changes.proofs.LeavesLaws.{leaves_then}
use Rattle.changes.proofs.DeletionLaws.{record_read, delete_any}
use Rattle.modes.specs.Asks.{There, Shows, Hides}
use Rattle.modes.proofs.NotesLaws.{there_live}

mode_read : (t : Table) (g m : ℕ) → g < length t.records → set t.records g (get_or t.records g 0 / 3 * 3 + m) ≡ set t.records g
    (with_mode (record_of t g) m)
mode_read t g m l = ap (λ (r : ℕ). set t.records g (with_mode r m)) (record_read t g l)

-- ---- C

pub change_leaves : (t : Table) (g m : ℕ) (records words words2 : List ℕ) → g < length t.records
    → records ≡ set t.records g (with_mode (get_or t.records g 0) m) → words2 ≡ sets words 0 (3 ∷ g ∷ pick (eqb m 0) 1 0 ∷ [])
    → Leaves (change g m t) 0 3 (table_of t.counts t.global_from_user t.user_from_global t.solver_from_global t.global_from_solver t.assignment
    records) words words2
unfolding change put_record notes_words
change_leaves t g m records words words2 l p q = record {
  table = ap (λ (r : List ℕ). table_of t.counts t.global_from_user t.user_from_global t.solver_from_global t.global_from_solver t.assignment r)
      (p ∙ mode_read t g m l);
  noted = q;
  moved = omega arith;
}

-- ---- C and U

module _ (t : Table) (g m from : ℕ) (h : Shows t g m from) where
  -- user indices never run out first
  pub show_fits : (u : ℕ) → u ≡ least_free t.global_from_user t.counts.user
      → (u < length t.global_from_user) × ((g < length t.user_from_global) × ((g < length t.records)
      × ((u < t.counts.capacity) × ((g < t.counts.capacity) × (t.counts.used + 1 < 2 ^ 32)))))
  unfolding next_user
  show_fits u e =
      let w = h.there in
      let z = w.sound.sizes in
      let l = undeleted_below t g w.sound w.undeleted in
      let k = next_user_below t g w.sound w.undeleted h.hidden in
      let n = used_most t w.sound in
      omega arith

module _ (t : Table) (g m : ℕ) (l : g < length t.records) (u : ℕ) (e : u ≡ least_free t.global_from_user t.counts.user)
    (d : Counts) (gu ug records : List ℕ) (w : ℕ) (a : w ≡ get_or t.records g 0 / 3 * 3 + m)
    (p : (d ≡ map_counts t.counts u g (record_of t g)) × ((gu ≡ set t.global_from_user u (g + 1))
    × ((ug ≡ set t.user_from_global g (u + 1)) × (records ≡ set t.records g w))))
    (b : Bool) (y : b ≡ eqb m 0)
  where
    shown_is : table_of d gu ug t.solver_from_global t.global_from_solver t.assignment records ≡ give_user g u (with_mode (record_of t g) m) t
    unfolding give_user
    shown_is = λ i. table_of (p.0 i) (p.1.0 i) (p.1.1.0 i) t.solver_from_global t.global_from_solver t.assignment
        ((p.1.1.1 ∙ ap (set t.records g) a ∙ mode_read t g m l) i)

    next_user_is : u ≡ next_user t
    unfolding next_user
    next_user_is = e

    pub show_leaves : (at : ℕ) (words words2 words3 : List ℕ) → words2 ≡ sets words at (3 ∷ g ∷ pick b 1 0 ∷ [])
        → words3 ≡ sets words2 (at + 3) (0 ∷ g ∷ (u + 1) ∷ [])
        → Leaves (show g m t) at (at + 6) (table_of d gu ug t.solver_from_global t.global_from_solver t.assignment records) words words3
    unfolding show notes_words
    show_leaves at words words2 words3 q r = record {
      table = shown_is ∙ ap (λ (v : ℕ). give_user g v (with_mode (record_of t g) m) t) next_user_is;
      noted = r
          ∙ ap (λ (l : List ℕ). sets l (at + 3) (0 ∷ g ∷ (u + 1) ∷ [])) (q ∙ ap (λ (v : Bool). sets words at (3 ∷ g ∷ pick v 1 0 ∷ [])) y)
          ∙ sym (sets_append (3 ∷ g ∷ pick (eqb m 0) 1 0 ∷ []) (0 ∷ g ∷ (u + 1) ∷ []) words at)
          ∙ ap (λ (v : ℕ). sets words at (3 ∷ g ∷ pick (eqb m 0) 1 0 ∷ 0 ∷ g ∷ (v + 1) ∷ [])) next_user_is;
      moved = omega arith;
    }

-- ---- U(g,-), and D if unused

-- U(g,-) alone
abbrev withdrawn : ℕ → Table → Result (List ℕ)
withdrawn g t = record { value = []; table = take_user g (get_or t.user_from_global g 0 - 1) (with_mode (record_of t g) 2) t; notes = user- g ∷ [] }

module _ (t : Table) (g : ℕ) where
  pub hide_room : (at room : ℕ) → Room (hide g t) at room → at + 3 ≤ room
  unfolding hide
  hide_room at room r = let a = r.words in omega arith

  module _ (h : Hides t g) where
    pub hide_user : 1 ≤ get_or t.user_from_global g 0
    hide_user = let n = (h.there.sound.rows.row g).seen (h.there.undeleted, h.shown) in omega arith

    pub hide_fits : (get_or t.user_from_global g 0 - 1 < length t.global_from_user) × (g < length t.user_from_global)
    hide_fits =
        let w = h.there in
        let n = hide_user in
        let z = w.sound.sizes in
        let i = (w.sound.user.inverse (get_or t.user_from_global g 0 - 1) g).1 (omega arith) in
        let l = below_mark (get_or t.user_from_global g 0 - 1) g w.sound.user i in
        let k = (there_live t g w).user in
        omega arith

  module _ (l : g < length t.records) (d : Counts) (gu ug : List ℕ) (p : (d ≡ t.counts)
      × ((gu ≡ set t.global_from_user (get_or t.user_from_global g 0 - 1) 0) × (ug ≡ set t.user_from_global g 0))) where
    mid : Table
    mid = table_of d gu ug t.solver_from_global t.global_from_solver t.assignment (set t.records g (get_or t.records g 0 / 3 * 3 + 2))

    mid_is : mid ≡ take_user g (get_or t.user_from_global g 0 - 1) (with_mode (record_of t g) 2) t
    unfolding mid take_user
    mid_is = λ i. table_of (p.0 i) (p.1.0 i) (p.1.1 i) t.solver_from_global t.global_from_solver t.assignment
        (mode_read t g 2 l i)

    withdrawn_leaves : (at : ℕ) (words words2 : List ℕ) → words2 ≡ sets words at (0 ∷ g ∷ 0 ∷ []) → Leaves (withdrawn g t) at (at + 3) mid words words2
    unfolding notes_words
    withdrawn_leaves at words words2 q = record { table = mid_is; noted = q; moved = omega arith }

    pub hide_leaves : (at next : ℕ) (left : Table) (words words2 words3 : List ℕ) → words2 ≡ sets words at (0 ∷ g ∷ 0 ∷ [])
        → Leaves (delete_if_unused g (table_of d gu ug t.solver_from_global t.global_from_solver t.assignment
        (set t.records g (get_or t.records g 0 / 3 * 3 + 2)))) (at + 3) next left words2 words3
        → Leaves (hide g t) at next left words words3
    unfolding hide mid
    hide_leaves at next left words words2 words3 q k = leaves_then (delete_if_unused g) (withdrawn_leaves at words words2 q) k

    live : There t g → Live d ug t.solver_from_global (set t.records g (get_or t.records g 0 / 3 * 3 + 2)) g
    live h =
        let o = there_live t g h in
        let v = o.user in
        let x : length ug ≡ length t.user_from_global = ap length p.1.1 ∙ length-set t.user_from_global g 0 in
        let y = length-set t.records g (get_or t.records g 0 / 3 * 3 + 2) in
        let r = get_or-set_same t.records g (get_or t.records g 0 / 3 * 3 + 2) 47 l in
        let e = record_read t g l in
        let w = o.undeleted in
        let n = o.used in
        let k = ap (λ (b : Counts). b.used) p.0 in
        record { user = omega arith; solver = o.solver; words = omega arith; small = o.small; undeleted = omega arith; used = omega arith }

    pub hide_delete : (at room room2 : ℕ) → There t g → Room (hide g t) at room → room2 ≡ room
        → Live d ug t.solver_from_global (set t.records g (get_or t.records g 0 / 3 * 3 + 2)) g
        × ((gu2 gs a : List ℕ)
        → Room (delete_if_unused g (table_of d gu2 ug t.solver_from_global gs a (set t.records g (get_or t.records g 0 / 3 * 3 + 2)))) (at + 3) room2)
    unfolding hide mid
    hide_delete at room room2 h r q = (
      live h,
      delete_any g mid (at + 3) room2
          (subst (λ (u : Table). Room (delete_if_unused g u) (at + 3) room2) (sym mid_is) (let a = r.words in record { words = omega arith })),
    )

-- Laws of refusal 8, and of the marks and of Assign: that each keeps a table sound.
use Prim.Native.Nat.{ℕ, ◌<◌, ◌≤◌}
use mathlib.Core.Path.{◌≡◌, refl, sym, ap, ◌∙◌}
use mathlib.Core.Logic.{◌≢◌}
use mathlib.Core.Bool.{Bool, true, false, true≢false}
use mathlib.Core.List.{List, []}
use native.Mathlib.Omega.{arith}
use lib.ListN.{get_or}
use Rattle.base.specs.Choice.{pick}
use Rattle.scope.specs.declared.Mark.{Mark}
use Rattle.scope.specs.declared.Mark.TheVariants.{Used, Assumed, Released}
use Rattle.scope.specs.Literals.{index_of}
use Rattle.scope.specs.Table.{Table, record_of, mode_of, assumed_of, put_record, put_value}
use Rattle.scope.specs.Sound.{Sound}
use Rattle.scope.specs.Marks.{not_held, unheld, held_else, lits_held_else, holder_of, marked, mark, true_value}
use Rattle.scope.proofs.PairLaws.{below_mark}
use Rattle.scope.proofs.MoveLaws.{undeleted_below, HoldsAssumed, put_assumed, Path, Reach, reach_one, reach_sound, puts_record, puts_value}
use Rattle.scope.proofs.ResultLaws.{past}
use Rattle.scope.proofs.RemoveLaws.{held_undeleted, holder_holds}

-- ---- 8, for an index

-- where nothing is refused the index is held
pub held_past : (t : Table) (s rest : ℕ) → held_else t s rest ≡ 0 → (not_held t s ≡ false) × (rest ≡ 0)
unfolding held_else
held_past t s rest e = past (not_held t s) 8 rest (omega arith) e

-- a held index is not refused
pub held_else_lem : (t : Table) (s rest : ℕ) → not_held t s ≡ false → held_else t s rest ≡ rest
unfolding held_else
held_else_lem t s rest e = rw e

-- one that is not held is, whatever comes after
pub held_refuses : (t : Table) (s rest : ℕ) → not_held t s ≡ true → (held_else t s 0 ≢ 0) × (held_else t s 0 ≡ held_else t s rest)
unfolding held_else
held_refuses t s rest e = rw e (λ z. omega arith, refl)

-- ---- 8, for literals

pub lits_past : (t : Table) (solver_vars : Bool) (lits : List ℕ) (rest : ℕ) → lits_held_else t solver_vars lits rest ≡ 0
    → (unheld t solver_vars lits ≡ false) × (rest ≡ 0)
unfolding lits_held_else
lits_past t solver_vars lits rest e = past (unheld t solver_vars lits) 8 rest (omega arith) e

pub lits_else : (t : Table) (solver_vars : Bool) (lits : List ℕ) (rest : ℕ) → unheld t solver_vars lits ≡ false → lits_held_else t solver_vars lits rest ≡ rest
unfolding lits_held_else
lits_else t solver_vars lits rest e = rw e

-- refused without the rest, refused with it
pub lits_refuses : (t : Table) (solver_vars : Bool) (lits : List ℕ) (n rest : ℕ) → n ≡ lits_held_else t solver_vars lits 0 → n ≢ 0
    → n ≡ lits_held_else t solver_vars lits rest
unfolding lits_held_else
lits_refuses t solver_vars lits n rest = go (unheld t solver_vars lits)
  where
    go : (b : Bool) → n ≡ pick b 8 0 → n ≢ 0 → n ≡ pick b 8 rest
    go true e h = e
    go false e h = absurd (h e)

-- ---- marks and Assign

-- a mark changes neither the mode nor that the global is undeleted
pub marked_small : (m : Mark) (r : ℕ) → r < 36 → marked m r < 36
marked_small Used r h = omega arith
marked_small Assumed r h = omega arith
marked_small Released r h = omega arith

pub marked_mode : (m : Mark) (r : ℕ) → mode_of (marked m r) ≡ mode_of r
marked_mode Used r = omega arith
marked_mode Assumed r = omega arith
marked_mode Released r = omega arith

-- only a release makes a global no longer assumed
abbrev pub is_release : Mark → Bool
is_release Used = false
is_release Assumed = false
is_release Released = true

marked_assumed : (m : Mark) (r : ℕ) → is_release m ≡ false → assumed_of r ≤ assumed_of (marked m r)
marked_assumed Used r e = omega arith
marked_assumed Assumed r e = omega arith
marked_assumed Released r e = absurd (true≢false e)

pub mark_reach : (t : Table) (m : Mark) (s : ℕ) → Sound t → get_or t.global_from_solver s 0 ≢ 0 → Path (is_release m) t [] (mark m s t)
unfolding mark
mark_reach t m s p n =
    let g = holder_of t s in
    let h = held_undeleted t g s p (holder_holds t s n) in
    let e = marked_mode m (record_of t g) in
    let w = (p.solver.inverse s g).0 (holder_holds t s n) in
    reach_one (puts_record g (marked m (record_of t g))) (record {
      old = h;
      new = marked_small m (record_of t g) h;
      to = λ k q. k (e ∙ q);
      from =
          λ k q. k (sym e ∙ q);
    })
    (λ z. absurd (omega arith)) (marked_assumed m (record_of t g))

-- a mark of another index leaves an index with its assumed global
pub mark_assumes : (t : Table) (m : Mark) (k g s : ℕ) → Sound t → get_or t.global_from_solver k 0 ≢ 0 → k ≢ s → HoldsAssumed t g s
    → HoldsAssumed (mark m k t) g s
unfolding mark put_record
mark_assumes t m k g s p n q a =
    let h = holder_of t k in
    let e = holder_holds t k n in
    let b = undeleted_below t h p (held_undeleted t h k p e) in
    let z = p.sizes in
    let v = (p.solver.inverse k h).0 e in
    let w = (p.solver.inverse s g).0 a.held in
    record {
      held = a.held;
      assumed = put_assumed t h (marked m (record_of t h)) g p (omega arith) a.assumed
          (λ y. let x = ap (λ (i : ℕ). get_or t.solver_from_global i 0) y in absurd (q (omega arith)));
    }

pub mark_sound : (t : Table) (m : Mark) (s : ℕ) → Sound t → get_or t.global_from_solver s 0 ≢ 0 → Sound (mark m s t)
mark_sound t m s p n = reach_sound (mark_reach t m s p n) p

pub assign_reach : (t : Table) (c : ℕ) → Sound t → get_or t.global_from_solver (index_of c) 0 ≢ 0 → Reach t [] (put_value (index_of c) (true_value c) t)
assign_reach t c p n =
    reach_one (puts_value (index_of c) (true_value c)) (below_mark (index_of c) (holder_of t (index_of c)) p.solver (holder_holds t (index_of c) n), omega arith)
    tt (λ e. tt)

pub assign_sound : (t : Table) (c : ℕ) → Sound t → get_or t.global_from_solver (index_of c) 0 ≢ 0 → Sound (put_value (index_of c) (true_value c) t)
assign_sound t c p n = reach_sound (assign_reach t c p n) p

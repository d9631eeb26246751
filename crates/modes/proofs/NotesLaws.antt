-- The number of notes that a change of mode makes is the number told.
use Prim.Native.Nat.{ℕ, suc, ◌%◌, ◌-◌, ◌≤◌}
use mathlib.Core.Path.{◌≡◌, refl, ap, ◌∙◌}
use mathlib.Core.Bool.{Bool, true, false, ◌&&◌}
use mathlib.Core.List.{[]}
use native.Mathlib.Omega.{arith}
use lib.Dec.{eqb}
use lib.ListN.{length, get_or}
use lib.Seq.{get_or-set_same}
use borrow.Author.Tests.{eq-eqb, ne_eqb}
use Rattle.base.specs.Choice.{pick}
use Rattle.scope.specs.Table.{Table, mode_of, isolated_of, record_of, with_mode, take_user}
use Rattle.scope.specs.Outcome.{stay, choose}
use Rattle.scope.specs.Modes.{is_unused, show, hide, change, set_mode}
use Rattle.scope.proofs.MoveLaws.{undeleted_below, used_some}
use Rattle.changes.specs.Live.{Live}
use Rattle.changes.proofs.DeletionLaws.{cleared, delete_count}
use Rattle.modes.specs.Asks.{There}
use Rattle.modes.specs.Counting.{mode_notes}

-- ---- by the tests that the code makes

module _ (solver w m : ℕ) where
  pub notes_same : w % 3 ≡ m → 0 ≡ mode_notes solver w m
  unfolding mode_notes
  notes_same e = rw (eq-eqb _ _ e)

  module _ (n : w % 3 ≡ m → ⊥) where
    pub notes_unused : m ≡ 2 → eqb solver 0 && eqb (isolated_of w) 1 ≡ true → 2 ≡ mode_notes solver w m
    unfolding mode_notes
    notes_unused e b = rw (ne_eqb _ _ n, eq-eqb _ _ e, b)

    pub notes_hide : m ≡ 2 → eqb solver 0 && eqb (isolated_of w) 1 ≡ false → 1 ≡ mode_notes solver w m
    unfolding mode_notes
    notes_hide e b = rw (ne_eqb _ _ n, eq-eqb _ _ e, b)

    pub notes_show : (m ≡ 2 → ⊥) → w % 3 ≡ 2 → 2 ≡ mode_notes solver w m
    unfolding mode_notes
    notes_show k e = rw (ne_eqb _ _ n, ne_eqb _ _ k, eq-eqb _ _ e)

    pub notes_change : (m ≡ 2 → ⊥) → (w % 3 ≡ 2 → ⊥) → 1 ≡ mode_notes solver w m
    unfolding mode_notes
    notes_change k e = rw (ne_eqb _ _ n, ne_eqb _ _ k, ne_eqb _ _ e)

pub mode_notes_few : (solver w m : ℕ) → mode_notes solver w m ≤ 2
unfolding mode_notes
mode_notes_few solver w m = go (eqb (w % 3) m) (eqb m 2) (eqb solver 0 && eqb (isolated_of w) 1) (eqb (w % 3) 2)
  where
    go : (a b d e : Bool) → pick a 0 (pick b (pick d 2 1) (pick e 2 1)) ≤ 2
    go true b d e = omega arith
    go false true true e = omega arith
    go false true false e = omega arith
    go false false d true = omega arith
    go false false d false = omega arith

-- ---- a global that is there

pub there_live : (t : Table) (g : ℕ) → There t g → Live t.counts t.user_from_global t.solver_from_global t.records g
there_live t g h =
    let z = h.sound.sizes in
    let l = undeleted_below t g h.sound h.undeleted in
    record {
      user = omega arith;
      solver = omega arith;
      words = omega arith;
      small = omega arith;
      undeleted = h.undeleted;
      used = used_some t g h.sound h.undeleted;
    }

-- ---- the notes

module _ (t : Table) (g : ℕ) (h : There t g) where
  -- without its user a global is unused if it has no solver index and is isolated
  unused_unnamed : (u : ℕ) → is_unused (take_user g u (with_mode (record_of t g) 2) t) g ≡ eqb (get_or t.solver_from_global g 0) 0 && eqb (isolated_of (record_of t g))
      1
  unfolding is_unused take_user
  unused_unnamed u =
      let r = get_or-set_same t.records g (with_mode (record_of t g) 2) 47 (there_live t g h).words in
      let e : isolated_of (with_mode (record_of t g) 2) ≡ isolated_of (record_of t g) = omega arith in
      rw (cleared t.user_from_global g, r, e)

  hide_notes : length (hide g t).notes ≡ pick (eqb (get_or t.solver_from_global g 0) 0 && eqb (isolated_of (record_of t g)) 1) 2 1
  unfolding hide
  hide_notes =
      ap suc (delete_count g (take_user g (get_or t.user_from_global g 0 - 1) (with_mode (record_of t g) 2) t))
      ∙ ap (λ (b : Bool). suc (pick b 1 0)) (unused_unnamed (get_or t.user_from_global g 0 - 1))
      ∙ go (eqb (get_or t.solver_from_global g 0) 0 && eqb (isolated_of (record_of t g)) 1)
    where
      go : (b : Bool) → suc (pick b 1 0) ≡ pick b 2 1
      go true = refl
      go false = refl

  pub mode_notes_lem : (m : ℕ) → length (set_mode g m t).notes ≡ mode_notes (get_or t.solver_from_global g 0) (record_of t g) m
  unfolding set_mode mode_notes choose show change
  mode_notes_lem m = go (eqb (mode_of (record_of t g)) m) (eqb m 2) (eqb (mode_of (record_of t g)) 2)
    where
      go : (a b d : Bool) → length (choose a (stay [] t) (choose b (hide g t) (choose d (show g m t) (change g m t)))).notes
          ≡ pick a 0 (pick b (pick (eqb (get_or t.solver_from_global g 0) 0 && eqb (isolated_of (record_of t g)) 1) 2 1) (pick d 2 1))
      go true b d = refl
      go false true d = hide_notes
      go false false true = refl
      go false false false = refl

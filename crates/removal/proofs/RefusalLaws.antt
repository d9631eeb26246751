-- The refusals of Remove and of Sweep, by the tests that the code makes.
use Rattle.std.specs.Prelude.{Some, None}
use Prim.Native.Nat.{ℕ, ◌*◌, ◌≤◌, ◌<◌}
use mathlib.Core.Path.{◌≡◌, sym, ap, ◌∙◌}
use mathlib.Core.Bool.{true, false}
use mathlib.Core.List.{List}
use native.Mathlib.Omega.{arith}
use lib.Dec.{eqb}
use lib.ListN.{length, get_or}
use borrow.Author.Tests.{eq-eqb, ne_eqb, lt-ltb, le-ltb}
use Rattle.scope.specs.declared.Global.{Global}
use Rattle.scope.specs.Table.{Table, assumed_of, record_of}
use Rattle.scope.specs.Sound.{soundb}
use Rattle.scope.specs.Outcome.{Result}
use Rattle.scope.specs.Marks.{not_held, held_else, holder_of}
use Rattle.scope.specs.Remove.{remove_held, remove, remove_refusal}
use Rattle.scope.proofs.SoundLaws.{sound_of}
use Rattle.scope.proofs.MarkLaws.{held_else_lem}
use Rattle.table.specs.Found.{found_global}
use Rattle.table.proofs.FoundLaws.{global_word_lem}
use Rattle.changes.proofs.DeletionLaws.{record_read}
use Rattle.removal.specs.Counting.{removal_notes}
use Rattle.removal.specs.Asks.{Holding}
use Rattle.removal.proofs.CountingLaws.{removal_notes_lem}
use Rattle.removal.proofs.HeldLaws.{holding_of}

-- ---- Remove

module _ (t : Table) (s : ℕ) (g : Global) (e : Some g ≡ found_global (get_or t.global_from_solver s 0)) where
  pub remove_is : remove s t ≡ remove_held g.0 s t
  unfolding remove
  remove_is = let q = global_word_lem _ (Some g) e in let z : holder_of t s ≡ g.0 = omega arith in ap (λ (i : ℕ). remove_held i s t) z

  pub remove_holding : soundb t ≡ true
      → Holding t.counts t.user_from_global t.solver_from_global t.global_from_solver t.assignment t.records g.0 s
  remove_holding y = holding_of t (sound_of t y) s g.0 (global_word_lem _ (Some g) e)

  -- the words of the global are there; so is the record of the index's own number, so that a program that reads this one is refused for its answer
  pub remove_reads : soundb t ≡ true → (g.0 < length t.user_from_global) × (g.0 < length t.records) × (s < length t.records)
  remove_reads y =
      let h = remove_holding y in
      let l = h.held.live in
      let k = h.held.solver in
      let z = (sound_of t y).sizes in
      (l.user, l.words, omega arith)

module _ (t : Table) (s room : ℕ) where
  pub remove_1 : soundb t ≡ false → 1 ≡ remove_refusal t s room
  unfolding remove_refusal
  remove_1 n = rw n

  module _ (y : soundb t ≡ true) where
    pub remove_unheld : None ≡ found_global (get_or t.global_from_solver s 0) → 8 ≡ remove_refusal t s room
    unfolding remove_refusal held_else not_held
    remove_unheld e = rw (y, eq-eqb (get_or t.global_from_solver s 0) 0 (global_word_lem _ None e))

    module _ (g : Global) (e : Some g ≡ found_global (get_or t.global_from_solver s 0)) where
      count : length (remove s t).notes ≡ removal_notes (get_or t.user_from_global g.0 0) (get_or t.records g.0 0)
      count =
          ap (λ (x : Result (List ℕ)). length x.notes) (remove_is t s g e)
          ∙ removal_notes_lem g.0 s t
          ∙ ap (removal_notes (get_or t.user_from_global g.0 0)) (sym (record_read t g.0 (remove_holding t s g e y).held.live.words))

      held : eqb (get_or t.global_from_solver s 0) 0 ≡ false
      held = let q = global_word_lem _ (Some g) e in ne_eqb (get_or t.global_from_solver s 0) 0 (λ z. omega arith)

      -- the record that the code reads is that of the holder
      read : get_or t.records g.0 0 ≡ record_of t (holder_of t s)
      read =
          let q = global_word_lem _ (Some g) e in
          let z : g.0 ≡ holder_of t s = omega arith in
          record_read t g.0 (remove_holding t s g e y).held.live.words ∙ ap (record_of t) z

      pub remove_16 : eqb (assumed_of (get_or t.records g.0 0)) 1 ≡ true → 16 ≡ remove_refusal t s room
      unfolding remove_refusal not_held
      remove_16 a = rw y (sym (held_else_lem t s _ held ∙ rw (← read, a)))

      module _ (a : eqb (assumed_of (get_or t.records g.0 0)) 1 ≡ false) (n : ℕ)
          (q : n ≡ removal_notes (get_or t.user_from_global g.0 0) (get_or t.records g.0 0)) where
        unassumed : eqb (assumed_of (record_of t (holder_of t s))) 1 ≡ false
        unassumed = rw (← read) a

        pub remove_2 : room < 3 * n → 2 ≡ remove_refusal t s room
        unfolding remove_refusal not_held
        remove_2 l = let k = count in rw y (sym (held_else_lem t s _ held ∙ rw (unassumed, lt-ltb room (3 * length (remove s t).notes) (omega arith))))

        pub remove_0 : 3 * n ≤ room → 0 ≡ remove_refusal t s room
        unfolding remove_refusal not_held
        remove_0 l = let k = count in rw y (sym (held_else_lem t s _ held ∙ rw (unassumed, le-ltb room (3 * length (remove s t).notes) (omega arith))))

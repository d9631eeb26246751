-- The value of a global and of a user of a sound table, by the words that decide it.
use Prim.Native.Nat.{ℕ, ◌+◌, ◌≤◌, ◌<◌}
use mathlib.Core.Path.{◌≡◌, sym, ◌∙◌}
use mathlib.Core.Bool.{true}
use native.Mathlib.Omega.{arith}
use lib.Dec.{eqb}
use lib.ListN.{length, get_or}
use borrow.Author.Tests.{le-leb, lt-leb, eq-eqb, ne_eqb}
use Rattle.base.specs.Choice.{pick}
use Rattle.base.proofs.MemberLaws.{get_d_default}
use Rattle.scope.specs.Table.{Table, unit_of}
use Rattle.scope.specs.Sound.{soundb}
use Rattle.scope.specs.Models.{global_value}
use Rattle.scope.proofs.SoundLaws.{sound_of}
use Rattle.scope.proofs.PairLaws.{below_mark, pair_flip}
use Rattle.scope.proofs.ResultLaws.{word_none, word_some}
use Rattle.model.specs.Values.{user_value}

-- ---- the words that are read are there

module _ (t : Table) (h : soundb t ≡ true) where
  pub record_there : (g : ℕ) → g < t.counts.global → g < length t.records
  record_there g l = let z = (sound_of t h).sizes in omega arith

  pub solver_there : (g : ℕ) → g < t.counts.global → g < length t.solver_from_global
  solver_there g l = let z = (sound_of t h).sizes in omega arith

  pub user_there : (u : ℕ) → u < t.counts.user → u < length t.global_from_user
  user_there u l = let z = (sound_of t h).sizes in omega arith

  pub value_there : (g s : ℕ) → get_or t.solver_from_global g 0 ≡ s + 1 → s < length t.assignment
  value_there g s e =
      let z = (sound_of t h).sizes in
      let p = (sound_of t h).solver in
      let k = below_mark s g p ((p.inverse s g).1 e) in
      omega arith

  pub value_small : (s : ℕ) → get_or t.assignment s 0 ≤ 2
  value_small = (sound_of t h).values.small

  pub mapped_below : (u g : ℕ) → get_or t.global_from_user u 0 ≡ g + 1 → g < t.counts.global
  mapped_below u g e = let p = (sound_of t h).user in below_mark g u (pair_flip p) ((p.inverse u g).0 e)

  pub mark_small : t.counts.user ≤ 4096
  mark_small = let z = (sound_of t h).sizes in omega arith

-- ---- the value of a global

module _ (t : Table) (g : ℕ) (l : g < length t.records) where
  pub value_deleted : 36 ≤ get_or t.records g 0 → 0 ≡ global_value t g
  unfolding global_value
  value_deleted d = rw (get_d_default t.records g 47 0 l, le-leb 36 (get_or t.records g 0) d)

  module _ (d : get_or t.records g 0 < 36) where
    pub value_held : (s : ℕ) → get_or t.solver_from_global g 0 ≡ s + 1 → get_or t.assignment s 0 ≡ global_value t g
    unfolding global_value
    value_held s e =
        rw (get_d_default t.records g 47 0 l, lt-leb 36 (get_or t.records g 0) d, word_some _ (λ i. get_or t.assignment i 0) (get_or t.solver_from_global g 0) s e)

    module _ (n : get_or t.solver_from_global g 0 ≡ 0) where
      value_unit : pick (eqb (unit_of (get_or t.records g 0)) 0) 1 (unit_of (get_or t.records g 0)) ≡ global_value t g
      unfolding global_value
      value_unit =
          rw (get_d_default t.records g 47 0 l, lt-leb 36 (get_or t.records g 0) d, word_none _ (λ i. get_or t.assignment i 0) (get_or t.solver_from_global g 0) n)

      pub value_false : unit_of (get_or t.records g 0) ≡ 0 → 1 ≡ global_value t g
      value_false e = sym (rw (eq-eqb (unit_of (get_or t.records g 0)) 0 e)) ∙ value_unit

      pub value_own : (unit_of (get_or t.records g 0) ≡ 0 → ⊥) → unit_of (get_or t.records g 0) ≡ global_value t g
      value_own e = sym (rw (ne_eqb (unit_of (get_or t.records g 0)) 0 e)) ∙ value_unit

-- ---- the value of a user

module _ (t : Table) (u : ℕ) where
  pub user_unmapped : get_or t.global_from_user u 0 ≡ 0 → 0 ≡ user_value t u
  unfolding user_value
  user_unmapped e = sym (word_none 0 (global_value t) (get_or t.global_from_user u 0) e)

  pub user_mapped_lem : (g : ℕ) → get_or t.global_from_user u 0 ≡ g + 1 → global_value t g ≡ user_value t u
  unfolding user_value
  user_mapped_lem g e = sym (word_some 0 (global_value t) (get_or t.global_from_user u 0) g e)

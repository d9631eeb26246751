-- The refusals of a step, and of Rename.
use Prim.Native.Nat.{ℕ, ◌≤◌}
use mathlib.Core.Path.{◌≡◌, refl, sym, ◌∙◌}
use mathlib.Core.Bool.{Bool, true, false, ◌||◌, not}
use mathlib.Core.List.{List, [], ◌∷◌}
use native.Mathlib.Omega.{arith}
use lib.Dec.{ltb}
use lib.ListN.{length}
use borrow.Author.Tests.{ltb-false, not-false}
use Rattle.base.specs.Choice.{pick}
use Rattle.base.proofs.MemberLaws.{or_left, or_right}
use Rattle.scope.specs.declared.ProofStep.{ProofStep}
use Rattle.scope.specs.Table.{Table}
use Rattle.scope.specs.Sound.{soundb}
use Rattle.scope.specs.Steps.{literals_of, hashes_of}
use Rattle.scope.specs.Marks.{lits_held_else}
use Rattle.scope.specs.Write.{unmatched, outside, step_refusal, rename_refusal}
use Rattle.scope.proofs.ResultLaws.{past}
use Rattle.scope.proofs.MarkLaws.{lits_past, lits_else, lits_refuses}
use Rattle.steps.specs.Names.{Nameable}
use Rattle.steps.specs.Refusals.{literal_refusal}
use Rattle.steps.proofs.LiteralLaws.{Clear, clear, nameable}
use Rattle.steps.proofs.ChainLaws.{first_some, first_none}

-- ---- 1, 14, 3, 8

module _ (t : Table) (step : ProofStep) (s : Bool) (lits hashes : List ℕ) where
  pub refuse_1 : soundb t ≡ false → 1 ≡ step_refusal t step s lits hashes 0
  unfolding step_refusal
  refuse_1 h = rw h

  pub refuse_14 : soundb t ≡ true → unmatched step lits hashes ≡ true → 14 ≡ step_refusal t step s lits hashes 0
  unfolding step_refusal
  refuse_14 h e = rw (h, e)

  pub refuse_literals : (r : ℕ) → soundb t ≡ true → unmatched step lits hashes ≡ false → r ≡ literal_refusal t s (literals_of step lits)
      → r ≡ step_refusal t step s lits hashes 0
  unfolding step_refusal literal_refusal
  refuse_literals r h e p = rw (h, e) p

  -- those before 8, as a list
  tests : List (Bool × ℕ)
  tests =
      (not (soundb t), 0)
      ∷ (unmatched step lits hashes, 13)
      ∷ (outside t s (literals_of step lits), 2)
      ∷ []

  abbrev held : ℕ → ℕ
  held rest = lits_held_else t s (literals_of step lits) rest

  pub refused_first : (n rest : ℕ) → n ≡ step_refusal t step s lits hashes 0 → (n ≡ 0 → ⊥) → n ≡ step_refusal t step s lits hashes rest
  unfolding step_refusal tests
  refused_first n rest e h = first_some tests n (held 0) (held rest) (λ q. lits_refuses t s (literals_of step lits) n rest q h) e

  pub refused_later : (n rest : ℕ) → n ≡ step_refusal t step s lits hashes 0 → n ≡ 0 → step_refusal t step s lits hashes rest ≡ rest
  unfolding step_refusal tests
  refused_later n rest e z =
      let x = first_none tests (held 0) (held rest) (sym e ∙ z) in
      x.1 ∙ lits_else t s (literals_of step lits) rest (lits_past t s (literals_of step lits) 0 x.0).0

  pub refused_none : (rest : ℕ) → step_refusal t step s lits hashes rest ≡ 0 → (step_refusal t step s lits hashes 0 ≡ 0) × (rest ≡ 0)
  unfolding step_refusal tests
  refused_none rest e =
      let x = first_none tests (held rest) (held 0) e in
      let y = lits_past t s (literals_of step lits) rest x.0 in
      (x.1 ∙ lits_else t s (literals_of step lits) 0 y.0, y.1)

  -- where none applies
  pub record StepClear : Type 0 where
    pub sound : soundb t ≡ true
    pub literals : Clear t s (literals_of step lits)

  pub step_clear : (n : ℕ) → n ≡ step_refusal t step s lits hashes 0 → n ≡ 0 → StepClear
  unfolding step_refusal literal_refusal
  step_clear n e z =
      let p = past (not (soundb t)) 1 _ (omega arith) (sym e ∙ z) in
      let q = past (unmatched step lits hashes) 14 _ (omega arith) p.1 in
      record { sound = not-false (soundb t) p.0; literals = clear t s (literals_of step lits) q.1 }

  -- its literals
  pub step_nameable : StepClear → Nameable t.global_from_solver s (literals_of step lits)
  step_nameable h = nameable t s (literals_of step lits) h.sound h.literals

  -- ---- Rename: 2

  pub rename_first : (a b n : ℕ) → n ≡ step_refusal t step s lits hashes 0 → (n ≡ 0 → ⊥) → n ≡ rename_refusal t step s lits hashes a b
  unfolding rename_refusal
  rename_first a b n e h = refused_first n _ e h

  -- the rooms for what it carries
  abbrev short : ℕ → ℕ → Bool
  short a b = ltb a (length (literals_of step lits)) || ltb b (length (hashes_of step hashes))

  pub rename_short : (a b n : ℕ) → n ≡ step_refusal t step s lits hashes 0 → n ≡ 0 → short a b ≡ true → 2 ≡ rename_refusal t step s lits hashes a b
  unfolding rename_refusal
  rename_short a b n e z h = rw (refused_later n _ e z, h)

  pub rename_pass : (a b n : ℕ) → n ≡ step_refusal t step s lits hashes 0 → n ≡ 0 → short a b ≡ false → 0 ≡ rename_refusal t step s lits hashes a b
  unfolding rename_refusal
  rename_pass a b n e z h = rw (refused_later n _ e z, h)

  pub record RenameClear (a b : ℕ) : Type 0 where
    pub clear : StepClear
    pub room : length (literals_of step lits) ≤ a
    pub hashroom : length (hashes_of step hashes) ≤ b

  pub rename_clear : (a b n : ℕ) → n ≡ rename_refusal t step s lits hashes a b → n ≡ 0 → RenameClear a b
  unfolding rename_refusal
  rename_clear a b n e z =
      let x = ltb a (length (literals_of step lits)) in
      let y = ltb b (length (hashes_of step hashes)) in
      let p = refused_none (pick (x || y) 2 0) (sym e ∙ z) in
      let q = past (x || y) 2 0 (omega arith) p.1 in
      record {
        clear = step_clear 0 (sym p.0) refl;
        room = ltb-false a (length (literals_of step lits)) (or_left x y q.0);
        hashroom = ltb-false b (length (hashes_of step hashes)) (or_right x y q.0);
      }

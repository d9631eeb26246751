-- Rename, Write, Simplify and Simplify binary with a format and a step by number.
use Rattle.std.specs.Prelude.{Some, None}
use Prim.Native.Nat.{ℕ, zero, suc}
use mathlib.Core.Path.{◌≡◌, refl, ap, sym, ◌∙◌}
use mathlib.Core.Bool.{Bool}
use mathlib.Core.List.{List, [], ◌∷◌, ◌++◌}
use Rattle.base.specs.Answer.{accepted}
use Rattle.drat.specs.declared.Format.{Format}
use Rattle.scope.specs.declared.ProofStep.{ProofStep}
use Rattle.scope.specs.Table.{Table}
use Rattle.scope.specs.Steps.{step_words}
use Rattle.scope.specs.Outcome.{Outcome, refusal, unless}
use Rattle.scope.specs.Write.{rename_of, write_of}
use Rattle.scope.specs.Simplify.{simplify_of}
use Rattle.scope.specs.Binary.{binary_of}
use Rattle.numbers.specs.declared.HzStep.{HzStep}
use Rattle.numbers.specs.Numbers.{format_for}
use Rattle.numbers.specs.Surface.{stepped, Given}
use Rattle.numbers.specs.Flat.{stepless}
use Rattle.numbers.specs.Lines.{step_given, rename_at, write_at, simplify_at, binary_at}
use Rattle.numbers.proofs.NumberLaws.{known_is, unknown_is}

module _ (format : ℕ) (step : HzStep) (t : Table) (solver_vars : Bool) (lits hashes : List ℕ) (room : ℕ) where
  pub write_is : {f : Format} {s : ProofStep} → format_for format ≡ Some f → step_given step ≡ Some s
      → write_at format step t solver_vars lits hashes room ≡ write_of f t s solver_vars lits hashes room
  unfolding write_at
  write_is e g = known_is _ _ e ∙ known_is _ _ g

  pub no_write_format : format_for format ≡ None → write_at format step t solver_vars lits hashes room ≡ refusal 4294967295 t
  unfolding write_at
  no_write_format e = unknown_is _ _ e

  pub no_write_step : {f : Format} → format_for format ≡ Some f → step_given step ≡ None
      → write_at format step t solver_vars lits hashes room ≡ refusal 4294967295 t
  unfolding write_at
  no_write_step e g = known_is _ _ e ∙ unknown_is _ _ g

module _ (step : HzStep) (t : Table) (solver_vars : Bool) (lits hashes : List ℕ) (outs hash_outs : ℕ) where
  pub rename_is : {s : ProofStep} → step_given step ≡ Some s
      → rename_at step t solver_vars lits hashes outs hash_outs ≡ rename_of t s solver_vars lits hashes outs hash_outs
  unfolding rename_at
  rename_is e = known_is _ _ e

  pub no_rename_step : step_given step ≡ None → rename_at step t solver_vars lits hashes outs hash_outs ≡ refusal 4294967295 t
  unfolding rename_at
  no_rename_step e = unknown_is _ _ e

module _ (format : ℕ) (t : Table) (lits : List ℕ) (redundant : Bool) (outs room : ℕ) where
  pub simplify_is : {f : Format} → format_for format ≡ Some f → simplify_at format t lits redundant outs room ≡ simplify_of f t lits redundant outs room
  unfolding simplify_at
  simplify_is e = known_is _ _ e

  pub no_simplify_format : format_for format ≡ None → simplify_at format t lits redundant outs room ≡ refusal 4294967295 t
  unfolding simplify_at
  no_simplify_format e = unknown_is _ _ e

module _ (format : ℕ) (t : Table) (lists : List ℕ) (outs room : ℕ) where
  pub binary_is : {f : Format} → format_for format ≡ Some f → binary_at format t lists outs room ≡ binary_of f t lists outs room
  unfolding binary_at
  binary_is e = known_is _ _ e

  pub no_binary_format : format_for format ≡ None → binary_at format t lists outs room ≡ refusal 4294967295 t
  unfolding binary_at
  no_binary_format e = unknown_is _ _ e

-- with the step's words after the two values
stepped_numbers : (k : ℕ) (t : Table) (o : Outcome) {p n m a b : ℕ} {ws : List ℕ} → o.answer ≡ accepted (a ∷ b ∷ ws)
    → p ∷ n ∷ m ∷ [] ≡ stepless (unless k t o).answer → p ∷ n ∷ m ∷ ws ≡ stepped ws (unless k t o).answer
unfolding unless
stepped_numbers zero t o {ws = ws} e h = ap (λ (l : List ℕ). l ++ ws) (h ∙ ap stepless e) ∙ sym (ap (stepped ws) e)
stepped_numbers (suc k) t o {ws = ws} e h = ap (λ (l : List ℕ). l ++ ws) h

-- Rename gives the step back as it was given.
pub stepped_given : (t : Table) (s : ProofStep) (solver_vars : Bool) (lits hashes : List ℕ) (outs hash_outs : ℕ) {k n m : ℕ} {us vs : List ℕ} {left : Table}
    {words words' : List ℕ} → step_words s ≡ us → step_words s ≡ vs
    → Given (rename_of t s solver_vars lits hashes outs hash_outs) stepless (k ∷ n ∷ m ∷ []) left words words'
    → Given (rename_of t s solver_vars lits hashes outs hash_outs) (stepped vs) (k ∷ n ∷ m ∷ us) left words words'
unfolding rename_of
stepped_given t s solver_vars lits hashes outs hash_outs {k = k} {n = n} {m = m} e g h =
    record {
      fields = ap (λ (us : List ℕ). k ∷ n ∷ m ∷ us) (sym e) ∙ stepped_numbers _ _ _ refl h.fields
          ∙ ap (λ (vs : List ℕ). stepped vs (rename_of t s solver_vars lits hashes outs hash_outs).answer) g;
      table = h.table;
      noted = h.noted;
    }

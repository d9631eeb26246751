-- Rename writes no clause step, so demand 3 is silent on the literals that it fills. After every session they are as the ledger would enter
-- them: each solver literal was held, by the notes alone, and goes under its holder with its sign.
use Prim.Native.Nat.{ℕ, zero, suc}
use mathlib.Core.Path.{◌≡◌, refl, ap}
use mathlib.Core.Bool.{Bool, false, not}
use mathlib.Core.List.{List}
use native.Mathlib.Omega.{arith}
use Rattle.base.specs.Answer.{accepted, number_of}
use Rattle.drat.specs.declared.Format.{Format}
use Rattle.scope.specs.declared.ProofStep.{ProofStep}
use Rattle.scope.specs.Table.{Table}
use Rattle.scope.specs.Sound.{soundb}
use Rattle.scope.specs.Steps.{literals_of}
use Rattle.scope.specs.Outcome.{Outcome, unless}
use Rattle.scope.specs.Marks.{unheld}
use Rattle.scope.specs.Write.{unmatched, outside, step_refusal, rename_refusal, rename_of}
use Rattle.scope.proofs.SoundLaws.{sound_of}
use Rattle.scope.proofs.ResultLaws.{past}
use Rattle.session.specs.Ledger.{notes_of, EntersLit, Pairwise}
use Rattle.session.specs.Session.{State, Holds}
use Rattle.scope.proofs.MarkLaws.{lits_past}
use Rattle.session.proofs.EnterLaws.{lits_enter}
use Rattle.session.proofs.LookupLaws.{says_holder}

accepted_none : (n : ℕ) (t : Table) (o : Outcome) (vs : List ℕ) → (unless n t o).answer ≡ accepted vs → n ≡ 0
unfolding unless
accepted_none zero t o vs e = refl
accepted_none (suc n) t o vs e = absurd (let x : suc n ≡ 0 = ap number_of e in omega arith)

-- past refusal 8
all_held : (t : Table) (step : ProofStep) (solver_vars : Bool) (lits hashes : List ℕ) (outs hash_outs : ℕ)
    → rename_refusal t step solver_vars lits hashes outs hash_outs ≡ 0 → unheld t solver_vars (literals_of step lits) ≡ false
unfolding rename_refusal step_refusal
all_held t step solver_vars lits hashes outs hash_outs e =
    let (a, e1) = past (not (soundb t)) 1 _ (omega arith) e in
    let (b, e2) = past (unmatched step lits hashes) 14 _ (omega arith) e1 in
    let (c, e3) = past (outside t solver_vars (literals_of step lits)) 3 _ (omega arith) e2 in
    (lits_past t solver_vars (literals_of step lits) _ e3).0

pub rename_entered : (f : Format) (σ : State) → Holds f σ → (step : ProofStep) (solver_vars : Bool) (lits hashes vs : List ℕ) (outs hash_outs : ℕ)
    → (rename_of σ.table step solver_vars lits hashes outs hash_outs).answer ≡ accepted vs
    → Pairwise (EntersLit (notes_of σ.log) solver_vars) (literals_of step lits) (rename_of σ.table step solver_vars lits hashes outs hash_outs).words
unfolding rename_of unless
rename_entered f σ h step solver_vars lits hashes vs outs hash_outs e =
    let t = σ.table in
    let z = accepted_none (rename_refusal t step solver_vars lits hashes outs hash_outs) t _ vs e in
    let p = sound_of t h.sound in
    rw z
    (lits_enter t (notes_of σ.log) (λ s g q. (h.holder s g).1 ((says_holder t s g p).1 q)) solver_vars (literals_of step lits)
    (all_held t step solver_vars lits hashes outs hash_outs z))

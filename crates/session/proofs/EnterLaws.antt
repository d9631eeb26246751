-- How lines enter. The literals that Write and Simplify rename by the table enter so by notes that tell its holders, past refusal 8; and
-- lines enter as one list of clause steps only.
use Prim.Native.Nat.{ℕ, zero, suc, ◌+◌, ◌-◌, ◌*◌, ◌/◌, ◌%◌}
use mathlib.Core.Path.{◌≡◌, refl, sym, ap₂, ◌∙◌, subst}
use mathlib.Core.Bool.{Bool, true, false}
use mathlib.Core.List.{List, [], ◌∷◌, ◌++◌, map}
use native.Mathlib.Omega.{arith}
use lib.ListN.{get_or}
use borrow.Author.Tests.{eqb-false}
use Rattle.base.specs.Bounded.{any_of}
use Rattle.base.proofs.MemberLaws.{or_left, or_right}
use Rattle.drat.specs.Grammar.{Step, step_of}
use Rattle.drat.specs.declared.Kind.TheVariants.{Add}
use Rattle.scope.specs.declared.ProofStep.{ProofStep}
use Rattle.scope.specs.declared.ProofStep.TheVariants.{AddClause, AtClause, UnitClauses, DeleteClause, Model, Assumptions}
use Rattle.scope.specs.declared.ProofStep.TheVariants.{FailedAssumptions, SolverVarName, UserVarName, DeleteVar, ChangeSamplingMode, ChangeHashBits, End}
use Rattle.scope.specs.Literals.{index_of}
use Rattle.scope.specs.Table.{Table}
use Rattle.scope.specs.Notes.{Note, Held, held_by}
use Rattle.scope.specs.Marks.{not_held, unheld}
use Rattle.scope.specs.Steps.{literals_of, clause_steps}
use Rattle.scope.specs.Write.{rename_lit, rename_lits, holders}
use Rattle.session.specs.Ledger.{Line, line, EntersLit, plus, minus, given, Pairwise, nil, cons, EntersStep, Enters}
use Rattle.session.specs.Entered.{write_lines}
use Rattle.session.proofs.HeldLaws.{held_says}

-- the notes tell the holders of the table
abbrev pub Tell : List Note → Table → Type 0
Tell notes t = (s g : ℕ) → get_or t.global_from_solver s 0 ≡ g + 1 → Held s g notes

-- ---- literals

as_lit : {notes : List Note} {b : Bool} {c d c' d' : ℕ} → c ≡ c' → d ≡ d' → EntersLit notes b c d → EntersLit notes b c' d'
as_lit {notes} {b} {c} {d} {c'} {d'} p q x =
    subst (λ (y : ℕ). EntersLit notes b c' y) q (subst (λ (y : ℕ). EntersLit notes b y d) p x)

lit_enters : (t : Table) (notes : List Note) → Tell notes t → (c : ℕ) → not_held t (index_of c) ≡ false → EntersLit notes true c (rename_lit (holders t) true c)
unfolding not_held
lit_enters t notes h c e = go (c % 2) refl
  where
    held : Held (c / 2) (get_or t.global_from_solver (c / 2) 0 - 1) notes
    held = h (c / 2) (get_or t.global_from_solver (c / 2) 0 - 1) (let n = eqb-false (get_or t.global_from_solver (c / 2) 0) 0 e in omega arith)

    go : (b : ℕ) → c % 2 ≡ b → EntersLit notes true c (rename_lit (holders t) true c)
    go zero q = as_lit (omega arith) (omega arith) (plus held)
    go (suc zero) q = as_lit (omega arith) (omega arith) (minus held)
    go (suc (suc b)) q = absurd (omega arith)

pub solver_lits : (t : Table) (notes : List Note) → Tell notes t → (lits : List ℕ) → any_of (λ c. not_held t (index_of c)) lits ≡ false
    → Pairwise (EntersLit notes true) lits (rename_lits (holders t) true lits)
unfolding any_of rename_lits
solver_lits t notes h [] e = nil
solver_lits t notes h (c ∷ lits) e =
    cons (lit_enters t notes h c (or_left (not_held t (index_of c)) _ e)) (solver_lits t notes h lits (or_right (not_held t (index_of c)) _ e))

global_lits : (h : ℕ → ℕ) (notes : List Note) (lits : List ℕ) → Pairwise (EntersLit notes false) lits (rename_lits h false lits)
unfolding rename_lits
global_lits h notes [] = nil
global_lits h notes (c ∷ lits) = cons given (global_lits h notes lits)

pub lits_enter : (t : Table) (notes : List Note) → Tell notes t → (solver_vars : Bool) (lits : List ℕ) → unheld t solver_vars lits ≡ false
    → Pairwise (EntersLit notes solver_vars) lits (rename_lits (holders t) solver_vars lits)
unfolding unheld
lits_enter t notes h true lits e = solver_lits t notes h lits e
lits_enter t notes h false lits e = global_lits (holders t) notes lits

-- ---- the clause steps of Write

units_enter : (notes : List Note) (solver_vars : Bool) {lits ds : List ℕ} → Pairwise (EntersLit notes solver_vars) lits ds
    → Enters (map (λ c. line Add solver_vars (c ∷ []) notes) lits) (map (λ c. step_of Add (c ∷ [])) ds)
units_enter notes solver_vars nil = nil
units_enter notes solver_vars (cons x xs) = cons (record { kind = refl; lits = cons x nil }) (units_enter notes solver_vars xs)

pub write_enters : (notes : List Note) (step : ProofStep) (solver_vars : Bool) (lits ds : List ℕ)
    → Pairwise (EntersLit notes solver_vars) (literals_of step lits) ds → Enters (write_lines step solver_vars lits notes) (clause_steps step ds)
write_enters notes AddClause solver_vars lits ds h = nil
write_enters notes (AtClause redundant) solver_vars lits ds h = cons (record { kind = refl; lits = h }) nil
write_enters notes UnitClauses solver_vars lits ds h = units_enter notes solver_vars h
write_enters notes (DeleteClause cause) solver_vars lits ds h = cons (record { kind = refl; lits = h }) nil
write_enters notes Model solver_vars lits ds h = nil
write_enters notes Assumptions solver_vars lits ds h = nil
write_enters notes FailedAssumptions solver_vars lits ds h = nil
write_enters notes (SolverVarName g s) solver_vars lits ds h = nil
write_enters notes (UserVarName g u) solver_vars lits ds h = nil
write_enters notes (DeleteVar g) solver_vars lits ds h = nil
write_enters notes (ChangeSamplingMode g sample) solver_vars lits ds h = nil
write_enters notes (ChangeHashBits bits) solver_vars lits ds h = nil
write_enters notes End solver_vars lits ds h = nil

-- ---- lists of lines

pub enters_append : {ls ms : List Line} {ss us : List Step} → Enters ls ss → Enters ms us → Enters (ls ++ ms) (ss ++ us)
enters_append nil h = h
enters_append (cons x xs) h = cons x (enters_append xs h)

-- a literal enters as one literal only
lit_once : {notes : List Note} {b : Bool} {c d : ℕ} → EntersLit notes b c d → d ≡ rename_lit (held_by notes) b c
lit_once {notes} (plus {s = s} {g = g} h) = let e = (held_says s g notes).0 h in let i : 2 * s / 2 ≡ s = omega arith in rw (i, e) (omega arith)
lit_once {notes} (minus {s = s} {g = g} h) = let e = (held_says s g notes).0 h in let i : (2 * s + 1) / 2 ≡ s = omega arith in rw (i, e) (omega arith)
lit_once given = refl

lits_once : {notes : List Note} {b : Bool} {cs ds : List ℕ} → Pairwise (EntersLit notes b) cs ds → ds ≡ rename_lits (held_by notes) b cs
unfolding rename_lits
lits_once nil = refl
lits_once (cons x xs) = ap₂ (λ (d : ℕ) (ds : List ℕ). d ∷ ds) (lit_once x) (lits_once xs)

step_once : {l : Line} {s : Step} → EntersStep l s → s ≡ step_of l.kind (rename_lits (held_by l.notes) l.solver_vars l.lits)
step_once h = ap₂ (λ k (ds : List ℕ). step_of k ds) h.kind (lits_once h.lits)

-- lines enter as one list of clause steps only
pub enters_once : {ls : List Line} {ss us : List Step} → Enters ls ss → Enters ls us → us ≡ ss
enters_once nil nil = refl
enters_once (cons x xs) (cons y ys) = ap₂ (λ (s : Step) (ss : List Step). s ∷ ss) (step_once y ∙ sym (step_once x)) (enters_once xs ys)

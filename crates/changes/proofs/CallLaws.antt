-- A call refuses, or does what its operation leaves.
use Prim.Native.Nat.{ℕ, zero, suc, ◌/◌}
use mathlib.Core.Path.{◌≡◌, refl, sym, ap, ◌∙◌}
use mathlib.Core.List.{List, [], ◌∷◌, ◌++◌}
use Rattle.base.specs.Answer.{accepted, refused}
use Rattle.scope.specs.declared.Counts.{Counts}
use Rattle.scope.specs.Table.{Table}
use Rattle.scope.specs.Notes.{notes_words}
use Rattle.scope.specs.Outcome.{Result, Outcome, unless, noting}
use Rattle.scope.specs.Contract.{Said, Does}
use Rattle.scope.proofs.ResultLaws.{unless_some, unless_none}
use Rattle.changes.specs.Leaves.{Leaves}
use Rattle.changes.proofs.LeavesLaws.{notes_told}

-- A refusal changes nothing.
pub call_refused : (n k : ℕ) (t : Table) (o : Outcome) (words : List ℕ) → k ≡ n → (k ≡ 0 → ⊥)
    → Does (unless n t o) (record { answer = refused k []; counts = t.counts }) t words words
unfolding unless notes_words
call_refused zero k t o words e h = absurd (h e)
call_refused (suc n) k t o words e h = record { answer = ap (λ (i : ℕ). refused i []) e; table = refl; noted = refl }

-- Where none applies the call is accepted.
pub call_accepted : (n k : ℕ) (t : Table) (o : Outcome) (said : Said) (left : Table) (words words2 : List ℕ) → k ≡ n → k ≡ 0
    → Does o said left words words2 → Does (unless n t o) said left words words2
unfolding unless
call_accepted n k t o said left words words2 e h d = rw (sym e ∙ h) d

-- An accepted call that fills notes only, and answers values vs and how many notes there are.
pub call_noted : {A : Type 0} (values : A → List ℕ) (vs : List ℕ) (x : Result A) (next : ℕ) (d : Counts) (left : Table) (words words2 : List ℕ)
    → Leaves x 0 next left words words2 → vs ≡ values x.value
    → Does (noting values x) (record { answer = accepted (vs ++ (next / 3 ∷ [])); counts = d }) left words words2
call_noted values vs x next d left words words2 h e =
    record {
      answer = ap (λ (l : List ℕ). accepted (l ++ (next / 3 ∷ []))) e ∙ ap (λ (i : ℕ). accepted (values x.value ++ (i ∷ []))) (notes_told h);
      table = h.table;
      noted = h.noted;
    }

-- What a call fills into another slice.
pub refused_words : (n k : ℕ) (t : Table) (o : Outcome) → k ≡ n → (k ≡ 0 → ⊥) → (unless n t o).words ≡ []
refused_words n k t o e h = ap (λ (x : Outcome). x.words) (unless_some k n t o e h)

pub accepted_words : (n k : ℕ) (t : Table) (o : Outcome) → k ≡ n → k ≡ 0 → (unless n t o).words ≡ o.words
accepted_words n k t o e h = ap (λ (x : Outcome). x.words) (unless_none n t o (sym e ∙ h))

-- A call that makes no notes: what its refusal and its accepted outcome say of the answer and of the lent memory.
use Prim.Native.Nat.{ℕ}
use mathlib.Core.Path.{◌≡◌, refl, sym, ap, ◌∙◌}
use mathlib.Core.List.{List, []}
use lib.Seq.{sets}
use Rattle.scope.specs.Table.{Table}
use Rattle.scope.specs.Notes.{Note, notes_words}
use Rattle.scope.specs.Outcome.{Outcome, refusal}
use Rattle.scope.specs.Contract.{Said, Does}

-- what a call tells that comes to the outcome o, with three further slices before (a, b, d) and after (x, y, z)
pub record Told (o : Outcome) (said : Said) (left : Table) (a b d x y z : List ℕ) : Type 0 where
  pub does : Does o said left [] []
  pub words : x ≡ sets a 0 o.words
  pub more : y ≡ sets b 0 o.more
  pub bytes : z ≡ sets d 0 o.bytes

pub told : (o p : Outcome) (said : Said) (left : Table) (a b d x y z : List ℕ) → o ≡ p → p.notes ≡ [] → said.answer ≡ p.answer → left ≡ p.table
    → x ≡ sets a 0 p.words → y ≡ sets b 0 p.more → z ≡ sets d 0 p.bytes → Told o said left a b d x y z
unfolding notes_words
told o p said left a b d x y z e n q r u v w =
    record {
      does = record {
        answer = q ∙ sym (ap (λ (k : Outcome). k.answer) e);
        table = r ∙ sym (ap (λ (k : Outcome). k.table) e);
        noted = sym (ap (λ (k : Outcome). sets [] 0 (notes_words k.notes)) e ∙ ap (λ (ns : List Note). sets [] 0 (notes_words ns)) n);
      };
      words = u ∙ sym (ap (λ (k : Outcome). sets a 0 k.words) e);
      more = v ∙ sym (ap (λ (k : Outcome). sets b 0 k.more) e);
      bytes = w ∙ sym (ap (λ (k : Outcome). sets d 0 k.bytes) e);
    }

-- a refusal leaves all memory as it was
pub told_refusal : (o : Outcome) (n : ℕ) (t : Table) (said : Said) (a b d : List ℕ) → o ≡ refusal n t → said.answer ≡ (refusal n t).answer
    → Told o said t a b d a b d
told_refusal o n t said a b d e q = told o (refusal n t) said t a b d a b d e refl q refl refl refl refl

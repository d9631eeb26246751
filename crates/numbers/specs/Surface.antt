-- How an answer stands in numbers on the C surface: one list, the fields of its struct but for the counts, in their order (a step comes last).
-- A flag is 1 or 0. A layout gives that list of any answer, accepted or refused; it begins with the refusal's number, 0 for none.
use Rattle.std.specs.Prelude.{ℕ, ◌≡◌, List, [], ◌∷◌, eqb, length, replicate, get_or}
use Rattle.std.proofs.lemmas.List.Edits.{sets}
use Rattle.base.specs.Choice.{pick}
use Rattle.base.specs.Answer.{Answer, accepted, refused}
use Rattle.scope.specs.declared.Counts.{Counts}
use Rattle.scope.specs.Table.{Table}
use Rattle.scope.specs.Notes.{notes_words}
use Rattle.scope.specs.Outcome.{Outcome}
use Rattle.scope.specs.Contract.{Memory}

-- ---- layouts

-- n values; n zeros with a refusal
abbrev pub plain : ℕ → Answer → List ℕ
plain n (accepted vs) = 0 ∷ vs
plain n (refused k ps) = k ∷ replicate n 0

-- n values, and before them one that may be missing: a flag says whether it is there, and where it is not it is 0
abbrev pub optional : ℕ → Answer → List ℕ
optional n (accepted vs) = 0 ∷ pick (eqb (length vs) n) (0 ∷ 0 ∷ vs) (1 ∷ vs)
optional n (refused k ps) = k ∷ 0 ∷ 0 ∷ replicate n 0

-- a place, which goes with a refusal and else is 0, and n values
abbrev pub located : ℕ → Answer → List ℕ
located n (accepted vs) = 0 ∷ 0 ∷ vs
located n (refused k ps) = k ∷ get_or ps 0 0 ∷ replicate n 0

-- of Rename: two values and a step in words, which a refused call gives back too
abbrev pub stepped : List ℕ → Answer → List ℕ
stepped step (accepted vs) = 0 ∷ vs
stepped step (refused k ps) = k ∷ 0 ∷ 0 ∷ step

-- of the first step alone: its place i, and the number of the bytes answered; and these bytes
abbrev pub placed : ℕ → Answer → List ℕ
placed i (accepted bs) = 0 ∷ i ∷ length bs ∷ []
placed i (refused k ps) = k ∷ i ∷ 0 ∷ []

abbrev pub part_of : Answer → List ℕ
part_of (accepted bs) = bs
part_of (refused k ps) = []

-- ---- calls

-- An outcome told in numbers ns by a layout, with the table t that is left, and the words lent for notes, before and after.
pub record Given (o : Outcome) (layout : Answer → List ℕ) (ns : List ℕ) (t : Table) (words words' : List ℕ) : Type 0 where
  pub fields : ns ≡ layout o.answer
  pub table : t ≡ o.table
  pub noted : words' ≡ sets words 0 (notes_words o.notes)

-- A call with this memory gives the numbers ns and the counts d that the definition f has.
abbrev pub Gives : (Table → ℕ → Outcome) → (Answer → List ℕ) → List ℕ → Counts → Memory → Type 0
Gives f layout ns d m = Given (f m.table (length m.notes)) layout ns (m.leaves d) m.notes m.noted

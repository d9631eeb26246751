-- The calls of the reader: what they answer, and what the lent slices then hold.
use Rattle.std.specs.Prelude.{ℕ, ◌+◌, List, [], ◌∷◌, ◌++◌, ◌≡◌, ◌||◌, ltb, length, drop}
use Rattle.std.proofs.lemmas.List.Edits.{sets}
use Rattle.base.specs.Choice.{pick}
use Rattle.base.specs.Answer.{Answer, accepted, refused}
use Rattle.drat.specs.Grammar.{Step}
use Rattle.drat.specs.Reading.{lead, One, got, fault, one_step, Proof, steps, fault_at, read_proof}
use Rattle.drat.specs.Writing.{part}
use Rattle.drat.specs.declared.ReadError.{ReadError}
use Rattle.drat.specs.declared.ReadError.TheVariants.{NotWhole, Room}
use Rattle.drat.specs.declared.Kind.{Kind}
use Rattle.drat.specs.declared.Kind.TheVariants.{Add, Delete}
use Rattle.drat.specs.declared.Format.{Format}
use Rattle.std.specs.Prelude.{Result, Ok, Err}
use Rattle.drat.specs.declared.Size.{Size}

-- So many literals and steps.
abbrev pub size : ℕ → ℕ → Size
size n m = record { lits = n; steps = m }

-- The three lists that steps fill: all literal codes in a row, where each step ends in that row, and a kind for each step.
abbrev pub kind_number : Kind → ℕ
kind_number Add = 0
kind_number Delete = 1

unfoldable pub codes_of : List Step → List ℕ
codes_of [] = []
codes_of (s ∷ ss) = s.lits ++ codes_of ss

unfoldable pub ends_from : ℕ → List Step → List ℕ
ends_from n [] = []
ends_from n (s ∷ ss) = (n + length s.lits) ∷ ends_from (n + length s.lits) ss

unfoldable pub kinds_of : List Step → List ℕ
kinds_of [] = []
kinds_of (s ∷ ss) = kind_number s.kind ∷ kinds_of ss

-- ---- Read

-- What a call answers, and the words that it fills from the start of each slice.
pub record Filling : Type 0 where
  pub answer : Answer
  pub codes : List ℕ
  pub ends : List ℕ
  pub kinds : List ℕ

-- A refusal fills nothing.
abbrev pub refusing : ℕ → List ℕ → Filling
refusing n vs = record { answer = refused n vs; codes = []; ends = []; kinds = [] }

abbrev pub filling : List Step → Filling
filling ss = record { answer = accepted (length (codes_of ss) ∷ length ss ∷ []); codes = codes_of ss; ends = ends_from 0 ss; kinds = kinds_of ss }

-- 13 gives the place of the first token of the first broken step; then 2; a, b and c are the lengths of the slices for codes, ends and kinds.
unfoldable pub answer_of : Proof → ℕ → ℕ → ℕ → Filling
answer_of (fault_at i) a b c = refusing 13 (i ∷ [])
answer_of (steps ss) a b c = pick (ltb a (length (codes_of ss)) || ltb b (length ss) || ltb c (length ss)) (refusing 2 []) (filling ss)

abbrev pub read_of : Format → List ℕ → ℕ → ℕ → ℕ → Filling
read_of f s a b c = answer_of (read_proof f s) a b c

-- What the call returns: the numbers of literals and of steps; 13 and the place; 2.
abbrev pub read : Result Size ReadError → Answer
read (Ok w) = accepted (w.lits ∷ w.steps ∷ [])
read (Err (NotWhole p)) = refused 13 (p ∷ [])
read (Err Room) = refused 2 []

-- A call of the reader: its answer and the three slices, before (₀) and after.
pub record ReadCall (f : Format) (s codes₀ ends₀ kinds₀ codes ends kinds : List ℕ) (r : Result Size ReadError) : Type 0 where
  pub answer : read r ≡ (read_of f s (length codes₀) (length ends₀) (length kinds₀)).answer
  pub codes_after : codes ≡ sets codes₀ 0 (read_of f s (length codes₀) (length ends₀) (length kinds₀)).codes
  pub ends_after : ends ≡ sets ends₀ 0 (read_of f s (length codes₀) (length ends₀) (length kinds₀)).ends
  pub kinds_after : kinds ≡ sets kinds₀ 0 (read_of f s (length codes₀) (length ends₀) (length kinds₀)).kinds

-- ---- the first step alone

-- The place after a step, or the place i itself.
unfoldable pub end_of : ℕ → One → ℕ
end_of i (got s j) = j
end_of i fault = i

-- The place of the first token; 0 without any.
abbrev pub first_token : Format → List ℕ → ℕ
first_token f s = pick (ltb (lead f s) (length s)) (lead f s) 0

-- The step at that place, from there to its end; 13 with the place.
unfoldable pub first_by : ℕ → List ℕ → One → Answer
first_by i s (got t j) = accepted (part i j s)
first_by i s fault = refused 13 (i ∷ [])

abbrev pub first_of : Format → List ℕ → Answer
first_of f s = first_by (first_token f s) s (one_step f (first_token f s) (drop (first_token f s) s))

-- The part answered: an empty one is 13 at the first token's place i.
abbrev pub first : ℕ → List ℕ → Answer
first i [] = refused 13 (i ∷ [])
first i (b ∷ bs) = accepted (b ∷ bs)

-- ---- one scan, which stores where there is room

-- the number of literals and of steps, or the start of the first step that is not whole
unfoldable pub counted : Proof → Result Size ℕ
counted (steps ss) = Ok (size (length (codes_of ss)) (length ss))
counted (fault_at i) = Err i

-- its answer, and, where all is whole, what the three slices hold
pub record Scan (f : Format) (s codes₀ ends₀ kinds₀ codes ends kinds : List ℕ) (r : Result Size ℕ) : Type 0 where
  pub answer : r ≡ counted (read_proof f s)
  pub filled : (ss : List Step) → read_proof f s ≡ steps ss → (codes ≡ sets codes₀ 0 (codes_of ss)) × (ends ≡ sets ends₀ 0 (ends_from 0 ss))
      × (kinds ≡ sets kinds₀ 0 (kinds_of ss))

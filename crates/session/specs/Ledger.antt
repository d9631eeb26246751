-- The ledger (document 01, "Session"): entries about names, of which some show a global, and lines about clauses, which enter as steps.
use Rattle.std.specs.Prelude.{ℕ, ◌+◌, ◌*◌, ◌≡◌, Bool, true, false, ◌&&◌, ◌||◌, not, List, [], ◌∷◌, eqb}
use Rattle.base.specs.Bounded.{any_of}
use Rattle.drat.specs.Grammar.{Step}
use Rattle.drat.specs.declared.Kind.{Kind}
use Rattle.scope.specs.Notes.{Note, user+, user-, solver+, solver-, deletes, changes, Held}
use Rattle.scope.specs.Entries.{Entry, noted, hides}

-- the notes alone
unfoldable pub notes_of : List Entry → List Note
notes_of [] = []
notes_of (noted n ∷ es) = n ∷ notes_of es
notes_of (hides g ∷ es) = notes_of es

-- the note is U(g,u) for some u
abbrev pub shows : ℕ → Note → Bool
shows g (user+ h u) = eqb h g
shows g (user- h) = false
shows g (solver+ h s) = false
shows g (solver- h) = false
shows g (deletes h) = false
shows g (changes h sample) = false

-- the note is D(g)
abbrev pub drops : ℕ → Note → Bool
drops g (user+ h u) = false
drops g (user- h) = false
drops g (solver+ h s) = false
drops g (solver- h) = false
drops g (deletes h) = eqb h g
drops g (changes h sample) = false

-- the entry is a U grant to g
abbrev pub is_show : ℕ → Entry → Bool
is_show g (noted n) = shows g n
is_show g (hides h) = false

-- the entry is D(g) or an accepted Set mode of g to Hide
abbrev pub is_end : ℕ → Entry → Bool
is_end g (noted n) = drops g n
is_end g (hides h) = eqb h g

-- Some entry gives g a user, and no entry after it ends that.
unfoldable pub shown_by : List Entry → ℕ → Bool
shown_by [] g = false
shown_by (e ∷ es) g = (is_show g e && not (any_of (is_end g) es)) || shown_by es g

-- A clause as the ledger is told of it: added or deleted, its literals, whether these are solver literals, and all notes up to then.
pub record Line : Type 0 where
  pub kind : Kind
  pub solver_vars : Bool
  pub lits : List ℕ
  pub notes : List Note

abbrev pub line : Kind → Bool → List ℕ → List Note → Line
line kind solver_vars lits notes = record { kind = kind; solver_vars = solver_vars; lits = lits; notes = notes }

-- What a literal of a line becomes. A solver literal becomes the literal of its holder by the line's notes, positive or negative as it was,
-- and where no global is its holder, nothing at all. A global literal stays.
pub data EntersLit (notes : List Note) : Bool → ℕ → ℕ → Type 0 where
  plus : {s g : ℕ} → Held s g notes → EntersLit notes true (2 * s) (2 * g)
  minus : {s g : ℕ} → Held s g notes → EntersLit notes true (2 * s + 1) (2 * g + 1)
  given : {c : ℕ} → EntersLit notes false c c

-- two lists of one length, related one by one
pub data Pairwise {A B : Type 0} (R : A → B → Type 0) : List A → List B → Type 0 where
  nil : Pairwise R [] []
  cons : {x : A} {y : B} {xs : List A} {ys : List B} → R x y → Pairwise R xs ys → Pairwise R (x ∷ xs) (y ∷ ys)

pub record EntersStep (l : Line) (s : Step) : Type 0 where
  pub kind : s.kind ≡ l.kind
  pub lits : Pairwise (EntersLit l.notes l.solver_vars) l.lits s.lits

-- The lines enter as these clause steps.
abbrev pub Enters : List Line → List Step → Type 0
Enters ls ss = Pairwise EntersStep ls ss

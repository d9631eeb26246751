-- What an operation on the table comes to, and what a call comes to.
use Rattle.std.specs.Prelude.{ℕ, zero, suc, ◌*◌, Bool, List, [], ◌∷◌, ◌++◌, length, ltb}
use Rattle.base.specs.Choice.{pick}
use Rattle.base.specs.Answer.{Answer, accepted, refused}
use Rattle.scope.specs.Table.{Table}
use Rattle.scope.specs.Notes.{Note}

-- ---- operations

-- An operation's value, the table after it, and its notes in order.
pub record Result (A : Type 0) : Type 0 where
  pub value : A
  pub table : Table
  pub notes : List Note

-- nothing is done
abbrev pub stay : {A : Type 0} → A → Table → Result A
stay a t = record { value = a; table = t; notes = [] }

-- the first, then the second, which is given the value and the table of the first
infixl 20 ◌then◌
abbrev pub ◌then◌ : {A B : Type 0} → Result A → (A → Table → Result B) → Result B
x then f =
    record { value = (f x.value x.table).value; table = (f x.value x.table).table; notes = x.notes ++ (f x.value x.table).notes }

-- the same with another value
abbrev pub giving : {A B : Type 0} → (A → B) → Result A → Result B
giving f x = record { value = f x.value; table = x.table; notes = x.notes }

-- the first where the test holds, else the second
unfoldable pub choose : {A : Type 0} → Bool → Result A → Result A → Result A
choose b x y = pick b x y

-- the first, then the second; the values of both in a row
abbrev pub joined : Result (List ℕ) → (Table → Result (List ℕ)) → Result (List ℕ)
joined x f =
    record { value = x.value ++ (f x.table).value; table = (f x.table).table; notes = x.notes ++ (f x.table).notes }

-- f 0, f 1, .., f (n - 1) in turn
unfoldable pub each : ℕ → (ℕ → Table → Result (List ℕ)) → Table → Result (List ℕ)
each zero f t = stay [] t
each (suc n) f t = joined (each n f t) (f n)

-- ---- calls

-- A call's answer, the table it leaves, its notes, and what it fills into other lent slices: words, further words, bytes.
pub record Outcome : Type 0 where
  pub answer : Answer
  pub table : Table
  pub notes : List Note
  pub words : List ℕ
  pub more : List ℕ
  pub bytes : List ℕ

-- A refused call: its number is answered, and everything stays as it was.
abbrev pub refusal : ℕ → Table → Outcome
refusal n t = record { answer = refused n []; table = t; notes = []; words = []; more = []; bytes = [] }

-- the accepted call where the refusal is 0
unfoldable pub unless : ℕ → Table → Outcome → Outcome
unless zero t o = o
unless (suc n) t o = refusal (suc n) t

-- Refusal 2: a note is three words, and there is room for fewer.
abbrev pub short : ℕ → List Note → Bool
short room ns = ltb room (3 * length ns)

-- an accepted call that fills notes only, with the values answered, its count of notes last
abbrev pub noting : {A : Type 0} → (A → List ℕ) → Result A → Outcome
noting values x =
    record { answer = accepted (values x.value ++ (length x.notes ∷ [])); table = x.table; notes = x.notes; words = []; more = []; bytes = [] }

-- an accepted call that changes only the table
abbrev pub changing : Table → Outcome
changing t = record { answer = accepted []; table = t; notes = []; words = []; more = []; bytes = [] }

-- an accepted call that changes nothing
abbrev pub telling : List ℕ → Table → Outcome
telling vs t = record { answer = accepted vs; table = t; notes = []; words = []; more = []; bytes = [] }

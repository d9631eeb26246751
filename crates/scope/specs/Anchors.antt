-- Anchors: small cases of every call, each with what document 01 says of it in numbers. The tables of rows are in the files Anchors..,
-- one theorem holds over all of them (`anchored`, proofs/Anchored.antt). Nothing here goes through a definition that a row is about.
use Rattle.std.specs.Prelude.{ℕ, Bool, ◌≡◌, List, [], ◌∷◌, ltb}
use Rattle.base.specs.Choice.{pick}
use Rattle.base.specs.Answer.{Answer, accepted, refused}
use Rattle.scope.specs.Table.{Table}
use Rattle.scope.specs.Notes.{Note, notes_words}
use Rattle.scope.specs.Outcome.{Outcome}

-- What is looked at: all that a call does, with the words of its notes; or an answer alone, words, a number, a test.
pub data CallSeen : Type 0 where
  call : Outcome → List ℕ → CallSeen
  answer : Answer → CallSeen
  words : List ℕ → CallSeen
  number : ℕ → CallSeen
  test : Bool → CallSeen

-- what the definitions give, and what document 01 says
pub record Anchor : Type 0 where
  pub gives : CallSeen
  pub says : CallSeen

-- In every row they are the same.
abbrev pub AnchorsAgree : List Anchor → Type 0
AnchorsAgree [] = Unit {0}
AnchorsAgree (r ∷ rows) = (r.gives ≡ r.says) × AnchorsAgree rows

-- ---- how rows are written

infix 80 ◌is◌
abbrev pub ◌is◌ : CallSeen → CallSeen → Anchor
x is y = record { gives = x; says = y }

-- all that a call does
abbrev pub does : Outcome → CallSeen
does o = call o (notes_words o.notes)

-- words
abbrev pub w1 : ℕ → List ℕ
w1 a = a ∷ []

abbrev pub w2 : ℕ → ℕ → List ℕ
w2 a b = a ∷ b ∷ []

abbrev pub w3 : ℕ → ℕ → ℕ → List ℕ
w3 a b c = a ∷ b ∷ c ∷ []

abbrev pub w4 : ℕ → ℕ → ℕ → ℕ → List ℕ
w4 a b c d = a ∷ b ∷ c ∷ d ∷ []

abbrev pub w6 : ℕ → ℕ → ℕ → ℕ → ℕ → ℕ → List ℕ
w6 a b c d e f = a ∷ b ∷ c ∷ d ∷ e ∷ f ∷ []

-- A table: capacity, user, global and solver watermark, number of undeleted globals and least unmapped solver index; global from user, user from
-- global; solver from global, global from solver; assignment; records.
abbrev pub tab : ℕ → ℕ → ℕ → ℕ → ℕ → ℕ → List ℕ → List ℕ → List ℕ → List ℕ → List ℕ → List ℕ → Table
tab n u g s k m gu ug sg gs a r =
    record {
      counts = record { capacity = n; user = u; global = g; solver = s; used = k; next = m };
      global_from_user = gu;
      user_from_global = ug;
      solver_from_global = sg;
      global_from_solver = gs;
      assignment = a;
      records = r;
    }

-- 1 for an undeleted record
abbrev pub live : ℕ → ℕ
live r = pick (ltb r 36) 1 0

-- refused with this number: nothing is changed
abbrev pub turns : ℕ → Table → CallSeen
turns n t = call (record { answer = refused n []; table = t; notes = []; words = []; more = []; bytes = [] }) []

-- accepted with these values: nothing is changed; only the table is changed
abbrev pub says : List ℕ → Table → CallSeen
says vs t = call (record { answer = accepted vs; table = t; notes = []; words = []; more = []; bytes = [] }) []

-- accepted with these values, this table, these notes in these words
abbrev pub notes : List ℕ → Table → List Note → List ℕ → CallSeen
notes vs t ns ws = call (record { answer = accepted vs; table = t; notes = ns; words = []; more = []; bytes = [] }) ws

-- the same with words filled into a further slice
abbrev pub fills : List ℕ → Table → List Note → List ℕ → List ℕ → CallSeen
fills vs t ns ws outs = call (record { answer = accepted vs; table = t; notes = ns; words = outs; more = []; bytes = [] }) ws

-- accepted with these values, the table unchanged: words, further words, bytes
abbrev pub writes : List ℕ → Table → List ℕ → List ℕ → List ℕ → CallSeen
writes vs t outs more bs = call (record { answer = accepted vs; table = t; notes = []; words = outs; more = more; bytes = bs }) []

-- How the contracts read. This page first; the definitions of each call are in the file that its contract names.
--
-- Every call takes the table by the same parameters, in this order and by these names, which every contract repeats word for word:
--     c                the six counts: capacity, three watermarks, the two stored numbers; by value: they come back in the answer
--     gu ug            global from user, user from global: the first letter is what a word holds, the second what it stands at
--     sg gs            solver from global, global from solver
--     assignment       a word for each solver index
--     records          a word for each global index
-- then its own arguments, then the slices that it fills, `notes` last.
--
--     ensures { Meets (λ t room. grant_of t global.0 room) (granted result c)
--         (lent c (constant gu.now) (constant ug.now) (change sg.old sg.new) (change gs.old gs.new)
--             (change assignment.old assignment.new) (constant records.now) (change notes.old notes.new)) }
--
-- reads: of the table t that was lent, and the room lent for notes, the call does what `grant_of t global.0 room` says. `granted` gives
-- the number and the values of the answer, as document 01 has them, and the counts that come back. A further slice has a clause of its own.
use Rattle.std.specs.Prelude.{ℕ, ◌≡◌, List, [], length}
use Rattle.std.proofs.lemmas.List.Edits.{sets}
use Rattle.base.specs.Answer.{Answer}
use Rattle.base.specs.Lent.{Lent, constant, old, new}
use Rattle.scope.specs.declared.Counts.{Counts}
use Rattle.scope.specs.Table.{Table, table_of}
use Rattle.scope.specs.Notes.{notes_words}
use Rattle.scope.specs.Outcome.{Outcome}

-- ---- the table in lent slices

-- the words that a call was given: of a `&` those that it shows, of a `&mut` those at entry
abbrev pub given : Counts → List ℕ → List ℕ → List ℕ → List ℕ → List ℕ → List ℕ → Table
given = table_of

-- of lent slices: as the call was given it
abbrev pub before : Counts → Lent → Lent → Lent → Lent → Lent → Lent → Table
before c gu ug sg gs a r = table_of c (old gu) (old ug) (old sg) (old gs) (old a) (old r)

-- and as the call leaves it, with the counts c that it answers
abbrev pub after : Counts → Lent → Lent → Lent → Lent → Lent → Lent → Table
after c gu ug sg gs a r = table_of c (new gu) (new ug) (new sg) (new gs) (new a) (new r)

-- ---- a call

-- An answer with the counts that come back: those given, if it is a refusal.
pub record Said : Type 0 where
  pub answer : Answer
  pub counts : Counts

-- The memory lent to a call: the table given, the table left, by the counts answered, and the words lent for notes, before and after.
pub record Memory : Type 0 where
  pub table : Table
  pub leaves : Counts → Table
  pub notes : List ℕ
  pub noted : List ℕ

abbrev pub lent : Counts → Lent → Lent → Lent → Lent → Lent → Lent → Lent → Memory
lent c gu ug sg gs a r notes =
    record { table = before c gu ug sg gs a r; leaves = λ d. after d gu ug sg gs a r; notes = old notes; noted = new notes }

-- of a call that makes no notes
abbrev pub quiet : Counts → Lent → Lent → Lent → Lent → Lent → Lent → Memory
quiet c gu ug sg gs a r =
    record { table = before c gu ug sg gs a r; leaves = λ d. after d gu ug sg gs a r; notes = []; noted = [] }

-- of a call that makes no notes and is lent every list by a `&`
abbrev pub reads : Counts → List ℕ → List ℕ → List ℕ → List ℕ → List ℕ → List ℕ → Memory
reads c gu ug sg gs a r = quiet c (constant gu) (constant ug) (constant sg) (constant gs) (constant a) (constant r)

-- The answer and the table left are the outcome's. Its notes stand from the start of what was lent for them, and the words past them are
-- as they were.
pub record Does (o : Outcome) (said : Said) (left : Table) (words words' : List ℕ) : Type 0 where
  pub answer : said.answer ≡ o.answer
  pub table : left ≡ o.table
  pub noted : words' ≡ sets words 0 (notes_words o.notes)

-- A call with this memory said so: it does what the definition f gives of the table lent and the room for notes.
abbrev pub Meets : (Table → ℕ → Outcome) → Said → Memory → Type 0
Meets f said m = Does (f m.table (length m.notes)) said (m.leaves said.counts) m.notes m.noted

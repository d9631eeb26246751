-- Anchors of literals, records and notes.
use Rattle.std.specs.Prelude.{ℕ, ◌+◌, ◌*◌, Bool, false, true, ◌&&◌, not, List, [], ◌∷◌, eqb}
use Rattle.std.specs.Bool.{beq}
use Rattle.base.specs.Bounded.{all_below}
use Rattle.scope.specs.declared.SamplingMode.TheVariants.{Sample, Witness, Hide}
use Rattle.scope.specs.declared.Mark.TheVariants.{Used, Assumed, Released}
use Rattle.scope.specs.Literals.{code_of, index_of, sign_of, dimacs_of}
use Rattle.scope.specs.Table.{mode_of, unit_of, isolated_of, assumed_of, is_deleted, is_shown, fresh_record, user_record, with_mode, with_unit}
use Rattle.scope.specs.Notes.{user+, user-, solver+, solver-, deletes, changes, note_words, notes_words, held_by}
use Rattle.scope.specs.Modes.{mode_number, is_hidden}
use Rattle.scope.specs.Marks.{marked, true_value}
use Rattle.scope.specs.Anchors.{Anchor, ◌is◌, words, number, test, w2, w3, w4}

-- ---- literals: 2 × index, plus 1 if negative; the DIMACS number is index + 1

abbrev pub literal_anchors : List Anchor
literal_anchors =
    words (code_of 0 0 ∷ code_of 0 1 ∷ code_of 5 0 ∷ code_of 4095 1 ∷ []) is words (w4 0 1 10 8191)
    ∷ words (index_of 0 ∷ index_of 1 ∷ index_of 10 ∷ index_of 8191 ∷ []) is words (w4 0 0 5 4095)
    ∷ words (sign_of 0 ∷ sign_of 1 ∷ sign_of 10 ∷ sign_of 8191 ∷ []) is words (w4 0 1 0 1)
    ∷ number (dimacs_of 0).magnitude is number 1
    ∷ number (dimacs_of 8191).magnitude is number 4096
    ∷ test (dimacs_of 0).negative is test false
    ∷ test (dimacs_of 8191).negative is test true
    ∷ words (true_value 6 ∷ true_value 7 ∷ []) is words (w2 2 1)
    ∷ []

-- ---- records: mode + 3 × unit + 9 if isolated + 18 if assumed + 36 if deleted

-- mode, unit, isolated, assumed
abbrev pub parts_of : ℕ → List ℕ
parts_of r = mode_of r ∷ unit_of r ∷ isolated_of r ∷ assumed_of r ∷ []

abbrev pub record_parts : List Anchor
record_parts =
    words (parts_of 0) is words (w4 0 0 0 0)
    ∷ words (parts_of 1) is words (w4 1 0 0 0)
    ∷ words (parts_of 2) is words (w4 2 0 0 0)
    ∷ words (parts_of 3) is words (w4 0 1 0 0)
    ∷ words (parts_of 6) is words (w4 0 2 0 0)
    ∷ words (parts_of 9) is words (w4 0 0 1 0)
    ∷ words (parts_of 18) is words (w4 0 0 0 1)
    ∷ words (parts_of 34) is words (w4 1 2 1 1)
    ∷ words (parts_of 36) is words (w4 0 0 0 0)
    ∷ words (parts_of 71) is words (w4 2 2 1 1)
    ∷ test (is_deleted 35) is test false
    ∷ test (is_deleted 36) is test true
    ∷ test (is_shown 0) is test true
    ∷ test (is_shown 34) is test true
    ∷ test (is_shown 35) is test false
    ∷ test (is_shown 36) is test false
    ∷ test (is_shown 47) is test false
    ∷ test (is_hidden 0) is test false
    ∷ test (is_hidden 34) is test false
    ∷ test (is_hidden 35) is test true
    ∷ test (is_hidden 47) is test false
    -- a fresh record is deleted, Hide and isolated; a new user's is Sample and isolated
    ∷ words (fresh_record ∷ user_record ∷ []) is words (w2 47 9)
    ∷ words (parts_of 47) is words (w4 2 0 1 0)
    -- modes; a mode changed; a unit learned; marks
    ∷ words (mode_number Sample ∷ mode_number Witness ∷ mode_number Hide ∷ []) is words (w3 0 1 2)
    ∷ words (with_mode 71 0 ∷ with_mode 70 2 ∷ with_mode 34 1 ∷ []) is words (w3 69 71 34)
    ∷ words (with_unit 0 2 ∷ with_unit 26 1 ∷ with_unit 71 1 ∷ []) is words (w3 15 32 68)
    ∷ words (marked Used 71 ∷ marked Assumed 53 ∷ marked Released 71 ∷ []) is words (w3 62 71 53)
    ∷ []

-- A record from its parts, and a test of all seventy-two.
abbrev pub record_from : ℕ → ℕ → ℕ → ℕ → ℕ → ℕ
record_from m v i a d = m + 3 * v + 9 * i + 18 * a + 36 * d

abbrev pub every_record : (ℕ → ℕ → ℕ → ℕ → ℕ → Bool) → Bool
every_record p = all_below 3 (λ m. all_below 3 (λ v. all_below 2 (λ i. all_below 2 (λ a. all_below 2 (λ d. p m v i a d)))))

-- what becomes of the record with these parts is the record with those
abbrev pub turns_into : (ℕ → ℕ) → (ℕ → ℕ → ℕ → ℕ → ℕ → ℕ) → Bool
turns_into f r = every_record (λ m v i a d. eqb (f (record_from m v i a d)) (r m v i a d))

abbrev pub every_part : List Anchor
every_part =
    test (turns_into mode_of (λ m v i a d. m)) is test true
    ∷ test (turns_into unit_of (λ m v i a d. v)) is test true
    ∷ test (turns_into isolated_of (λ m v i a d. i)) is test true
    ∷ test (turns_into assumed_of (λ m v i a d. a)) is test true
    ∷ test (every_record (λ m v i a d. beq (is_deleted (record_from m v i a d)) (eqb d 1))) is test true
    ∷ test (every_record (λ m v i a d. beq (is_shown (record_from m v i a d)) (eqb d 0 && not (eqb m 2)))) is test true
    ∷ test (every_record (λ m v i a d. beq (is_hidden (record_from m v i a d)) (eqb d 0 && eqb m 2))) is test true
    ∷ test (turns_into (λ r. with_mode r 0) (λ m v i a d. record_from 0 v i a d)) is test true
    ∷ test (turns_into (λ r. with_mode r 1) (λ m v i a d. record_from 1 v i a d)) is test true
    ∷ test (turns_into (λ r. with_mode r 2) (λ m v i a d. record_from 2 v i a d)) is test true
    ∷ test (turns_into (λ r. with_unit r 1) (λ m v i a d. record_from m 1 1 a d)) is test true
    ∷ test (turns_into (λ r. with_unit r 2) (λ m v i a d. record_from m 2 1 a d)) is test true
    ∷ test (turns_into (marked Used) (λ m v i a d. record_from m v 0 a d)) is test true
    ∷ test (turns_into (marked Assumed) (λ m v i a d. record_from m v i 1 d)) is test true
    ∷ test (turns_into (marked Released) (λ m v i a d. record_from m v i 0 d)) is test true
    ∷ []

-- ---- notes in words: the kind's number, the global, and what is told of it

abbrev pub note_rows : List Anchor
note_rows =
    words (note_words (user+ 5 7)) is words (w3 0 5 8)
    ∷ words (note_words (user- 5)) is words (w3 0 5 0)
    ∷ words (note_words (solver+ 5 7)) is words (w3 1 5 8)
    ∷ words (note_words (solver- 5)) is words (w3 1 5 0)
    ∷ words (note_words (deletes 5)) is words (w3 2 5 0)
    ∷ words (note_words (changes 5 true)) is words (w3 3 5 1)
    ∷ words (note_words (changes 5 false)) is words (w3 3 5 0)
    ∷ words (notes_words (user+ 5 7 ∷ solver- 3 ∷ [])) is words (0 ∷ 5 ∷ 8 ∷ 1 ∷ 3 ∷ 0 ∷ [])
    ∷ words (notes_words []) is words []
    ∷ []

-- ---- who holds a solver index by the notes alone: g + 1, or 0 for nobody

abbrev pub held_rows : List Anchor
held_rows =
    number (held_by [] 0) is number 0
    ∷ number (held_by (solver+ 5 0 ∷ []) 0) is number 6
    ∷ number (held_by (solver+ 5 0 ∷ []) 1) is number 0
    ∷ number (held_by (solver+ 5 0 ∷ solver- 5 ∷ []) 0) is number 0
    ∷ number (held_by (solver- 5 ∷ solver+ 5 0 ∷ []) 0) is number 6
    ∷ number (held_by (solver+ 5 0 ∷ solver- 4 ∷ []) 0) is number 6
    ∷ number (held_by (solver+ 5 0 ∷ solver- 5 ∷ solver+ 4 0 ∷ []) 0) is number 5
    ∷ number (held_by (solver+ 5 0 ∷ solver+ 4 0 ∷ []) 0) is number 5
    ∷ number (held_by (solver+ 5 0 ∷ solver+ 4 0 ∷ solver- 4 ∷ []) 0) is number 0
    ∷ number (held_by (solver+ 5 0 ∷ solver+ 4 1 ∷ []) 0) is number 6
    ∷ number (held_by (solver+ 5 0 ∷ user- 5 ∷ user+ 4 0 ∷ deletes 5 ∷ changes 5 true ∷ []) 0) is number 6
    ∷ []

-- What an accepted call answers tells how much it filled, and there was room for it: so what it filled is read back from memory.
use Prim.Native.Nat.{ℕ, suc, ◌+◌, ◌*◌, ◌≤◌}
use mathlib.Core.Path.{◌≡◌, refl, ap, ◌∙◌}
use mathlib.Core.Bool.{true, false}
use mathlib.Core.List.{List, [], ◌∷◌, ◌++◌, append_assoc}
use native.Mathlib.Omega.{arith}
use lib.ListN.{length, take, drop}
use lib.Seq.{sets, sets-eq}
use Rattle.scope.specs.Table.{word}
use Rattle.scope.specs.Notes.{Note, user+, user-, solver+, solver-, deletes, changes, note_words, notes_words}
use Rattle.scope.specs.Outcome.{Outcome}
use Rattle.scope.proofs.ResultLaws.{word_some}
use Rattle.scope.proofs.NoteWords.{words_length}
use Rattle.session.specs.Entered.{lines_of}
use Rattle.session.specs.Session.{Turn}
use Rattle.session.specs.Made.{notes_in, last_or, filled_by}

pub record ToldFor (x : Turn) (vs : List ℕ) (o : Outcome) : Type 0 where
  pub notes : (filled_by x.call vs).notes ≡ length o.notes
  pub note_room : 3 * length o.notes ≤ x.rooms.notes
  pub lines : (out : List ℕ) (notes : List Note) → length out ≡ x.rooms.words
      → lines_of x.call vs (take (filled_by x.call vs).words (sets out 0 o.words)) notes ≡ lines_of x.call vs o.words notes
  pub bytes : (filled_by x.call vs).bytes ≡ length o.bytes
  pub byte_room : length o.bytes ≤ x.rooms.bytes

pub last_snoc : (d n : ℕ) (vs : List ℕ) → last_or d (vs ++ (n ∷ [])) ≡ n
last_snoc d n [] = refl
last_snoc d n (v ∷ vs) = last_snoc v n vs

-- ---- what was filled from the start of a slice

take_append : (ws rest : List ℕ) → take (length ws) (ws ++ rest) ≡ ws
take_append [] rest = refl
take_append (w ∷ ws) rest = ap (λ (l : List ℕ). w ∷ l) (take_append ws rest)

pub take_filled : (out ws : List ℕ) (n : ℕ) → n ≡ length ws → length ws ≤ length out → take n (sets out 0 ws) ≡ ws
take_filled out ws n e h = rw (e, sets-eq ws out 0 (omega arith)) (take_append ws (drop (0 + length ws) out))

-- ---- notes

note_read : (n : Note) (m : ℕ) (ws : List ℕ) → notes_in (suc m) (note_words n ++ ws) ≡ n ∷ notes_in m ws
unfolding notes_in word
note_read (user+ g u) m ws = ap (λ (n : Note). n ∷ notes_in m ws) (word_some (user- g) (λ u. user+ g u) (u + 1) u refl)
note_read (user- g) m ws = refl
note_read (solver+ g s) m ws = ap (λ (n : Note). n ∷ notes_in m ws) (word_some (solver- g) (λ s. solver+ g s) (s + 1) s refl)
note_read (solver- g) m ws = refl
note_read (deletes g) m ws = refl
note_read (changes g true) m ws = refl
note_read (changes g false) m ws = refl

notes_read : (ns : List Note) (ws : List ℕ) → notes_in (length ns) (notes_words ns ++ ws) ≡ ns
unfolding notes_in notes_words
notes_read [] ws = refl
notes_read (n ∷ ns) ws =
    ap (notes_in (length (n ∷ ns))) (append_assoc (note_words n) (notes_words ns) ws)
    ∙ note_read n (length ns) (notes_words ns ++ ws)
    ∙ ap (λ (l : List Note). n ∷ l) (notes_read ns ws)

pub notes_filled : (out : List ℕ) (ns : List Note) (n : ℕ) → n ≡ length ns → 3 * length ns ≤ length out → notes_in n (sets out 0 (notes_words ns)) ≡ ns
notes_filled out ns n e h =
    rw (e, sets-eq (notes_words ns) out 0 (let z = words_length ns in omega arith)) (notes_read ns (drop (0 + length (notes_words ns)) out))

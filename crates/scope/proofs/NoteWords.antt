-- Laws of the words of notes: three for each, those of one list after those of another.
use Prim.Native.Nat.{ℕ, ◌*◌}
use mathlib.Core.Path.{◌≡◌, refl, sym, ap, ◌∙◌}
use mathlib.Core.List.{List, [], ◌∷◌, ◌++◌, append_assoc}
use native.Mathlib.Omega.{arith}
use lib.ListN.{length, length-append}
use Rattle.scope.specs.Notes.{Note, note_words, notes_words}

pub words_three : (n : Note) → length (note_words n) ≡ 3
words_three (Note.user+ g u) = refl
words_three (Note.user- g) = refl
words_three (Note.solver+ g s) = refl
words_three (Note.solver- g) = refl
words_three (Note.deletes g) = refl
words_three (Note.changes g b) = refl

pub words_length : (ns : List Note) → length (notes_words ns) ≡ 3 * length ns
unfolding notes_words
words_length [] = refl
words_length (n ∷ ns) = length-append (note_words n) (notes_words ns) ∙ (let a = words_three n in let b = words_length ns in omega arith)

pub words_append : (ns ms : List Note) → notes_words (ns ++ ms) ≡ notes_words ns ++ notes_words ms
unfolding notes_words
words_append [] ms = refl
words_append (n ∷ ns) ms =
    ap (λ (l : List ℕ). note_words n ++ l) (words_append ns ms) ∙ sym (append_assoc (note_words n) (notes_words ns) (notes_words ms))

-- Notes (document 01, "Words used"): the naming steps given to `add_step`.
use Rattle.std.specs.Prelude.{ℕ, ◌+◌, ◌≡◌, Bool, false, ◌&&◌, not, List, [], ◌∷◌, ◌++◌, eqb}
use Rattle.base.specs.Choice.{pick}
use Rattle.base.specs.Bounded.{any_of}

-- U(g,u), U(g,-), S(g,s), S(g,-), D(g), C(g,yes or no)
pub data Note : Type 0 where
  user+ : (g u : ℕ) → Note
  user- : (g : ℕ) → Note
  solver+ : (g s : ℕ) → Note
  solver- : (g : ℕ) → Note
  deletes : (g : ℕ) → Note
  changes : (g : ℕ) (sample : Bool) → Note

-- A note in words: the kind's number, the global, and what is told of it: an index + 1, or 0 where it is withdrawn; yes or no; 0 for D.
abbrev pub note_words : Note → List ℕ
note_words (user+ g u) = 0 ∷ g ∷ (u + 1) ∷ []
note_words (user- g) = 0 ∷ g ∷ 0 ∷ []
note_words (solver+ g s) = 1 ∷ g ∷ (s + 1) ∷ []
note_words (solver- g) = 1 ∷ g ∷ 0 ∷ []
note_words (deletes g) = 2 ∷ g ∷ 0 ∷ []
note_words (changes g sample) = 3 ∷ g ∷ pick sample 1 0 ∷ []

unfoldable pub notes_words : List Note → List ℕ
notes_words [] = []
notes_words (n ∷ ns) = note_words n ++ notes_words ns

-- ---- who holds a solver index by the notes alone

-- the note is an S grant of s
abbrev pub grants : ℕ → Note → Bool
grants s (user+ g u) = false
grants s (user- g) = false
grants s (solver+ g k) = eqb k s
grants s (solver- g) = false
grants s (deletes g) = false
grants s (changes g sample) = false

-- the note is S(g,-)
abbrev pub withdraws : ℕ → Note → Bool
withdraws g (user+ h u) = false
withdraws g (user- h) = false
withdraws g (solver+ h k) = false
withdraws g (solver- h) = eqb h g
withdraws g (deletes h) = false
withdraws g (changes h sample) = false

-- g holds s: among the notes is S(g,s), and after it neither another grant of s nor a withdrawal from g.
pub data Held (s g : ℕ) : List Note → Type 0 where
  latest : {ns : List Note} → any_of (grants s) ns ≡ false → any_of (withdraws g) ns ≡ false → Held s g (solver+ g s ∷ ns)
  older : {n : Note} {ns : List Note} → Held s g ns → Held s g (n ∷ ns)

-- the global that a note names
abbrev pub global_of : Note → ℕ
global_of (user+ g u) = g
global_of (user- g) = g
global_of (solver+ g s) = g
global_of (solver- g) = g
global_of (deletes g) = g
global_of (changes g sample) = g

-- The holder of s as a map's word: its index + 1, or 0 for none.
unfoldable pub held_by : List Note → ℕ → ℕ
held_by [] s = 0
held_by (n ∷ ns) s =
    pick (grants s n && (not (any_of (grants s) ns) && not (any_of (withdraws (global_of n)) ns))) (global_of n + 1) (held_by ns s)

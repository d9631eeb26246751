-- The number and the values of the answer of Simplify binary; no count changes.
use Rattle.std.specs.Prelude.{ℕ, ◌/◌, Bool, ◌||◌, List, [], ◌∷◌, ltb, length, Result, Ok, Err}
use Rattle.base.specs.Choice.{pick}
use Rattle.base.specs.Answer.{accepted, refused}
use Rattle.scope.specs.Contract.{Said}
use Rattle.scope.specs.declared.Counts.{Counts}
use Rattle.binary.specs.declared.Thinned.{Thinned}
use Rattle.scope.specs.declared.Refusal.{Refusal}
use Rattle.scope.specs.declared.Refusal.TheVariants.{Short}
use Rattle.scope.specs.Refusals.{number}

abbrev pub thinned : Result Thinned Refusal → Counts → Said
thinned (Ok r) c = record { answer = accepted (r.words ∷ r.half ∷ r.bytes ∷ []); counts = c }
thinned (Err r) c = record { answer = refused (number r) []; counts = c }

-- Words, entries and bytes with so much room: 2, what is answered, what is filled.
abbrev pub lacks : List ℕ → List ℕ → ℕ → ℕ → Bool
lacks words bytes outs room = ltb outs (length words) || ltb room (length bytes)

abbrev pub thinned_by : List ℕ → List ℕ → List ℕ → ℕ → ℕ → Result Thinned Refusal
thinned_by words entries bytes outs room =
    pick (lacks words bytes outs room) (Err Short) (Ok (record { words = length words; half = length entries / 2; bytes = length bytes }))

abbrev pub fills_words : List ℕ → List ℕ → ℕ → ℕ → List ℕ
fills_words words bytes outs room = pick (lacks words bytes outs room) [] words

abbrev pub fills_bytes : List ℕ → List ℕ → ℕ → ℕ → List ℕ
fills_bytes words bytes outs room = pick (lacks words bytes outs room) [] bytes

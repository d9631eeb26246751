-- The call that writes one clause of a buffer: what it answers, and the bytes that it fills.
use Rattle.std.specs.Prelude.{ℕ, ◌+◌, ◌-◌, List, [], ◌∷◌, Bool, ◌||◌, not, ltb, length, get_or, take, drop, Result, Ok, Err}
use Rattle.base.specs.Choice.{pick}
use Rattle.base.specs.Bounded.{all_below}
use Rattle.base.specs.Answer.{Answer, accepted, refused}
use Rattle.drat.specs.Grammar.{step_of, encode_step}
use Rattle.drat.specs.declared.WriteError.{WriteError}
use Rattle.drat.specs.declared.WriteError.TheVariants.{Outside, Room}
use Rattle.drat.specs.declared.Kind.{Kind}
use Rattle.drat.specs.declared.Format.{Format}

-- What a call answers, and the bytes that it fills.
pub record Writing : Type 0 where
  pub answer : Answer
  pub bytes : List ℕ

-- The words from a to b.
abbrev pub part : ℕ → ℕ → List ℕ → List ℕ
part a b l = take (b - a) (drop a l)

-- Every code is below 8192, as a test.
abbrev pub codes_test : List ℕ → Bool
codes_test cs = all_below (length cs) (λ i. ltb (get_or cs i 0) 8192)

-- a to b is no part of the buffer, or over 8192 literals long, or has a code that is too large.
abbrev pub no_clause : List ℕ → ℕ → ℕ → Bool
no_clause buf a b = ltb b a || (ltb (length buf) b || (ltb 8192 (b - a) || not (codes_test (part a b buf))))

-- Bytes written from the place `at` on of an output of `room` bytes: 2 where they do not fit, else the place after them.
abbrev pub fitted : List ℕ → ℕ → ℕ → Writing
fitted bytes room at = pick (ltb room (at + length bytes)) (record { answer = refused 2 []; bytes = [] })
    (record { answer = accepted ((at + length bytes) ∷ []); bytes = bytes })

-- The literals from a to b of a buffer as one step: 3, 2.
abbrev pub write_clause_of : Format → Kind → List ℕ → ℕ → ℕ → ℕ → ℕ → Writing
write_clause_of f k buf a b room at = pick (no_clause buf a b) (record { answer = refused 3 []; bytes = [] })
    (fitted (encode_step f (step_of k (part a b buf))) room at)

-- What a writer returns: the place after what was filled; 3; 2.
abbrev pub wrote : Result ℕ WriteError → Answer
wrote (Ok e) = accepted (e ∷ [])
wrote (Err Outside) = refused 3 []
wrote (Err Room) = refused 2 []

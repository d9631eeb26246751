-- Parts of Pose over the lists that they read: users that have a solver index already.
use Rattle.std.specs.Prelude.{ℕ, ◌+◌, ◌-◌, ◌≤◌, ◌<◌, ◌≡◌, Bool, true, false, ◌&&◌, List, map, ◌≢◌, length, get_or, set, Result, Ok, Err}
use Rattle.std.proofs.lemmas.List.Edits.{sets}
use Rattle.base.specs.Bounded.{any_of}
use Rattle.base.specs.Choice.{pick}
use Rattle.scope.specs.Literals.{code_of, index_of, sign_of}
use Rattle.scope.specs.Table.{word}
use Rattle.naming.specs.Parts.{is_unsampled}
use Rattle.std.specs.Result.{is_ok}

-- the word of the solver index that a user has, 0 for none
unfoldable pub held_word : List ℕ → List ℕ → ℕ → ℕ
held_word gu sg u = word 0 (λ g. get_or sg g 0) (get_or gu u 0)

-- the solver literal of a literal whose user has a solver index
unfoldable pub held_code : List ℕ → List ℕ → ℕ → ℕ
held_code gu sg c = code_of (held_word gu sg (index_of c) - 1) (sign_of c)

-- the users of the first n literals have solver indices
pub record HeldTo (gu sg lits : List ℕ) (n : ℕ) : Type 0 where
  pub most : n ≤ length lits
  pub held : (i : ℕ) → i < n → held_word gu sg (index_of (get_or lits i 0)) ≢ 0

-- A run of literals from place a on whose users have solver indices: where it ends, and the list in which the solver literal of each was stored.
pub data HeldRun (gu sg lits : List ℕ) (a : ℕ) (out : List ℕ) : ℕ → List ℕ → Type 0 where
  none : HeldRun gu sg lits a out a out
  more : {b : ℕ} {m : List ℕ} (s : ℕ) → HeldRun gu sg lits a out b m → b < length lits → held_word gu sg (index_of (get_or lits b 0)) ≡ s + 1
      → HeldRun gu sg lits a out (b + 1) (set m b (code_of s (sign_of (get_or lits b 0))))

-- Nothing is to be mapped, granted or refused: at most 8,192 literals, a place for each, all users have solver indices, and all are sampled if
-- that is required.
pub record AllHeld (gu sg records lits : List ℕ) (sampling : Bool) (outs : ℕ) : Type 0 where
  pub few : length lits ≤ 8192
  pub places : length lits ≤ outs
  pub held : HeldTo gu sg lits (length lits)
  pub sampled : sampling && any_of (λ c. is_unsampled gu records (index_of c)) lits ≡ false

-- the literals from the start on that an answer tells of: all n, or the number that it gives
abbrev pub lead_of : ℕ → Result (Unit {0}) ℕ → ℕ
lead_of n (Ok _) = n
lead_of n (Err k) = k

-- Where the answer is that all were filled, it is so, and they are; where it is not, nothing is. Either way the literals that it tells of are of users
-- with solver indices.
pub record HeldTried (gu sg records lits : List ℕ) (sampling : Bool) (r : Result (Unit {0}) ℕ) (out out' : List ℕ) : Type 0 where
  pub lead : HeldTo gu sg lits (lead_of (length lits) r)
  pub all : is_ok r ≡ true → AllHeld gu sg records lits sampling (length out)
  pub stored : out' ≡ pick (is_ok r) (sets out 0 (map (held_code gu sg) lits)) out

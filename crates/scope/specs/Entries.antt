-- What a ledger enters of names: a note, or that an accepted Set mode hid a global.
use Rattle.std.specs.Prelude.{ℕ}
use Rattle.scope.specs.Notes.{Note}

pub data Entry : Type 0 where
  noted : Note → Entry
  hides : (g : ℕ) → Entry

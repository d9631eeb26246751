-- What lets a table be known as sound without a test: Open makes a sound table, and no call, accepted or refused, with any arguments and any
-- rooms, leaves a sound table unsound. So of a table that was opened, or found sound, and since then changed by calls alone, every call finds it sound.
use Prim.Native.Nat.{ℕ}
use mathlib.Core.Path.{◌≡◌, ap, ◌∙◌}
use mathlib.Core.Bool.{true}
use mathlib.Core.List.{List, [], ◌∷◌}
use Rattle.base.specs.Answer.{accepted}
use Rattle.drat.specs.declared.Format.{Format}
use Rattle.scope.specs.Table.{Table}
use Rattle.scope.specs.Sound.{soundb}
use Rattle.scope.specs.Open.{open_of}
use Rattle.scope.specs.Calls.{Call, Rooms, perform}
use Rattle.scope.proofs.SoundLaws.{sound_to}
use Rattle.scope.proofs.OpenLaws.{open_sound}
use Rattle.session.specs.Session.{Turn, turn, turn_does, State, start, after_turn, run}
use Rattle.session.proofs.KeptLaws.{turn_sound}
use Rattle.session.proofs.AssumedLaws.{after_table}
use Rattle.session.proofs.SessionLaws.{demand3}

-- every call
pub call_sound : (f : Format) (call : Call) (rooms : Rooms) (t : Table) → soundb t ≡ true → soundb (perform f call rooms t).table ≡ true
unfolding turn_does
call_sound f call rooms t h = turn_sound f (turn call rooms) t h

-- every accepted Open
pub opened_sound : (t : Table) (vs : List ℕ) → (open_of t).answer ≡ accepted vs → soundb (open_of t).table ≡ true
opened_sound t vs e = sound_to _ (open_sound t vs e)

after_sound : (f : Format) (σ : State) (x : Turn) → soundb σ.table ≡ true → soundb (after_turn f σ x).table ≡ true
unfolding after_turn
after_sound f σ x h =
    let o = turn_does f x σ.table in
    ap soundb (after_table σ x.call o o.answer) ∙ turn_sound f x σ.table h

-- any list of calls on a table found sound
pub calls_sound : (f : Format) (σ : State) (xs : List Turn) → soundb σ.table ≡ true → soundb (run f σ xs).table ≡ true
unfolding run
calls_sound f σ [] h = h
calls_sound f σ (x ∷ xs) h = calls_sound f (after_turn f σ x) xs (after_sound f σ x h)

-- any list of calls after one accepted Open: demand 3 has it
pub run_sound : (f : Format) (t : Table) (vs : List ℕ) → (open_of t).answer ≡ accepted vs → (xs : List Turn)
    → soundb (run f (start (open_of t).table) xs).table ≡ true
run_sound f t vs e xs = (demand3 f t vs e xs).sound
